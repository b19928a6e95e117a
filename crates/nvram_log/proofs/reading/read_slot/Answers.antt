use Rattle.nvram_log.proofs.Prelude.{◌≡◌, ◌∙◌, ◌+◌, ◌*◌, ℕ, List, length, take, slice_range, subst, ap, sym, arith, with_items_is, nvram, slot_place, Decodes, IsLogged, slot_at, command_of_logged}
use Rattle.nvram_log.specs.lemmas.Heads.{few_data, spells_front}
use Rattle.nvram_log.proofs.Assembled.{assembled, first_is, none_shown}
use Rattle.nvram_log.proofs.Looking.{reads_then}
use Rattle.nvram_log.proofs.Losing.{rises_between}
use Rattle.nvram_log.proofs.reading.read_slot.Goals as goal

pub returns-in_default-clause-shown : goal.returns-in_default-clause-shown
returns-in_default-clause-shown g c h gate d = none_shown c.in_ok-first.first ((g.S.Shelf.shelf c.args.shelf.now).disk (nvram c.args.device.0)).bytes c.args.flushed c.args.i (first_is c.in_ok-first.first _ c.args.i (c.in_ok-first.ensures.sector h)) c.in_default.ensures.none d

pub read_behind-requires-clause-size : goal.read_behind-requires-clause-size
read_behind-requires-clause-size g c =
    let size : length c.deref_mut.result.now ≡ 512 * (1 + c.data_sectors.result) = ap (length {A = ℕ}) c.deref_mut.ensures.value ∙ c.in_ok-bytes.ensures.size in
    let few = few_data c.in-Some.head.command c.in-Some.ensures.some.0.head.command in
    (omega (arith, size), omega (arith, size, few, c.data_sectors.ensures))

pub returns-in_err-read_behind-clause-reads : goal.returns-in_err-read_behind-clause-reads
returns-in_err-read_behind-clause-reads g c = reads_then g.met.S.Shelf.shelf_rest_stays c.read_first.ensures.reads c.read_behind.ensures.reads

pub returns-clause-reads : goal.returns-clause-reads
returns-clause-reads g c = reads_then g.met.S.Shelf.shelf_rest_stays c.read_first.ensures.reads c.read_behind.ensures.reads

pub returns-in_err-read_behind-clause-failed : goal.returns-in_err-read_behind-clause-failed
returns-in_err-read_behind-clause-failed g c is = rises_between _ _ _ _ (c.read_first.ensures.reads.ran.on.continues.faults (nvram c.args.device.0)) c.in_err-read_behind.ensures.failed (omega arith)

pub logged_of-requires-clause-size : goal.logged_of-requires-clause-size
logged_of-requires-clause-size g c =
    let items = with_items_is c.in_ok-bytes.bytes c.read_behind.new.text (c.read_behind.auto.text ∙ c.deref_mut.ensures.len) in
    ap (length {A = ℕ}) items ∙ c.read_behind.auto.text ∙ ap (length {A = ℕ}) c.deref_mut.ensures.value ∙ omega (arith, c.in_ok-bytes.ensures.size, c.data_sectors.ensures)

pub logged_of-requires-clause-head : goal.logged_of-requires-clause-head
logged_of-requires-clause-head g c =
    let items = with_items_is c.in_ok-bytes.bytes c.read_behind.new.text (c.read_behind.auto.text ∙ c.deref_mut.ensures.len) in
    let first = ap (take 512) items ∙ c.read_behind.ensures.first ∙ ap (take 512) c.deref_mut.ensures.value ∙ c.in_ok-bytes.ensures.first in
    subst (λ (l : List ℕ). Decodes l c.in-Some.head) (sym first) c.in-Some.ensures.some.0

pub returns-clause-numbered : goal.returns-clause-numbered
returns-clause-numbered g c = subst (λ (n : ℕ). IsLogged n c.logged_of.result) c.in-Some.ensures.some.1 c.logged_of.ensures.logged

pub returns-clause-shown : goal.returns-clause-shown
returns-clause-shown g c h gate =
    let bytes : List ℕ = ((g.S.Shelf.shelf c.args.shelf.now).disk (nvram c.args.device.0)).bytes in
    let text = c.read_behind.new.text in
    let i = c.args.i in
    let size = c.read_behind.auto.text ∙ ap (length {A = ℕ}) c.deref_mut.ensures.value ∙ c.in_ok-bytes.ensures.size in
    let few = few_data c.in-Some.head.command c.in-Some.ensures.some.0.head.command in
    let items = with_items_is c.in_ok-bytes.bytes text (c.read_behind.auto.text ∙ c.deref_mut.ensures.len) in
    let reads = c.read_first.ensures.reads in
    let same = (reads.same h (nvram c.args.device.0)).bytes in
    let first = c.read_behind.ensures.first ∙ ap (take 512) c.deref_mut.ensures.value ∙ c.in_ok-bytes.ensures.first ∙ first_is c.in_ok-first.first bytes i (c.in_ok-first.ensures.sector h) in
    let logged = subst (λ (n : ℕ). IsLogged n c.logged_of.result) c.in-Some.ensures.some.1 c.logged_of.ensures.logged in
    let n = 512 * (1 + c.data_sectors.result) in
    let behind : slice_range text 512 n ≡ slice_range bytes (slot_place i + 512) (slot_place i + n) =
    subst (λ (k : ℕ). slice_range text 512 k ≡ slice_range bytes (slot_place i + 512) (slot_place i + k)) (ap (length {A = ℕ}) c.deref_mut.ensures.value ∙ c.in_ok-bytes.ensures.size)
    (c.in_ok-read_behind.ensures.behind (reads.ran.on.continues.honest h) ∙ ap (λ (l : List ℕ). slice_range l (slot_place i + 512) (slot_place i + length {A = ℕ} c.deref_mut.result.now)) same) in
    let front = assembled text bytes i n (omega arith) (omega (arith, few, c.data_sectors.ensures)) size first behind in
    record {
      slot = c.requires.slot;
      gate = sym gate ∙ c.if-not-flag.false;
      spelled = spells_front (slot_at i bytes) n (c.args.flushed + 1 + i) (command_of_logged c.logged_of.result) logged.lawful (front ∙ sym items ∙ sym c.logged_of.ensures.bytes ∙ logged.read.text);
    }
