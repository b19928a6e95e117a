use Rattle.nvram_log.proofs.Prelude.{◌≡◌, ◌∙◌, ◌<◌, ◌+◌, ℕ, List, true, false, ap, sym, subst, arith, get_or-between, slice_index, slice_range, slice_index_or, is_open, nvram, AreShownAs}
use Rattle.nvram_log.proofs.Looking.{reads_then}
use Rattle.nvram_log.proofs.Showing.{same_gate}
use Rattle.nvram_log.proofs.reading.read_device.Goals as goal

gate_in : (gates bytes : List ℕ) (i : ℕ) → i < 64 → gates ≡ slice_range bytes 0 64 → is_open i gates ≡ is_open i bytes
gate_in gates bytes i lt is =
    same_gate bytes gates i (ap (λ (l : List ℕ). slice_index l i) is ∙ get_or-between bytes 0 64 i 0 (omega (arith, lt)) ∙ ap (slice_index bytes) (let e : 0 + i ≡ i = omega arith in e))

pub returns-in_err-is_member-clause-reads : goal.returns-in_err-is_member-clause-reads
returns-in_err-is_member-clause-reads g c = reads_then g.met.S.Shelf.shelf_rest_stays c.read_gates-has_gates.ensures.reads c.read_member.ensures.reads

pub returns-clause-reads : goal.returns-clause-reads
returns-clause-reads g c = reads_then g.met.S.Shelf.shelf_rest_stays c.read_gates-has_gates.ensures.reads c.read_member.ensures.reads

pub returns-clause-read : goal.returns-clause-read
returns-clause-read g c =
    let device = nvram c.args.device.0 in
    let bytes : List ℕ = ((g.S.Shelf.shelf c.args.shelf.now).disk device).bytes in
    let x = c.read_gates-has_gates.ensures in
    let y = c.in_ok-is_member.ensures in
    let gates : (g.S.Shelf.shelf c.args.shelf.now).honest → c.in_ok-is_member.is_member ≡ true → (i : ℕ) → i < 64 → slice_index_or c.open_in-open.result i false ≡ is_open i bytes =
    λ h member i lt. c.open_in-open.ensures i lt ∙ gate_in c.read_gates-has_gates.new.gates bytes i lt (x.gates h (y.before member)) in
    record {
      size = y.size;
      none = y.none;
      numbered = y.numbered;
      shows = λ h member.
          let same = (x.reads.same h device).bytes in
          subst (λ (b : List ℕ). AreShownAs b c.args.flushed c.read_member.new.records.items) same
          (y.shows (x.reads.ran.on.continues.honest h) (λ i lt. gates h member i lt ∙ ap (is_open i) (sym same)) member);
      gates = gates;
    }
