use Rattle.nvram_log.proofs.Prelude.{◌≡◌, ◌∙◌, inl, inr, ◌+◌, ℕ, List, [], ◌∷◌, ◌++◌, Some, None, length, length-append, arith, sym, ap, subst, nvram, is_open, IsLogged, IsShownAs, Logged}
use Rattle.std.specs.Prelude.{Option, IfSome}
use Rattle.nvram_log.proofs.Lists.{at_end, pushed}
use Rattle.nvram_log.proofs.Looking.{reads_then}
use Rattle.nvram_log.proofs.reading.read_slots.Goals as goal

-- the number of what was read, where something was
logged_if : (n : ℕ) (o : Option Logged) (l : Logged) → IfSome o (IsLogged n) → o ≡ Some l → IsLogged n l
logged_if n (Some d) l is e = subst (IsLogged n) (let same : d ≡ l = cc e in same) is
logged_if n None l is e = absurd (cc e)

pub returns-in_err-record-clause-reads : goal.returns-in_err-record-clause-reads
returns-in_err-record-clause-reads g c = reads_then g.met.S.Shelf.shelf_rest_stays c.loop-i.invariant.reads c.read_slot.ensures.reads

pub returns-then-is_err-clause-reads : goal.returns-then-is_err-clause-reads
returns-then-is_err-clause-reads g c = reads_then g.met.S.Shelf.shelf_rest_stays c.loop-i.invariant.reads c.read_slot.ensures.reads

pub loop-i-preserved : goal.loop-i-preserved
loop-i-preserved g c =
    let inv = c.loop-i.invariant in
    let i = c.loop-i.i in
    let it : Option Logged = c.in_ok-record.record in
    let old : List (Option Logged) = c.loop-i.records.items in
    let device = nvram c.args.device.0 in
    let bytes : List ℕ = ((g.S.Shelf.shelf c.args.shelf.now).disk device).bytes in
    let new = pushed c.push.result c.is_err.result c.push.new.self.items old (old ++ it ∷ []) c.is_err.ensures.value c.if-is_err.false c.push.ensures.items in
    let here : length old ≡ i = inv.size in
    record {
      reads = reads_then g.met.S.Shelf.shelf_rest_stays inv.reads c.read_slot.ensures.reads;
      size = ap (length {A = Option Logged}) new ∙ omega (arith, length-append old (it ∷ []), here);
      numbered = λ k l there. elim (at_end old it k (Some l) (rw new at there)) [
        | inl before ↦ inv.numbered k l before
        | inr last ↦ subst (λ (n : ℕ). IsLogged (c.args.flushed + 1 + n) l) (let e : i ≡ k = omega (arith, last.0, here) in e) (logged_if (c.args.flushed + 1 + i) it l c.in_ok-record.ensures.numbered last.1)
      ];
      shows = λ h told k o at. elim (at_end old it k o (rw new at at)) [
        | inl before ↦ inv.shows h told k o before
        | inr last ↦
            let same = (inv.reads.same h device).bytes in
            let flag = told i c.loop-i-test.true in
            let shown = c.in_ok-record.ensures.shown (inv.reads.ran.on.continues.honest h) (flag ∙ ap (is_open i) (sym same)) in
            subst (λ (n : ℕ). IsShownAs bytes c.args.flushed n o) (let e : i ≡ k = omega (arith, last.0, here) in e)
            (subst (IsShownAs bytes c.args.flushed i) last.1 (subst (λ (b : List ℕ). IsShownAs b c.args.flushed i it) same shown))
      ];
    }
