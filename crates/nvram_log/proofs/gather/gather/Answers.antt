use Rattle.nvram_log.proofs.Prelude.{◌≡◌, ◌∙◌, ◌⊎◌, inl, inr, ◌≢◌, ℕ, List, [], ◌∷◌, ◌++◌, slice_get, length, length-append, arith, sym, ap, subst, Logged, IsThere, NoneThere}
use Rattle.std.specs.Prelude.{Option}
use Rattle.nvram_log.proofs.Lists.{at_end, pushed}
use Rattle.nvram_log.proofs.gather.gather.Goals as goal

-- the next one was found
found : (first second a b : List (Option Logged)) (i : ℕ) (l : Logged) → slice_get a i ≡ slice_get first i → slice_get b i ≡ slice_get second i → IsThere a i l ⊎ (NoneThere a i × IsThere b i l) → IsThere first i l ⊎ (NoneThere first i × IsThere second i l)
found first second a b i l same also (inl there) = inl (sym same ∙ there)
found first second a b i l same also (inr there) = inr ((λ d is. there.0 d (same ∙ is)), sym also ∙ there.1)

pub loop-i-preserved : goal.loop-i-preserved
loop-i-preserved c =
    let inv = c.loop-i.invariant in
    let i = c.loop-i.i in
    let it = c.in-Some.record in
    let old = c.loop-i.records.items in
    let new = pushed c.push.result c.is_err.result c.push.new.self.items old (old ++ it ∷ []) c.is_err.ensures.value c.if-is_err.false c.push.ensures.items in
    record {
      size = ap (length {A = Logged}) new ∙ omega (arith, length-append old (it ∷ []), inv.size);
      room = omega (arith, inv.room, c.push.ensures.capacity);
      each = λ k x at. elim (at_end old it k x (rw new at at)) [
        | inl before ↦ inv.each k x before
        | inr last ↦
            let e : i ≡ k = omega (arith, last.0, inv.size) in
            subst (λ (n : ℕ). IsThere c.args.first.now n x ⊎ (NoneThere c.args.first.now n × IsThere c.args.second.now n x)) e
            (subst (λ (y : Logged). IsThere c.args.first.now i y ⊎ (NoneThere c.args.first.now i × IsThere c.args.second.now i y)) last.1
            (found c.args.first.now c.args.second.now c.loop-i.first c.loop-i.second i it (inv.first i (omega arith)) (inv.second i (omega arith)) c.in-Some.ensures.some))
      ];
      first = λ k le. let ne : k ≢ i = omega (arith, le) in c.take_next.ensures.first k ne ∙ inv.first k (omega (arith, le));
      second = λ k le. let ne : k ≢ i = omega (arith, le) in c.take_next.ensures.second k ne ∙ inv.second k (omega (arith, le));
    }
