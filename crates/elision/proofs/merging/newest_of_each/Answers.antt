use Rattle.elision.proofs.Prelude.{◌≡◌, ◌∙◌, ◌++◌, ◌∷◌, ℕ, ◌+◌, ◌-◌, ◌<◌, ◌≤◌, List, [], length, get_or, take, drop, sym, ap, inl, inr, arith, lasts}
use Rattle.std.proofs.lemmas.List.{append_assoc, get_or-drop, length-drop, take_more}
use Rattle.std.proofs.lemmas.Option.{slice_get_cases}
use Rattle.elision.proofs.merging.newest_of_each.Goals.{then-not-is_last+in_ok-extend_from_slice, else-not-is_last}
use Rattle.elision.proofs.merging.newest_of_each.Goals as goal

module _ {F : Type 0} (fs : List F) (i start : ℕ) (order : start ≤ i) (within : i < length fs) where
  -- the next fact, as one of those that aren't there yet
  one_more : (x : F) (rest : List F) → get_or fs i x ≡ x → take (i + 1 - start) (drop start fs) ++ rest ≡ take (i - start) (drop start fs) ++ (x ∷ rest)
  one_more x rest is =
      let n : i + 1 - start ≡ i - start + 1 = omega (arith, order) in
      let at : start + (i - start) ≡ i = omega (arith, order) in
      let here : get_or (drop start fs) (i - start) x ≡ x = get_or-drop start fs (i - start) x ∙ ap (λ (p : ℕ). get_or fs p x) at ∙ is in
      rw n (ap (λ (l : List F). l ++ rest) (take_more (drop start fs) (i - start) x (omega (arith, order, within, length-drop start fs)) ∙ ap (λ (y : F). take (i - start) (drop start fs) ++ y ∷ []) here)
      ∙ append_assoc (take (i - start) (drop start fs)) (x ∷ []) rest)

pub loop-i-preserved : goal.loop-i-preserved
loop-i-preserved g c =
    let key = g.F.Fact.key in
    let fs = c.args.facts.now in
    let i = c.loop-i.i in
    let start = c.loop-i.start in
    let inv = c.loop-i.invariant in
    elim c.if-not-is_last.branch [
      | then-not-is_last+in_ok-extend_from_slice w ↦
          let none : i + 1 - (i + 1) ≡ 0 = omega arith in
          rw (w.out-is, w.start-is) (record {
            order = omega arith;
            same = rw (none, w.in_ok-extend_from_slice.ensures.items, ← c.is_last.ensures.no w.if-not-is_last.true) (append_assoc c.loop-i.out.items (take (i - start) (drop start fs)) (lasts key (drop i fs)) ∙ inv.same);
          })
      | else-not-is_last w ↦
          elim (slice_get_cases fs i).1 [
            | inl at ↦ rw (w.out-is, w.start-is) (record {
              order = omega (arith, inv.order);
              same = ap (λ (l : List g.row.F.Denot). c.loop-i.out.items ++ l) (one_more fs i start inv.order at.1 at.0 (lasts key (drop (i + 1) fs)) at.3
                  ∙ ap (λ (l : List g.row.F.Denot). take (i - start) (drop start fs) ++ l) (sym (c.is_last.ensures.yes w.if-not-is_last.false at.0 (sym at.3)))) ∙ inv.same;
            })
            | inr past ↦ absurd (omega (arith, past.0, c.loop-i-test.true))
          ]
    ]
