use Rattle.chain_reads.proofs.Prelude.{◌≡◌, ◌+◌, ◌<◌, ◌≤◌, ℕ, List, length, sym, ap, subst, ◌∙◌, refl, arith, inl, inr, cases_lt, Facts, address, Spot, Cursor, At, behind, cursor_at, weight, AreOf, Follows, IsRangeAt, ReadsAs, ReadsOn}
use Rattle.chain_reads.specs.declared.chains.Part.{Part}
use Rattle.chain_reads.proofs.ChainLemmas.{any_default, put_beside, put_first, put_follows, put_sinks, settled_weight}
use Rattle.chain_reads.proofs.chains.Chains.go_on.Goals as goal
use Rattle.chain_reads.proofs.chains.Chains.go_on.Goals.{in-At, in_default}

pub beyond-requires-clause-said : goal.beyond-requires-clause-said
beyond-requires-clause-said c = λ f h.
    c.requires.said f h c.loop-k.k (omega arith) ∙ ap (λ (spot : Spot). address f spot.medium.0 spot.sector) (sym c.behind-spot.ensures)

pub part_for-part-requires-clause-says : goal.part_for-part-requires-clause-says
part_for-part-requires-clause-says c = λ f h.
    subst (λ (spot : Spot). (x : ℕ) → spot.sector ≤ x → x < c.loop-k.part.end → IsRangeAt f spot.medium.0 x c.loop-k.part.range) (sym c.behind-spot.ensures)
    (c.loop-k.invariant.part f h)

pub loop-k-preserved : goal.loop-k-preserved
loop-k-preserved c = elim c.match-cursors-i.branch [
  | in-At w ↦
      (let k = c.loop-k.k in
      let i = c.args.i in
      let at = i + k in
      let was = c.loop-k.cursors in
      let inv = c.loop-k.invariant in
      let place = behind c.args.at k in
      let spot = w.in-At.field-0 in
      let new = w.beyond.result in
      let within : at < length was = omega arith in
      let is = sym (any_default was at _ within) ∙ w.in-At.is in
      let on = λ (f : Facts) (h : AreOf f c.args.self.now).
      subst (λ (d : Cursor). ReadsOn f place d) (sym (inv.rest at (omega arith)) ∙ is) (c.requires.reads f h k (omega arith)) in
      let low : weight new ≤ place.medium.0 = subst (λ (s : Spot). weight new ≤ s.medium.0) w.behind-spot.ensures w.beyond.ensures.sinks in
      let sinks : weight new ≤ spot.medium.0 = (let b = (on c.requires.tables.0 c.requires.tables.1).0 in omega (arith, low, b)) in
      let goes = λ (f : Facts) (h : AreOf f c.args.self.now). subst (λ (s : Spot). Follows f (At s) new) w.behind-spot.ensures (w.beyond.ensures.follows f h) in
      let e = w.cursors-is in
      record {
        follows = λ f h p m x r. subst (λ (cs : List Cursor). ReadsAs f m x (cursor_at cs p)) (sym e)
            (put_follows was at spot new within is f (λ n y go. goes f h n y (λ t read. go t ((on f h).1 t read))) p m x (inv.follows f h p m x r));
        sinks = λ p.
            let a = put_sinks was at spot new within is sinks p in
            let b = inv.sinks p in
            let s = ap (λ (cs : List Cursor). weight (cursor_at cs p)) e in
            omega (arith, a, b, s);
        rest = λ p l. ap (λ (cs : List Cursor). cursor_at cs p) e ∙ put_beside was at spot new within is p (λ same. omega (arith, same, l)) ∙ inv.rest p (omega (arith, l));
        first = λ _.
            let a = put_first was at spot new within is i k place.medium.0 refl low inv.first in
            let s = ap (λ (cs : List Cursor). weight (cursor_at cs i)) e in
            omega (arith, a, s);
        part = λ f h x l below.
            let end = ap (λ (p : Part). p.end) w.part-is in
            let part = w.part_for-part.result in
            let says = subst (λ (s : Spot). s.sector ≤ x → x < part.end → IsRangeAt f s.medium.0 x part.range) w.behind-spot.ensures (w.part_for-part.ensures.says f h x)
            (omega (arith, l)) (omega (arith, end, below)) in
            subst (λ (p : Part). IsRangeAt f c.args.at.medium.0 x p.range) (sym w.part-is) says;
      })
  | in_default w ↦
      (let k = c.loop-k.k in
      let i = c.args.i in
      let was = c.loop-k.cursors in
      let inv = c.loop-k.invariant in
      let e = w.cursors-is in
      let s = λ (p : ℕ). ap (λ (cs : List Cursor). weight (cursor_at cs p)) e in
      record {
        follows = λ f h p m x r. subst (λ (cs : List Cursor). ReadsAs f m x (cursor_at cs p)) (sym e) (inv.follows f h p m x r);
        sinks = λ p. let b = inv.sinks p in let t = s p in omega (arith, b, t);
        rest = λ p l. ap (λ (cs : List Cursor). cursor_at cs p) e ∙ inv.rest p (omega (arith, l));
        first = λ _. elim (cases_lt 0 k) [
          | inl some ↦ (let b = inv.first some in let t = s i in omega (arith, b, t))
          | inr none ↦
              (let first : i + k ≡ i = omega (arith, none) in
              let here = settled_weight (cursor_at was (i + k)) (λ spot at. w.in_default.not-At spot (any_default was (i + k) _ (omega arith) ∙ at)) in
              let same = ap (λ (p : ℕ). weight (cursor_at was p)) first in
              let t = s i in
              omega (arith, here, same, t))
        ];
        part = λ f h x l below.
            let end = ap (λ (p : Part). p.end) w.part-is in
            subst (λ (p : Part). IsRangeAt f c.args.at.medium.0 x p.range) (sym w.part-is) (inv.part f h x (omega (arith, l)) (omega (arith, end, below)));
      })
]
