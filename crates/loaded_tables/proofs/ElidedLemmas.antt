-- Which ids are elided, one fact after the other.
use Rattle.std.proofs.Common.{◌≡◌, ◌≢◌, ◌⊎◌, ◌↔◌, ℕ, ◌≤◌, Bool, true, false, List, [], ◌∷◌, ◌++◌, refl, sym, ap, subst, ◌∙◌, arith, inl, inr, IsTrue, ◌==◌, ◌&&◌, ◌||◌, nat_le, eq-eqb, eqb-true, leb-true, le-leb}
use Rattle.std.proofs.lemmas.Bool.{eqb-false, and_parts, and_from, or_cases, or_left, or_right, false≢true}
use Rattle.std.proofs.lemmas.List.Folds.{list_any-append}
use Rattle.array_spec.specs.Prelude.{tag_of, elides, ElisionFact, Table}
use Rattle.pyramid.specs.Prelude.{is_elided, is_within, ElidedRanges, ranges_of}
use Rattle.pur_base.specs.declared.request.Table.TheVariants as table
use Rattle.loaded_tables.specs.Elided.{AddsElided, AreElidedBy}

pub same_table : (a b : Table) → tag_of a ≡ tag_of b → a ≡ b
same_table table.Object table.Object e = refl
same_table table.Medium table.Medium e = refl
same_table table.Address table.Address e = refl
same_table table.Segment table.Segment e = refl
same_table table.Elision table.Elision e = refl
same_table table.Object table.Medium e = absurd (omega (arith, e))
same_table table.Object table.Address e = absurd (omega (arith, e))
same_table table.Object table.Segment e = absurd (omega (arith, e))
same_table table.Object table.Elision e = absurd (omega (arith, e))
same_table table.Medium table.Object e = absurd (omega (arith, e))
same_table table.Medium table.Address e = absurd (omega (arith, e))
same_table table.Medium table.Segment e = absurd (omega (arith, e))
same_table table.Medium table.Elision e = absurd (omega (arith, e))
same_table table.Address table.Object e = absurd (omega (arith, e))
same_table table.Address table.Medium e = absurd (omega (arith, e))
same_table table.Address table.Segment e = absurd (omega (arith, e))
same_table table.Address table.Elision e = absurd (omega (arith, e))
same_table table.Segment table.Object e = absurd (omega (arith, e))
same_table table.Segment table.Medium e = absurd (omega (arith, e))
same_table table.Segment table.Address e = absurd (omega (arith, e))
same_table table.Segment table.Elision e = absurd (omega (arith, e))
same_table table.Elision table.Object e = absurd (omega (arith, e))
same_table table.Elision table.Medium e = absurd (omega (arith, e))
same_table table.Elision table.Address e = absurd (omega (arith, e))
same_table table.Elision table.Segment e = absurd (omega (arith, e))

nothing_false : (b : Bool) → IsTrue (b || false) → IsTrue b
nothing_false true h = refl
nothing_false false h = h

-- what one elision elides
opened : (t : Table) (id : ℕ) (f : ElisionFact) → IsTrue (is_elided (f ∷ []) t id) → (tag_of f.table ≡ tag_of t) × (f.first ≤ id) × (id ≤ f.last)
opened t id f h =
    let all = and_parts ((tag_of f.table == tag_of t) && nat_le f.first id) (nat_le id f.last) (nothing_false (elides t id f) h) in
    let two = and_parts (tag_of f.table == tag_of t) (nat_le f.first id) all.0 in
    (eqb-true _ _ two.0, leb-true _ _ two.1, leb-true _ _ all.1)

closed : (t : Table) (id : ℕ) (f : ElisionFact) → tag_of f.table ≡ tag_of t → f.first ≤ id → id ≤ f.last → IsTrue (is_elided (f ∷ []) t id)
closed t id f e l m =
    or_left (elides t id f) false (and_from ((tag_of f.table == tag_of t) && nat_le f.first id) (nat_le id f.last)
    (and_from (tag_of f.table == tag_of t) (nat_le f.first id) (eq-eqb _ _ e) (le-leb _ _ l)) (le-leb _ _ m))

pub adds_one : (f : ElisionFact) (old new : ElidedRanges)
    → ((id : ℕ) → IsTrue (is_within (ranges_of new f.table) id) ↔ (IsTrue (is_within (ranges_of old f.table) id) ⊎ ((f.first ≤ id) × (id ≤ f.last))))
    → ((t : Table) → t ≢ f.table → ranges_of new t ≡ ranges_of old t) → AddsElided (f ∷ []) old new
adds_one f old new here others = record { ids = λ t id. one t id (tag_of f.table == tag_of t) refl }
  where
    one : (t : Table) (id : ℕ) (b : Bool) → (tag_of f.table == tag_of t) ≡ b → IsTrue (is_within (ranges_of new t) id) ↔ (IsTrue (is_within (ranges_of old t) id) ⊎ IsTrue (is_elided (f ∷ []) t id))
    one t id true e =
        let tags = eqb-true _ _ e in
        let same = same_table f.table t tags in
        let both : IsTrue (is_within (ranges_of new t) id) ↔ (IsTrue (is_within (ranges_of old t) id) ⊎ ((f.first ≤ id) × (id ≤ f.last))) =
        subst (λ x. IsTrue (is_within (ranges_of new x) id) ↔ (IsTrue (is_within (ranges_of old x) id) ⊎ ((f.first ≤ id) × (id ≤ f.last)))) same (here id) in (
          λ h. elim (both.0 h) [ inl a ↦ inl a | inr b ↦ inr (closed t id f tags b.0 b.1) ],
          λ h. both.1 (elim h [ inl a ↦ inl a | inr b ↦ inr (let o = opened t id f b in (o.1, o.2)) ]),
        )
    one t id false e =
        let other : t ≢ f.table = λ same. eqb-false _ _ e (ap tag_of (sym same)) in
        let kept = others t other in (
          λ h. inl (subst (λ rs. IsTrue (is_within rs id)) kept h),
          λ h. elim h [
            | inl a ↦ subst (λ rs. IsTrue (is_within rs id)) (sym kept) a
            | inr b ↦ absurd (eqb-false _ _ e (opened t id f b).0)
          ],
        )

pub adds_join : (fs gs : List ElisionFact) (a b c : ElidedRanges) → AddsElided fs a b → AddsElided gs b c → AddsElided (fs ++ gs) a c
adds_join fs gs a b c first second = record {
  ids = λ t id. (
    λ h. elim ((second.ids t id).0 h) [
      | inl x ↦ elim ((first.ids t id).0 x) [
        | inl y ↦ inl y
        | inr y ↦ inr (list_any-append (elides t id) fs gs ∙ or_left (is_elided fs t id) (is_elided gs t id) y)
      ]
      | inr x ↦ inr (list_any-append (elides t id) fs gs ∙ or_right (is_elided fs t id) (is_elided gs t id) x)
    ],
    λ h. elim h [
      | inl x ↦ (second.ids t id).1 (inl ((first.ids t id).1 (inl x)))
      | inr x ↦ elim (or_cases (is_elided fs t id) (is_elided gs t id) (sym (list_any-append (elides t id) fs gs) ∙ x)) [
        | inl y ↦ (second.ids t id).1 (inl ((first.ids t id).1 (inr y)))
        | inr y ↦ (second.ids t id).1 (inr y)
      ]
    ],
  );
}

same_bools : (a b : Bool) → (IsTrue a → IsTrue b) → (IsTrue b → IsTrue a) → a ≡ b
same_bools true true f g = refl
same_bools true false f g = absurd (false≢true (f refl))
same_bools false true f g = absurd (false≢true (g refl))
same_bools false false f g = refl

pub elided_from_nothing : (fs : List ElisionFact) (a b : ElidedRanges) → ((t : Table) → ranges_of a t ≡ []) → AddsElided fs a b → AreElidedBy fs b
elided_from_nothing fs a b none h = record {
  ids = λ t id. same_bools (is_elided fs t id) (is_within (ranges_of b t) id) (λ x. (h.ids t id).1 (inr x)) (λ x. elim ((h.ids t id).0 x) [
    | inl y ↦ absurd (false≢true (subst (λ rs. IsTrue (is_within rs id)) (none t) y))
    | inr y ↦ y
  ]);
}
