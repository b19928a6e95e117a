-- Ranges of mediums are sound where the lists of what is visible say so.
use Rattle.table_soundness.proofs.Prelude.{nat_tests, ◌≡◌, ◌≢◌, ◌⊎◌, ℕ, Bool, true, false, not, zero, suc, ◌+◌, ◌-◌, ◌<◌, ◌≤◌, ◌^◌, ◌∙◌, List, length, get_or, refl, sym, ap, subst, arith, inl, inr, All, AllPairs, Contains, IsPermutation, Some, cases_lt, false≢true, get_or_default, All-contains, All-from_recursion, recursion_from_All, Contains-get_or, Contains-permutation, IsPermutation-sym, Facts, medium_key, object_key, is_empty_range, never, id_of, key_of, IsOver, says, Ascends, is_elided, object, range, MediumFact, ObjectFact, Volume, IsShown, id_of_key, all_contained, said_found, IsLastOf, AreMediumsRight, AreMediumsListed, IsFrozen, IsRange, LeadsElsewhere, LiesBefore, volume_mediums}
use Rattle.pur_base.specs.declared.request.Table.TheVariants as table
use Rattle.table_soundness.specs.Mediums.{EndsWithin, IsSmall}
use Rattle.table_soundness.proofs.OwnedLemmas.{from_volumes, pair_cases, to_volumes}

pub range_id : (r : MediumFact) → IsRange r → id_of (medium_key r) ≡ r.medium.0
range_id r h = let a = h.some in let b = h.end in id_of_key r.medium.0 r.start (omega (arith, a, b))

-- ---- disjoint ranges

-- each of the first ranges lies before the next one
abbrev pub AreNear : List MediumFact → ℕ → Type 0
AreNear rs n = (j : ℕ) (d : MediumFact) → suc j < n → LiesBefore (get_or rs j d) (get_or rs (suc j) d)

pub disjoint_from_near : (rs : List MediumFact) → Ascends medium_key rs → All IsRange rs → AreNear rs (length rs) → AllPairs LiesBefore rs
disjoint_from_near rs up ranges near i j d low l = grind (arith, nat_tests, length, get_or, zero, suc)

pub near_more : (rs : List MediumFact) (i : ℕ) → 1 ≤ i → i < length rs → ((d : MediumFact) → LiesBefore (get_or rs (i - 1) d) (get_or rs i d)) → AreNear rs i → AreNear rs (i + 1)
near_more rs i one l last near j d m = grind (arith, nat_tests, suc, get_or)

-- ---- ends

pub within_last : (ranges : List MediumFact) (x : ObjectFact) (last : MediumFact) → Ascends medium_key ranges → All IsRange ranges → AllPairs LiesBefore ranges → IsLastOf medium_key ranges x.medium.0 last
    → last.end ≤ x.sectors → EndsWithin ranges x
within_last ranges x last up all disjoint l less k d i same = one (cases_lt k l.there.0)
  where
    at : get_or ranges l.there.0 d ≡ last
    at = get_or_default ranges l.there.0 d last l.there.1 ∙ l.there.2

    is_range : IsRange last
    is_range = All-contains IsRange ranges last all l.there

    mine : last.medium.0 ≡ x.medium.0
    mine = sym (range_id last is_range) ∙ l.of_id

    one : (k < l.there.0) ⊎ (l.there.0 ≤ k) → (get_or ranges k d).end ≤ x.sectors
    one (inl under) =
        let before = disjoint k l.there.0 d under l.there.1 (same ∙ sym (ap (λ r. r.medium.0) at ∙ mine)) in
        let start : (get_or ranges l.there.0 d).start ≡ last.start = ap (λ r. r.start) at in
        let some = is_range.some in
        omega (arith, before, start, some, less)
    one (inr over) = elim (cases_lt l.there.0 k) [
      | inl past ↦
          let low = up l.there.0 k d past i in
          let high = l.last k d i (range_id (get_or ranges k d) (all k d i) ∙ same) in
          let key : medium_key (get_or ranges l.there.0 d) ≡ medium_key last = ap medium_key at in
          absurd (omega (arith, low, high, key))
      | inr under ↦
          let here : l.there.0 ≡ k = omega (arith, under, over) in
          let ends : (get_or ranges k d).end ≡ last.end = ap (λ n. (get_or ranges n d).end) (sym here) ∙ ap (λ r. r.end) at in
          omega (arith, ends, less)
    ]

pub last_within : (ranges : List MediumFact) (x : ObjectFact) (last : MediumFact) → All IsRange ranges → IsLastOf medium_key ranges x.medium.0 last → EndsWithin ranges x → last.end ≤ x.sectors
last_within ranges x last all l h =
    All-contains (λ r. r.medium.0 ≡ x.medium.0 → r.end ≤ x.sectors) ranges last h l.there (sym (range_id last (All-contains IsRange ranges last all l.there)) ∙ l.of_id)

pub none_within : (ranges : List MediumFact) (x : ObjectFact) → All IsRange ranges → All (λ r. id_of (medium_key r) ≢ x.medium.0) ranges → EndsWithin ranges x
none_within ranges x all none k d i same = absurd (none k d i (range_id (get_or ranges k d) (all k d i) ∙ same))

-- ---- volumes

pub frozen_from_numbers : (objects : List ObjectFact) (sorted : List ℕ) (ranges : List MediumFact) → IsPermutation (volume_mediums objects) sorted → All (LeadsElsewhere sorted) ranges → All (IsFrozen objects) ranges
frozen_from_numbers objects sorted ranges moved h k d i = all_contained (λ x. x.kind ≡ Volume → (get_or ranges k d).target.0 ≢ x.medium.0) objects (λ x c v same.
    (h k d i).other (subst (λ n. Contains sorted n) (sym same) (Contains-permutation (volume_mediums objects) sorted x.medium.0 moved (to_volumes objects x c v))))

pub numbers_from_frozen : (objects : List ObjectFact) (sorted : List ℕ) (ranges : List MediumFact) → IsPermutation (volume_mediums objects) sorted → All (IsFrozen objects) ranges → All (LeadsElsewhere sorted) ranges
numbers_from_frozen objects sorted ranges moved h k d i = record {
  other = λ c.
      let r = get_or ranges k d in
      let v = from_volumes objects r.target.0 (Contains-permutation sorted (volume_mediums objects) r.target.0 (IsPermutation-sym (volume_mediums objects) sorted moved) c) in
      All-contains (λ x. x.kind ≡ Volume → r.target.0 ≢ x.medium.0) objects v.0 (h k d i) v.1 v.2 (sym v.3);
}

pub true_from_none : (b : Bool) → (b ≡ true → ⊥) → not b ≡ true
true_from_none true f = absurd (f refl)
true_from_none false f = refl

pub none_from_true : (b : Bool) → not b ≡ true → b ≡ true → ⊥
none_from_true true n e = false≢true n
none_from_true false n e = false≢true e

-- ---- ids

pub ids_of_keys : (facts : List MediumFact) (next : ℕ) → All IsSmall facts → All (λ f. id_of (medium_key f) < next) facts → All (λ f. f.medium.0 < next) facts
ids_of_keys facts next small h k d i = subst (λ n. n < next) (id_of_key (get_or facts k d).medium.0 (get_or facts k d).start (small k d i)) (h k d i)

pub keys_of_ids : (facts : List MediumFact) (next : ℕ) → All IsSmall facts → All (λ f. f.medium.0 < next) facts → All (λ f. id_of (medium_key f) < next) facts
keys_of_ids facts next small h k d i = subst (λ n. n < next) (sym (id_of_key (get_or facts k d).medium.0 (get_or facts k d).start (small k d i))) (h k d i)

-- ---- all of them

module _ (next_medium : ℕ) (facts : Facts) (shown : List MediumFact) (objects : List ObjectFact) (next_small : next_medium ≤ 2 ^ 64) (small : All IsSmall facts.mediums) (ranges : All IsRange shown)
    (small_objects : All (λ f. f.object.0 < 2 ^ 64) facts.objects)
    (seen : IsShown medium_key (λ f. f.seq.0) is_empty_range facts.mediums (is_elided facts.elisions table.Medium) shown)
    (seen_objects : IsShown object_key (λ f. f.seq.0) never facts.objects (is_elided facts.elisions table.Object) objects) where
  object_there : (id : ℕ) (x : ObjectFact) → object facts id ≡ Some x → Contains objects x
  object_there id x s =
      let found = said_found object_key (λ f. f.seq.0) never facts.objects (is_elided facts.elisions table.Object) (key_of id 0) x s in
      let is : says object_key (λ f. f.seq.0) never facts.objects (is_elided facts.elisions table.Object) (object_key x) ≡ Some x =
      ap (λ k. says object_key (λ f. f.seq.0) never facts.objects (is_elided facts.elisions table.Object) k) found.1 ∙ s in
      let l = All-contains (λ f. f.object.0 < 2 ^ 64) facts.objects x small_objects found.0 in
      seen_objects.all x (omega (arith, l)) is

  range_there : All (λ f. f.medium.0 < next_medium) facts.mediums → (medium start : ℕ) (r : MediumFact) → range facts medium start ≡ Some r → Contains shown r × (medium_key r ≡ key_of medium start)
  range_there ids medium start r s =
      let found = said_found medium_key (λ f. f.seq.0) is_empty_range facts.mediums (is_elided facts.elisions table.Medium) (key_of medium start) r s in
      let is : says medium_key (λ f. f.seq.0) is_empty_range facts.mediums (is_elided facts.elisions table.Medium) (medium_key r) ≡ Some r =
      ap (λ k. says medium_key (λ f. f.seq.0) is_empty_range facts.mediums (is_elided facts.elisions table.Medium) k) found.1 ∙ s in
      let l = All-contains (λ f. f.medium.0 < next_medium) facts.mediums r ids found.0 in
      let few = All-contains IsSmall facts.mediums r small found.0 in
      (seen.all r (omega (arith, l, few, next_small)) is, found.1)

  pub mediums_from_list : AreMediumsListed next_medium facts.mediums shown objects → AreMediumsRight next_medium facts
  mediums_from_list h = record {
    ids = recursion_from_All (λ f. f.medium.0 < next_medium) facts.mediums h.ids;
    sound = record {
      disjoint = λ medium sector r s a b.
          let x = range_there h.ids medium r.start r a.there in
          let y = range_there h.ids medium s.start s b.there in
          let key_x = x.1 in
          let key_y = y.1 in
          let mine : r.medium.0 ≡ medium = omega (arith, key_x) in
          let other : s.medium.0 ≡ medium = omega (arith, key_y) in
          elim (pair_cases LiesBefore shown r s h.disjoint x.0 y.0) [
            | inl before ↦ let m = before (mine ∙ sym other) in let p = a.below_end in let q = b.from_start in absurd (omega (arith, m, p, q))
            | inr rest ↦ elim rest [
              | inl behind ↦ let m = behind (other ∙ sym mine) in let p = b.below_end in let q = a.from_start in absurd (omega (arith, m, p, q))
              | inr same ↦ same
            ]
          ];
      within = λ id start x r o low s.
          let there = range_there h.ids x.medium.0 start r s in
          let key = there.1 in
          let few = All-contains IsRange shown r ranges there.0 in
          let some = few.some in
          let end = few.end in
          let mine : r.medium.0 ≡ x.medium.0 = omega (arith, key, some, end, low) in
          All-contains (λ q. q.medium.0 ≡ x.medium.0 → q.end ≤ x.sectors) shown r (All-contains (EndsWithin shown) objects x h.within (object_there id x o)) there.0 mine;
      frozen = λ id medium start x r o v s.
          All-contains (λ y. y.kind ≡ Volume → r.target.0 ≢ y.medium.0) objects x (All-contains (IsFrozen objects) shown r h.frozen (range_there h.ids medium start r s).0) (object_there id x o) v;
    };
  }

  pub mediums_to_list : AreMediumsRight next_medium facts → AreMediumsListed next_medium facts.mediums shown objects
  mediums_to_list h = record {
    ids = All-from_recursion (λ f. f.medium.0 < next_medium) facts.mediums h.ids;
    disjoint = λ i j d low l same. apart (get_or shown i d) (get_or shown j d) (Contains-get_or shown i d (omega (arith, low, l))) (Contains-get_or shown j d l) (seen.ascends i j d low l) same;
    within = all_contained (EndsWithin shown) objects (λ x c. all_contained (λ r. r.medium.0 ≡ x.medium.0 → r.end ≤ x.sectors) shown (λ r d same.
        let few = All-contains IsRange shown r ranges d in
        let some = few.some in
        let end = few.end in
        h.sound.within x.object.0 r.start x r (seen_objects.said x c) (omega (arith, some, end)) (subst (λ n. range facts n r.start ≡ Some r) same (seen.said r d))));
    frozen = all_contained (IsFrozen objects) shown (λ r d. all_contained (λ x. x.kind ≡ Volume → r.target.0 ≢ x.medium.0) objects (λ x c v.
        h.sound.frozen x.object.0 r.medium.0 r.start x r (seen_objects.said x c) v (seen.said r d)));
  }
    where
      apart : (r s : MediumFact) → Contains shown r → Contains shown s → medium_key r < medium_key s → r.medium.0 ≡ s.medium.0 → r.end ≤ s.start
      apart r s cr cs less same = elim (cases_lt s.start r.end) [
        | inl over ↦
            let few = All-contains IsRange shown s ranges cs in
            let some = few.some in
            let first : IsOver facts r.medium.0 s.start r = record { there = seen.said r cr; from_start = omega (arith, less, same); below_end = over } in
            let second : IsOver facts r.medium.0 s.start s = record { there = subst (λ n. range facts n s.start ≡ Some s) (sym same) (seen.said s cs); from_start = omega arith; below_end = some } in
            let keys = ap medium_key (h.sound.disjoint r.medium.0 s.start r s first second) in
            absurd (omega (arith, less, keys))
        | inr under ↦ under
      ]
