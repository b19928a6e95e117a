-- Objects are sound where the lists of them say so.
use Rattle.table_soundness.proofs.Prelude.{nat_tests, ◌≡◌, ℕ, ◌<◌, ◌≤◌, ◌^◌, ◌∙◌, false, List, length, get_or, map, take, sym, ap, subst, arith, get_or-take, length-take, All, get_or_default, All-map, All-weaker, All-contains, All-from_recursion, recursion_from_All, AllByRecursion, Facts, object_key, never, is_elided, objects, ObjectFact, OBJECTS, NextNumbers, OwnTheirMediums, AreObjectsRight, AreObjectsListed, IsKept, ElidedRanges, IsShown, all_contained, AreElidedBy, false_from_ne_true, bytes_eq-Decides, list_any, bytes_eq}
use Rattle.pur_base.specs.declared.request.Table.TheVariants as table
use Rattle.object_table.specs.Objects.{number, AreNamesDistinct}
use Rattle.object_table.proofs.ObjectLemmas.{by_ids}
use Rattle.std.proofs.lemmas.List.Folds.{list_any_none}

-- no earlier object has an object's name
pub no_repeat : (xs : List ObjectFact) (i : ℕ) (x : ObjectFact) → i < length xs → x ≡ get_or xs i x → AreNamesDistinct xs → list_any (bytes_eq x.name) (map (λ y. y.name) (take i xs)) ≡ false
no_repeat xs i x l is h = list_any_none (bytes_eq x.name) (map (λ y. y.name) (take i xs)) (All-map (λ n. bytes_eq x.name n ≡ false) (λ (y : ObjectFact). y.name) (take i xs) (λ k d m. false_from_ne_true _ (λ e.
    let low : k < i = omega (arith, m, length-take i xs) in
    let same = (bytes_eq-Decides x.name (get_or (take i xs) k d).name).0 e in
    h k i d low l (ap (λ y. y.name) (sym (get_or-take i xs k d low)) ∙ sym same ∙ ap (λ y. y.name) (is ∙ sym (get_or_default xs i d x l))))))

module _ (next : NextNumbers) (elided : ElidedRanges) (facts : Facts) (shown : List ObjectFact) (small : next.object ≤ 2 ^ 64) (same : AreElidedBy facts.elisions elided)
    (visible : IsShown object_key number never facts.objects (is_elided facts.elisions table.Object) shown) where
  listed : All (λ f. f.object.0 < next.object) facts.objects → shown ≡ objects facts next.object
  listed below = by_ids facts.objects (is_elided facts.elisions table.Object) next.object shown small below visible

  abbrev IsBelow : ObjectFact → Type 0
  IsBelow f = (f.object.0 < next.object) × (f.medium.0 < next.medium)

  abbrev HasRanges : ObjectFact → Type 0
  HasRanges x = is_elided facts.elisions table.Medium x.medium.0 ≡ false

  abbrev HasAddresses : ObjectFact → Type 0
  HasAddresses x = is_elided facts.elisions table.Address x.medium.0 ≡ false

  pub objects_from_list : AreObjectsListed next elided facts.objects shown → AreObjectsRight next facts
  objects_from_list h = grind (arith, nat_tests, listed, recursion_from_All, all_contained, length)

  pub objects_to_list : AreObjectsRight next facts → AreObjectsListed next elided facts.objects shown
  objects_to_list h =
      let all = All-from_recursion IsBelow facts.objects h.ids in
      let below = All-weaker IsBelow (λ f. f.object.0 < next.object) (λ f b. b.0) facts.objects all in
      let is = sym (listed below) in
      let ranges = All-from_recursion HasRanges shown (subst (λ xs. AllByRecursion HasRanges xs) is h.sound.range_kept) in
      let addresses = All-from_recursion HasAddresses shown (subst (λ xs. AllByRecursion HasAddresses xs) is h.sound.address_kept) in
      record {
        ids = below;
        mediums = All-weaker IsBelow (λ f. f.medium.0 < next.medium) (λ f b. b.1) facts.objects all;
        most = subst (λ (xs : List ObjectFact). length xs ≤ OBJECTS) is h.sound.most;
        names = subst AreNamesDistinct is h.sound.names;
        owned = subst OwnTheirMediums is h.sound.mediums;
        kept = all_contained (IsKept elided) shown (λ x c. record {
          ranges = sym (same.ids table.Medium x.medium.0) ∙ All-contains HasRanges shown x ranges c;
          addresses = sym (same.ids table.Address x.medium.0) ∙ All-contains HasAddresses shown x addresses c;
        });
      }
