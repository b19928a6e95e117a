-- New patches on the units that are taken for them.
use Rattle.array_checkpoint.proofs.Prelude.{◌≡◌, ℕ, ◌<◌, ◌≤◌, List, [], ◌++◌, length, sym, ap, arith, subst, map, Contains, AllPairs, AllByRecursion, flat_map, length-map, Contains-append_right, Place, Facts, PATCH_SEGMENTS, Patch, BootRecord, IsPatch, places_of_part, of_each, Shelved, all_append_right, shelf_of, AreUnitsToTake, MayBeHeaded, AreAllApart, AreNewUnits, all_weaker, pairs_across, pairs_back}
use Rattle.array_spec.specs.Sound as sound
use Rattle.segment_writer.specs.PatchStoring as patch
use Rattle.array_checkpoint.proofs.UnitLists.{flat_in, flat_long, flat_own, flat_two, in_at, pairs_two}
use Rattle.array_checkpoint.proofs.Units.{StandApart, new_apart, stand_back}

-- ---- the units of patches

-- those of each segment
abbrev pub patch_places : Patch → List (List Place)
patch_places q = map (λ s. s.places) q.segments

pub part_in : (q : Patch) (part : ℕ) → part < length q.segments → Contains (patch_places q) (places_of_part q part)
part_in q part l = in_at (patch_places q) part [] (let long = length-map q.segments (λ s. s.places) in omega (arith, l, long))

-- units that the next record may name
pub lawful_places : (boot : BootRecord) (tables : Facts) (front units : List (List Place)) → AreNewUnits boot tables (front ++ units) → AllByRecursion (sound.ArePlaces (shelf_of boot)) units
lawful_places boot tables front units new = all_weaker (AreUnitsToTake boot tables) (sound.ArePlaces (shelf_of boot)) (λ u t. t.lawful) units (all_append_right (AreUnitsToTake boot tables) front units new.each)

-- ---- patches on units that were taken behind others

module _ (boot : BootRecord) (tables : Facts) (front units : List (List Place)) (added : List Patch) (own : flat_map patch_places added ≡ units) (new : AreNewUnits boot tables (front ++ units)) where
  -- the units of each of their segments were taken
  pub part_taken : (q : Patch) → Contains added q → (part : ℕ) → part < length q.segments → AreUnitsToTake boot tables (places_of_part q part)
  part_taken q c part l =
      of_each (AreUnitsToTake boot tables) (front ++ units) (places_of_part q part) new.each
      (Contains-append_right front units (places_of_part q part) (subst (λ us. Contains us (places_of_part q part)) own (flat_in patch_places added q (places_of_part q part) c (part_in q part l))))

  -- all stand apart
  all_apart : AllPairs StandApart (front ++ flat_map patch_places added)
  all_apart = subst (λ us. AllPairs StandApart (front ++ us)) (sym own) (new_apart boot tables (front ++ units) new)

  patch_apart : AllPairs StandApart (flat_map patch_places added)
  patch_apart = pairs_back StandApart front (flat_map patch_places added) all_apart

  parts_apart : (q : Patch) → Contains added q → patch.AreApart q
  parts_apart q c part other j k differ l less low few slots =
      let wide = length-map q.segments (λ s. s.places) in
      pairs_two StandApart stand_back (patch_places q) part other [] (flat_own StandApart patch_places added q patch_apart c) differ (omega (arith, l, wide)) (omega (arith, less, wide)) j k low few slots

  pub patches_apart : AreAllApart added
  patches_apart i j q r differ at to part other a b l less low few slots =
      flat_two StandApart stand_back patch_places added i j q r (places_of_part q part) (places_of_part r other) patch_apart differ at to (part_in q part l) (part_in r other less) a b low few slots

  pub front_apart : (ps : List Place) → Contains front ps → (q : Patch) → Contains added q → (part : ℕ) → part < length q.segments → StandApart ps (places_of_part q part)
  front_apart ps at q c part less =
      pairs_across StandApart front (flat_map patch_places added) all_apart ps (places_of_part q part) at (flat_in patch_places added q (places_of_part q part) c (part_in q part less))

  -- and so they may be headed, where they are lawful and a record has room for them
  pub headed : (shelf : Shelved) → AllByRecursion (IsPatch shelf.drives shelf.units) added → AllByRecursion (λ p. 1 ≤ p.tag) added → length units ≤ PATCH_SEGMENTS → (q : Patch) → Contains added q → MayBeHeaded shelf q
  headed shelf lawful tags few q c =
      let total = ap (λ (us : List (List Place)). length us) own in
      let most = flat_long patch_places added q c in
      let wide = length-map q.segments (λ s. s.places) in
      record { lawful = of_each (IsPatch shelf.drives shelf.units) added q lawful c; some_tag = of_each (λ p. 1 ≤ p.tag) added q tags c; few = omega (arith, total, most, wide, few); apart = parts_apart q c }
