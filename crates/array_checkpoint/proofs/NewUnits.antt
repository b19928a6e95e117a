-- The new segments and patches of a checkpoint, on the units that it takes.
use Rattle.array_checkpoint.proofs.Prelude.{◌≡◌, inl, inr, ℕ, ◌+◌, ◌<◌, ◌≤◌, List, [], ◌∷◌, ◌++◌, refl, sym, arith, subst, length, map, Contains, Option, Some, None, AllPairs, AllByRecursion, AllZip, flat_map, Geometry, any_key, Device, Place, AnyFact, NUMBER_LIMIT, PATCH_SEGMENTS, Patch, BootRecord, ByTagFrom, IsPatch, IsLawful, IsNamed, places_of_part, patch_facts, patches_of, Facts, facts, each_by_recursion, of_each, contains_at, geometry_of, Shelved, all_append, AreUnitsToTake, IsDrive, ArePatchFacts, Counts, Plan, AreLawfulPatches, eliding_by, units_of, MayBeHeaded, MayBeStoredWith, IsOnCheckpoint, OnCheckpoint, places_in, new_facts, added_patches, by_tag, counts_of, segments_of, FitRecord, all_weaker, Array, IsArrayOf, OnUnused, Prepared, IsPreparedFor}
use Rattle.pur_base.specs.declared.facts.AnyFact.TheVariants as any
use Rattle.array_spec.specs.Sound as sound
use Rattle.table_planner.proofs.LastingLemmas.{lawful_patches}
use Rattle.segment_writer.specs.PatchStoring as patch
use Rattle.record_tables.proofs.Lawful.{added_by_tag, next_patches_are_lawful, next_woven}
use Rattle.record_tables.proofs.Named.{added_are_named, added_take_the_units}
use Rattle.array_checkpoint.proofs.FreeUnits.{patches_on_drives, patches_unused, unused_byte}
use Rattle.array_checkpoint.proofs.Left.{own_size}
use Rattle.array_checkpoint.proofs.NextRecord.{ids_left}
use Rattle.array_checkpoint.proofs.PatchUnits.{front_apart, headed, lawful_places, part_taken, patch_places, patches_apart}
use Rattle.array_checkpoint.proofs.UnitLists.{woven_second, zip_with}
use Rattle.array_checkpoint.proofs.Units.{data_among, data_in}

-- ---- patches that are added

pub tags_from : (least : ℕ) (ps : List Patch) → ByTagFrom least ps → AllByRecursion (λ q. least ≤ q.tag) ps
tags_from least [] h = tt
tags_from least (q ∷ ps) h = (h.0, all_weaker (λ r. q.tag ≤ r.tag) (λ r. least ≤ r.tag) (λ r l. let low = h.0 in omega (arith, l, low)) ps (tags_from q.tag ps h.1))

-- they are lawful
added_are_lawful : (slots units : ℕ) (counts : Counts) (first : ℕ) (places : List (List Place)) → FitRecord counts → segments_of counts ≡ length places → AllByRecursion (sound.ArePlaces (record { slots = slots; units = units })) places
    → first + length places < NUMBER_LIMIT → length places ≤ PATCH_SEGMENTS → AllByRecursion (IsPatch slots units) (added_patches counts first places)
added_are_lawful slots units counts first places fit long lawful ids few =
    let all = (next_patches_are_lawful slots units [] counts first places (record { count = omega arith; each = tt; by_tag = tt; room = omega arith }) fit long lawful ids (omega (arith, few))).0.each in
    woven_second (IsPatch slots units) [] (added_patches counts first places) (by_tag [] (added_patches counts first places)) (next_woven slots units [] (counts_of counts) first places refl tt tt) all

-- the facts of a patch are lawful, and their keys ascend
abbrev AreLawfulFacts : List AnyFact → Type 0
AreLawfulFacts fs = AllByRecursion IsLawful fs × AllPairs (λ f g. any_key f < any_key g) fs

some_lawful : {F : Type 0} (c : F → AnyFact) (tag : ℕ) (patch : Option (List F)) → ArePatchFacts tag (map c (patch_facts patch)) → AllByRecursion AreLawfulFacts (map (map c) (patches_of patch))
some_lawful c tag None h = tt
some_lawful c tag (Some fs) h = ((h.lawful, h.ascending), tt)

lawful_facts : (p : Plan) → AreLawfulPatches p → AllByRecursion AreLawfulFacts (new_facts p)
lawful_facts p h =
    all_append AreLawfulFacts (map (map any.Object) (patches_of p.objects)) _ (some_lawful any.Object 1 p.objects h.objects)
    (all_append AreLawfulFacts (map (map any.Medium) (patches_of p.mediums)) _ (some_lawful any.Medium 2 p.mediums h.mediums)
    (all_append AreLawfulFacts (map (map any.Address) (patches_of p.addresses)) _ (some_lawful any.Address 3 p.addresses h.addresses)
    (all_append AreLawfulFacts (map (map any.Segment) (patches_of p.segment_facts)) _ (some_lawful any.Segment 4 p.segment_facts h.segments) (some_lawful any.Elision 5 p.elisions h.elisions))))

-- ---- as it was prepared

module _ (x : Array) (q : Prepared) (h : IsPreparedFor x q) where
  abbrev Boot : BootRecord
  Boot = x.register.record

  abbrev Tables : Facts
  Tables = facts x.memory.memory.tables

  -- the units of each new segment were taken
  pub data_taken : (number : ℕ) → number < length q.plan.segments.items → AreUnitsToTake Boot Tables (places_in q.plan.segments.items number)
  data_taken number less = of_each (AreUnitsToTake Boot Tables) (units_of q.plan ++ h.units) (places_in q.plan.segments.items number) h.free.each (data_among q.plan h.units number less)

  own : flat_map patch_places q.added ≡ h.units
  own = subst (λ ps. flat_map patch_places ps ≡ h.units) (sym h.added) (added_take_the_units h.counts x.memory.memory.next.patch_segment h.units h.wanted)

  pub patch_taken : (p : Patch) → Contains q.added p → (part : ℕ) → part < length p.segments → AreUnitsToTake Boot Tables (places_of_part p part)
  patch_taken = part_taken Boot Tables (units_of q.plan) h.units q.added own h.free

  -- so only unused units are written
  pub unused : (device : Device) (i : ℕ) → OnCheckpoint q.plan.segments.items q.added device i → OnUnused x device i
  unused device i (inl (number, less, on)) = unused_byte x (places_in q.plan.segments.items number) (data_taken number less) device i on
  unused device i (inr on) = patches_unused x q.added patch_taken device i on

  pub on_drives : (device : Device) → IsOnCheckpoint q.plan.segments.items q.added device → IsDrive device
  on_drives device (inl on) = subst IsDrive (sym on.4) tt
  on_drives device (inr on) = patches_on_drives q.added device on

  module _ (a : Shelved) (of : IsArrayOf (geometry_of a) x) where
    heads : (p : Patch) → Contains q.added p → MayBeHeaded a p
    heads =
        let few = h.few_patches in
        headed Boot Tables (units_of q.plan) h.units q.added own h.free a
        (subst (λ ps. AllByRecursion (IsPatch a.drives a.units) ps) (sym h.added) (added_are_lawful a.drives a.units h.counts x.memory.memory.next.patch_segment h.units h.fit h.wanted
        (subst (λ (g : Geometry). AllByRecursion (sound.ArePlaces g) h.units) (sym (own_size a x of)) (lawful_places Boot Tables (units_of q.plan) h.units h.free)) (ids_left (geometry_of a) x q of h) (omega (arith, few))))
        (subst (λ ps. AllByRecursion (λ (p : Patch). 1 ≤ p.tag) ps) (sym h.added) (tags_from 1 _ (added_by_tag 1 (counts_of h.counts) x.memory.memory.next.patch_segment h.units))) (omega (arith, few))

    -- and the new patches may be stored
    pub may_be_stored : MayBeStoredWith a q.plan q.added
    may_be_stored = record {
      each = zip_with (MayBeHeaded a) AreLawfulFacts IsNamed (λ p fs. patch.MayBeStored a p fs × MayBeHeaded a p)
          (λ p fs head right named. (record { lawful = head.lawful; count = sym named.count; each = right.0; in_order = record { table = named.table; ascending = right.1 }; apart = head.apart }, head))
          q.added (new_facts q.plan) (each_by_recursion (MayBeHeaded a) q.added heads)
          (lawful_facts q.plan (lawful_patches (eliding_by x.memory.memory q.plan.eliding) q.plan h.plan.plan))
          (subst (λ ps. AllZip IsNamed ps (new_facts q.plan)) (sym h.added) (added_are_named q.plan h.counts x.memory.memory.next.patch_segment h.units h.some h.counted));
      apart = patches_apart Boot Tables (units_of q.plan) h.units q.added own h.free;
      apart_of_data = λ i p at number part j k l less low few slots.
          front_apart Boot Tables (units_of q.plan) h.units q.added own h.free (places_in q.plan.segments.items number) (data_in q.plan number l) p (contains_at q.added i p at) part less j k low few slots;
    }
