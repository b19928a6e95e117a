-- There are numbers and units for all that a merge writes.
use Rattle.pyramid_jobs.proofs.Prelude.{◌≡◌, ◌∙◌, ℕ, ◌+◌, ◌^◌, ◌<◌, ◌≤◌, ◌∷◌, length, sym, ap, subst, arith, length-append, Geometry, Table, BootRecord, facts, patches, zip_long, pair_segments, place_in, IsNamed, Merged, merged_facts, pair_facts, patch_count, table_of, IsMergedOf, segments_for, Array, IsArrayOf, MayMerge}
use Rattle.table_plan.proofs.MergeLemmas.{no_more_facts}
use Rattle.record_tables.proofs.Pairs.{few_segments, joined_are_named, pairs_are_named}
use Rattle.array_checkpoint.proofs.PreparedLemmas.{are_low, has_groups, map_of_facts}
use Rattle.pyramid_jobs.proofs.preparing.prepare.Goals as goal

module _ (shelf : Geometry) (a : Array) (is : IsArrayOf shelf a) (t : Table) (i : ℕ) (may : MayMerge t i a) where
  abbrev Boot : BootRecord
  Boot = a.register.record

  -- memory has the two
  two_there : i + 1 < patch_count a.memory.memory.tables t
  two_there = (pairs_are_named Boot.slots Boot.units Boot.patches a.memory.memory t i is.of_shelf.lawful.lawful.patches is.named).0 may.there

  module _ (p : Merged) (table : table_of p ≡ t) (made : IsMergedOf a.memory.memory i p) where
    -- the segments of the one are no more than theirs, and a record can spell its count
    few_needed : (segments_for (length (merged_facts p)) ≤ pair_segments t i Boot.patches) × (length (merged_facts p) < 2 ^ 32)
    few_needed = (pairs_are_named Boot.slots Boot.units Boot.patches a.memory.memory t i is.of_shelf.lawful.lawful.patches is.named).2 (length (merged_facts p)) may.there
        (subst (λ x. length (merged_facts p) ≤ pair_facts a.memory.memory.tables x i) table (no_more_facts a.memory.memory i p made))

    -- the record names the two where it has the pair
    place_there : place_in t i Boot.patches + 1 < length Boot.patches
    place_there =
        let j = (joined_are_named Boot.slots Boot.units Boot.patches a.memory.memory i p is.of_shelf.lawful.lawful.patches is.named made).0 in
        let as_many = zip_long IsNamed Boot.patches (patches a.memory.memory.tables) is.named in
        let place = j.place in
        let whole = ap length j.was_is in
        subst (λ x. place_in x i Boot.patches + 1 < length Boot.patches) table (omega (arith, as_many, place, whole, length-append j.front (j.older ∷ j.newer ∷ j.back)))

pub merged-requires : goal.merged-requires
merged-requires c = two_there c.requires.is_of.0 c.args.array.now c.requires.is_of.1 c.args.table c.args.index c.requires.may

pub overflow_cast-facts : goal.overflow_cast-facts
overflow_cast-facts c =
    let few = (few_needed c.requires.is_of.0 c.args.array.now c.requires.is_of.1 c.args.table c.args.index c.requires.may c.in_ok-merged.merged c.in_ok-merged.ensures.table c.in_ok-merged.ensures.merged).1 in
    omega (arith, few, c.len-facts.ensures.facts)

pub take_units-requires : goal.take_units-requires
take_units-requires c = record {
  enough = λ g groups.
      let few = (few_needed c.requires.is_of.0 c.args.array.now c.requires.is_of.1 c.args.table c.args.index c.requires.may c.in_ok-merged.merged c.in_ok-merged.ensures.table c.in_ok-merged.ensures.merged).0 in
      let has = has_groups c.requires.is_of.0 c.args.array.now c.requires.is_of.1 c.segments.result.now c.segments.ensures.said c.record-record.result.now c.record-record.ensures c.in_ok-map.map c.in_ok-map.ensures g groups in
      let most = has.greatest c.requires.may.groups c.requires.may.left.enough in
      let enough = c.requires.may.enough in
      omega (arith, few, ap (λ (n : ℕ). segments_for n) c.len-facts.ensures.facts, c.segments_for.ensures, enough, most);
}

pub joined_patches-requires-clause-there : goal.joined_patches-requires-clause-there
joined_patches-requires-clause-there c =
    let there = place_there c.requires.is_of.0 c.args.array.now c.requires.is_of.1 c.args.table c.args.index c.requires.may c.in_ok-merged.merged c.in_ok-merged.ensures.table c.in_ok-merged.ensures.merged in
    omega (arith, there, ap (λ (b : BootRecord). length b.patches) c.record-record.ensures, c.requires.place)

pub returns-clause-prepared : goal.returns-clause-prepared
returns-clause-prepared c =
    let s = c.requires.is_of.0 in
    let a = c.args.array.now in
    let is = c.requires.is_of.1 in
    let p = c.in_ok-merged.merged in
    let table = c.in_ok-merged.ensures.table in
    let units = c.in_ok-units.units.items in
    let boot = a.register.record in
    let needed = few_needed s a is c.args.table c.args.index c.requires.may p table c.in_ok-merged.ensures.merged in
    let wanted : segments_for (length (merged_facts p)) ≡ length units = ap (λ (n : ℕ). segments_for n) (sym c.len-facts.ensures.facts) ∙ sym c.segments_for.ensures ∙ sym c.in_ok-units.ensures.count in
    let few : length units ≤ pair_segments c.args.table c.args.index boot.patches = (let n = needed.0 in omega (arith, n, wanted)) in
    record {
      merged = c.in_ok-merged.ensures.merged;
      some = c.len-facts.ensures.some;
      there = rw table c.requires.may.there;
      units = units;
      wanted = wanted;
      count = omega (arith, c.len-2.ensures, c.in_ok-units.units.ok.0);
      fits = needed.1;
      few = rw table few;
      free = c.in_ok-units.ensures.units boot (facts a.memory.memory.tables) (map_of_facts s a is c.segments.result.now c.segments.ensures.said c.record-record.result.now c.record-record.ensures c.in_ok-map.map c.in_ok-map.ensures);
      ids = (let low = (are_low a c.requires.may.unspent).patch_segment in let same = is.patch_ids in let within = few_segments c.args.table c.args.index boot.patches in let room = is.of_shelf.lawful.lawful.patches.room in omega (arith, low, same, few, within, room));
      added = rw table (rw (c.len-facts.ensures.facts, c.record-record.ensures, c.deref.ensures.value) at c.in_ok-patches.ensures.added);
      patches = rw table (rw (c.requires.place, c.record-record.ensures) at c.in_ok-patches.ensures.all);
      next = ap (λ (n : ℕ). record c.record-record.result.now.next { patch_segment = c.record-record.result.now.next.patch_segment + n }) (let e : c.len.result ≡ length units = omega (arith, c.len.ensures, c.in_ok-units.units.ok.0) in e)
          ∙ ap (λ (b : BootRecord). record b.next { patch_segment = b.next.patch_segment + length units }) c.record-record.ensures;
      flushed = ap (λ (b : BootRecord). b.flushed) c.record-record.ensures;
    }
