-- What the proofs of this crate name of definitions, of laws and of std, page by page.
pub use Rattle.std.proofs.Common.{All, AllPairs, Bool, Contains, IsTrue, List, None, Option, Some, [], add-one, ap, append-nil, append_assoc, arith, cond, drop, drop-cons, eq-eqb, false, filter, get_or, inl, inr, le-leb, le-ltb, leb-false, leb-true, length, length-append, lt-ltb, ltb, ltb-false, ltb-true, map, min, nat_le, nat_lt, not, of_calls, refl, rules, slice_get, slice_index_or, subst, suc, sym, take, take_all, true, zero, ℕ, ◌%◌, ◌&&◌, ◌*◌, ◌++◌, ◌+◌, ◌-◌, ◌/◌, ◌<◌, ◌==◌, ◌↔◌, ◌∙◌, ◌∷◌, ◌≡◌, ◌≢◌, ◌≤◌, ◌⊎◌}
pub use Rattle.std.proofs.lemmas.Bool.{and_from, and_parts, both_ways, cases_eq, cases_lt, or_cases}
pub use Rattle.std.proofs.lemmas.Fn.{always_returns_same}
pub use Rattle.std.proofs.lemmas.Grind.{common_steps, flat_map-append}
pub use Rattle.std.proofs.lemmas.List.{drop_all, get_or-map, get_or_default, length-map, take_more}
pub use Rattle.std.proofs.lemmas.List.Elements.{Contains-append_cases, Contains-append_left, Contains-append_right, Contains-get_or, Contains-push, Contains-push_cases, filter_map-append, filter_more}
pub use Rattle.std.proofs.lemmas.List.Folds.{list_any_at}
pub use Rattle.std.proofs.lemmas.Option.{get_or_from_slice_get, slice_get-get_or, slice_get_within}
pub use Rattle.std.specs.List.{filter_map}
pub use Rattle.std.specs.List.Sorted.{IsPartitionPoint, IsPartitionedBy}
pub use Rattle.elision.specs.Ranges.{AreApart, ElidedRanges, ranges_of}
pub use Rattle.memory_spec.proofs.Placing.{old_segment_id, other_target, placing_sound, staged_target, which_place}
pub use Rattle.memory_spec.specs.Prelude.{AddressFact, AnyFact, AreElisionsSound, AreNewElisions, AreNewSegments, AreNext, AreRepointed, Ascends, Contents, ElisionFact, FactOf, FitsInMemory, FitsTarget, IsCheckpointed, IsEliding, IsElisionOf, IsFact, IsFlush, IsLawful, IsMergedAt, IsPlacedAt, IsPlacing, IsReached, IsShrunk, IsSound, IsTarget, Layers, Location, Memory, NUMBER_LIMIT, NextNumbers, Place, SEGMENT_SECTORS, SegmentFact, Stored, Table, Target, Zero, address_key, all_addresses, all_contained, all_elisions, all_mediums, all_objects, all_segments, any_key, as_before, ascends-cons, ascends-nil, each_by_recursion, either, elided_push, eliding_one, elision_key, facts, facts_in, facts_of, flush_shrinks, here, in_map, is_elided, is_within, key_of, kind_of, layers_of, medium_key, never, next_id, nowhere, object_key, of_map, one_table, pairs_of, patch_at, patch_facts, patches_of, placed_target, repointed, same_some, says_is, segment, segment_key, shrunk_sound, sound_push, table_tag, tag_of, there}
pub use Rattle.table_plan.specs.Eliding.{AreElidedToo, AreElisionsOf, IsElidedBy, IsUnused, ItemsAreElided, ItemsMayBeElided, eliding, items_of, medium_items, segment_items, with_item}
pub use Rattle.table_plan.specs.Patches.{ArePatchFacts}
pub use Rattle.table_plan.specs.Places.{flagged_from, is_named, is_staged_at, place_in, place_of, place_or_any, places_from}
pub use Rattle.table_plan.specs.Planned.{AreStored, ElidedIsCheckpointed, IsPlanned, PlannedIsCheckpointed, extended, sectors_at}
pub use Rattle.table_plan.specs.Segments.{segments_from}
pub use Rattle.table_plan.specs.Unused.{last_witness, witness_or}
pub use Rattle.table_plan.specs.declared.witnesses.Witness.{Witness}
