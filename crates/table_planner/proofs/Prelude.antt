-- What the proofs of this crate name of definitions, of laws and of std, page by page.
pub use Rattle.std.proofs.Common.{All, Bool, Contains, IsSome, IsTrue, List, None, Option, Some, [], ap, arith, drop, false, get_or, inl, inr, length, length-append, map, option_map, refl, rules, slice_index_or, subst, sym, take, take-append-drop, take_all, true, ℕ, ◌*◌, ◌++◌, ◌+◌, ◌<◌, ◌==◌, ◌^◌, ◌↔◌, ◌∙◌, ◌∷◌, ◌≡◌, ◌≢◌, ◌≤◌, ◌⊎◌}
pub use Rattle.std.proofs.lemmas.Bool.{both_ways, cases_Bool, false_from_ne_true}
pub use Rattle.std.proofs.lemmas.Grind.{common_steps, flat_map-append}
pub use Rattle.std.proofs.lemmas.List.{map-append, take_more}
pub use Rattle.std.proofs.lemmas.List.Elements.{Contains-append_cases, Contains-append_left, Contains-append_right, Contains-get_or, Contains-push, Contains-push_cases, recursion_from_All}
pub use Rattle.elision.specs.Ranges.{AreApart, ElidedRanges, ranges_of}
pub use Rattle.memory_spec.specs.Prelude.{AddressFact, AreBelow, AreDistinct, AreElidedRanges, AreLayered, Array, Contents, ElisionFact, FactOf, FitsInMemory, FitsTarget, IsEliding, IsFact, IsFlushed, IsMerged, IsReached, IsSound, Layers, Location, MediumFact, MediumId, Memory, NUMBER_LIMIT, NextNumbers, ObjectFact, Place, ReadsAs, SEGMENT_SECTORS, SegmentFact, Stored, Table, Tables, Target, Zero, address_key, all_addresses, all_below, all_contained, all_elisions, all_mediums, all_objects, all_segments, below_at, either, elided_by, elision_key, facts, facts_in, facts_of, flushed, has_key, id_of, id_of_key, in_map, is_elided, is_empty_range, is_within, key_of, kind_of, layers_of, medium_key, never, not_both, nowhere, object_key, objects, of_each, of_map, of_object, of_range, patch_at, patch_facts, patches, patches_of, range, range_is, rises_alone, rises_below, said_before, same_newest, same_objects, says_where, segment, segment_key, within_elided}
pub use Rattle.array_memory.specs.Prelude.{AreLawfulPatches, AreLeftFor, AreLowestUnreachedOf, AreNoMore, AreUnits, ELIDED_MEDIUMS, ELIDED_SEGMENTS, ElidingLeaves, HasElided, HasRoomForPatches, IsElidingOf, IsKept, IsPlacingOf, IsPlanFor, IsPlanOf, IsSameMemory, Kept, SayAddresses, after_plan, eliding_by, flushed_with, is_hidden, next_past, next_with, placed_addresses, units_of, with_patch_rooms, without_elisions}
pub use Rattle.array_memory.specs.declared.plan.Eliding.{Eliding}
pub use Rattle.array_memory.specs.declared.plan.Placing.{Placing}
pub use Rattle.array_memory.specs.declared.plan.Plan.{Plan}
pub use Rattle.table_plan.specs.Prelude.{AreElidedToo, AreElisionsOf, AreStored, IsElidedBy, IsPlanned, IsUnused, eliding, flagged_from, has_place, has_places, items_of, medium_items, patch_count, place_of, places_from, segment_items, segments_from}
