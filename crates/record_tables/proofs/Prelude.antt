-- What the proofs of this crate name of definitions, of laws and of std, page by page.
pub use Rattle.std.proofs.Common.{AllPairs, Bool, Contains, List, None, Option, Some, [], ap, append-nil, append_assoc, arith, cond, count_by, drop, drop-drop, drop_at, drop_of_length-le, eq-eqb, eqb-true, false, filter_map, get_or, if◌then◌else◌, inl, inr, le-ltb, length, length-append, length-drop, length-take, length-take-le, lt-ltb, ltb-true, map, min, nat_lt, ne_eqb, not, option_and_then, refl, rules, slice_get, subst, suc, sum_by, sym, take, take-append-drop, take_all, true, zero, ℕ, ◌*◌, ◌++◌, ◌+◌, ◌-◌, ◌<◌, ◌==◌, ◌^◌, ◌||◌, ◌∙◌, ◌∷◌, ◌≡◌, ◌≢◌, ◌≤◌, ◌⊎◌}
pub use Rattle.std.proofs.lemmas.Bool.{and_from, and_parts, cases_Bool, cases_eq, cases_lt, not-true, or_parts}
pub use Rattle.std.proofs.lemmas.Grind.{common_steps, div_ceil_times, flat_map-append}
pub use Rattle.std.proofs.lemmas.List.{drop-append-le, drop-map, drop_more, length-map, map-append, take-append-le, take-map}
pub use Rattle.std.proofs.lemmas.List.Elements.{Contains-append_cases, Contains-append_left, Contains-append_right, filter_map-append, filter_more}
pub use Rattle.std.proofs.lemmas.List.Filters.{length-filter_more, sum_by-filter_both}
pub use Rattle.std.proofs.lemmas.List.Sums.{length-filter, sum_by-cons, sum_by-drop_more, sum_by-take-drop, sum_by-take-le, sum_by_more_le}
pub use Rattle.std.specs.List.{AllByRecursion, AllZip, cons_option, flat_map, list_any, range_with_len}
pub use Rattle.unit_map.specs.Prelude.{IsGroups, IsTaken, LowersByOne, free_count, share, total_at, with_units}
pub use Rattle.unit_map.specs.declared.drive.Drive.{Drive}
pub use Rattle.free_space.specs.Laws.{AreUnitsToTake}
pub use Rattle.free_space.specs.Map.{IsMapBut, IsMapOf, is_data_unit, is_member, shelf_of, used_or_among}
pub use Rattle.memory_spec.specs.Prelude.{AddressFact, AnyFact, AreApart, AreCovered, AreJoined, ArePatches, ArePlaces, AreSegmentsSound, BootRecord, ByTagFrom, ElisionFact, FACTS_PER_SEGMENT, Facts, IsNamed, IsPatch, IsSegment, IsTableFlushed, Layers, MediumFact, Memory, NextNumbers, ObjectFact, PATCH_SEGMENTS, Patch, PatchSegment, Place, SEGMENT_SECTORS, SEGMENT_SHARDS, SegmentFact, Table, Tables, all_append, all_append_left, all_append_right, each_by_recursion, either, elision_key, facts, facts_of, flushed_says, flushed_within, grows_all, has_key, has_pair, here, id_of, id_of_key, in_map, is_elided, is_narrower, is_place, is_used, key_of, later, later_none, named_segments, never, newest-append, newest_of, no_newest, nowhere, of_each, only_newest, pair_segments, passes_filter, patch_facts, patch_segments, patches, patches_of, place_in, same_some, says_is, segment, segment_key, segments, table_tag, tag_of, there, unless_empty, used_places, zip_long, zip_weaker, zip_weaker_in}
pub use Rattle.array_memory.specs.Prelude.{AreCounts, IsPlanFor, after_plan, units_of}
pub use Rattle.array_memory.specs.declared.plan.Plan.{Plan}
pub use Rattle.table_plan.specs.Prelude.{IsMergedOf, merged_patches, pair_facts, patch_count, table_of, tables_with}
pub use Rattle.record_tables.specs.Laws.{AddedAreNamed, AddedTakeTheUnits, HasFacts, HaveFacts, NextPatchesAreLawful, NextPatchesAreNamed, NextSegmentsAreSound, new_facts, with_patches}
pub use Rattle.record_tables.specs.Patches.{added_from, added_patches, by_tag, counts_of, new_patch, of_tag, segments_for, segments_from}
pub use Rattle.record_tables.specs.Units.{AreNewUnits, IsMapAfter, NoneIsTaken, all_units}
pub use Rattle.record_tables.specs.lemmas.Lists.{all_weaker, cons_pairs, no_pairs, pairs_append, pairs_head, pairs_swapped, pairs_tail, passing, zip_at, zip_both, zip_join, zip_parts, zip_split}
