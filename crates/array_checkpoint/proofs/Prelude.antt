-- What the proofs of this crate name of definitions, of laws and of std, page by page.
pub use Rattle.std.proofs.Common.{All, AllPairs, Bool, Contains, IsSome, IsTrue, List, None, Option, Some, [], ap, append-nil, arith, count_by, drop, eqb-true, false, filter_map, get_or, if◌then◌else◌, inl, inr, is_none, leb-false, length, length-append, lt-ltb, ltb-true, map, min, nat_lt, option_and_then, option_map, refl, replicate, slice_get, slice_index_or, subst, suc, sum_by, sym, take, true, zero, ℕ, ◌%◌, ◌*◌, ◌++◌, ◌+◌, ◌-◌, ◌/◌, ◌<◌, ◌==◌, ◌^◌, ◌||◌, ◌↔◌, ◌∙◌, ◌∷◌, ◌≡◌, ◌≢◌, ◌≤◌, ◌⊎◌}
pub use Rattle.std.proofs.lemmas.Bool.{and_parts, both_ways, cases_Bool, cases_eq, cases_lt, false_from_ne_true, or_cases}
pub use Rattle.std.proofs.lemmas.Grind.{flat_map-append}
pub use Rattle.std.proofs.lemmas.List.{at_drop_all, get_or-map, get_or_default, length-map}
pub use Rattle.std.proofs.lemmas.List.Elements.{All-from_recursion, Contains-append_cases, Contains-append_left, Contains-append_right, filter-append}
pub use Rattle.std.proofs.lemmas.List.Sums.{sum_by-cons, sum_by-drop_more}
pub use Rattle.std.proofs.lemmas.Option.{same_Some, slice_get-get_or, slice_get_within}
pub use Rattle.std.specs.Int.{div_ceil}
pub use Rattle.std.specs.List.{AllByRecursion, AllZip, cons_option, flat_map, list_any}
pub use Rattle.free_space.specs.Laws.{AreUnitsToTake}
pub use Rattle.free_space.specs.Map.{AreDataSegments, IsMapOf, is_member, shelf_of}
pub use Rattle.memory_spec.proofs.Checkpointed.{checkpoint_data_holds, checkpoint_reads}
pub use Rattle.memory_spec.proofs.Placing.{old_segment_id, other_target, placing_sound, staged_target}
pub use Rattle.memory_spec.specs.Prelude.{AreDistinct, IsFact, IsPlacing, IsShrunk, Location, MediumFact, ObjectFact, Stored, Target, Zero, address, address_key, all_segments, below_at, flush_shrinks, here, id_of, id_of_key, is_empty_range, medium_key, no_newest, not_both, object_key, only_newest, placed_target, range, repointed, says_where, there, unless_empty}
pub use Rattle.array_memory.specs.Prelude.{AreCounts, AreLawfulPatches, AreLeftFor, AreUnits, ElidingLeaves, HasElided, HasRoomAgain, HasRoomForPatches, IsElidingOf, IsPlacingOf, IsPlanFor, IsPlanOf, IsSameMemory, Kept, after_plan, eliding_by, next_past, units_of, with_patch_rooms}
pub use Rattle.array_memory.specs.declared.plan.Counts.{Counts}
pub use Rattle.array_memory.specs.declared.plan.Eliding.{Eliding}
pub use Rattle.array_memory.specs.declared.plan.Plan.{Plan}
pub use Rattle.table_plan.specs.Prelude.{ArePatchFacts, AreStored, IsPlanned, IsUnused, extended, flagged_from, is_named, is_staged_at, place_in, place_or_any, places_from, sectors_at, segments_from}
pub use Rattle.record_tables.specs.Prelude.{AreNewUnits, FitRecord, HaveFacts, IsMapAfter, added_from, added_patches, all_weaker, by_tag, cons_pairs, counts_of, new_facts, new_patch, of_tag, pairs_across, pairs_append, pairs_back, pairs_front, pairs_head, pairs_tail, segments_for, segments_of, with_patches}
pub use Rattle.session_spec.specs.Prelude.{AddressFact, AnyFact, AreAmong, AreApart, AreEnough, AreNext, ArePatches, ArePlaces, AreSegmentsSound, AscendFrom, BaseStands, BootRecord, ByTagFrom, Contents, ContentsStand, Device, Disk, Drive, ElidesUnnamed, ElidesUnreached, Facts, FactsGoOn, Geometry, GoesOn, HasAddress, HasGroups, HaveOneMore, HoldAddressed, Image, IsBootRecord, IsCountedBy, IsEliding, IsFilled, IsFree, IsLawful, IsNamed, IsPatch, IsRecordOfMemory, IsShelf, IsSound, IsUnnamed, IsWhole, Layers, LeavesOnly, MayStop, Memory, NUMBER_LIMIT, NextNumbers, Nv, PATCH_SEGMENTS, Patch, PatchSegment, PatchStands, PatchesStand, Place, ReadsAs, Refusal, Runs, SEGMENT_SECTORS, SEGMENT_SHARDS, STRIPES, SectorStands, SegmentFact, Shelved, StripesStand, TAG_MAX, Table, Tables, TablesStand, View, WritesOnly, WrittenOn, all_append, all_append_right, all_contained, all_facts, any_key, are_used_up, bytes_same, contains_at, continues_trans, counted_alike, data_is_used, drive, each_by_recursion, either, facts, facts_of, flushed, free_of_members, geometry_of, ids_below, in_filter_map, in_map, in_unit, is_elided, is_place, is_used, is_used_up, key_of, named_segments, never, newest_given, newest_kept, not_before, nowhere, nvram, object, of_each, of_filter_map, of_map, of_object, of_range, pairs_of, patch_facts, patch_segments, patches, patches_are_all, patches_are_flushed, patches_of, patches_show, places_count, places_keep, places_of_part, ran_more, read_now, runs_moments, said_before, same_elisions, same_objects, same_segment, same_some, same_units_keep, says_is, segment, segment_key, segments, some_since, started, tag_of, used_places, writes_more, zip_long}
unfoldable pub use Rattle.session_spec.specs.Prelude.{Keeps, SameUnit}
pub use Rattle.segment_io.specs.Prelude.{LosesOnly, OnUnits, ShowsMost, bytes_of, is_in, place_of}
pub use Rattle.segment_writer.specs.Prelude.{AreAllApart, AreFilled, AreIndicesOf, DataStands, FactsStand, HavePlaces, IsOnCheckpoint, IsOnPatches, MayBeHeaded, MayBePlaced, MayBeStoredWith, OnCheckpoint, OnPatches, ShowsMostOf, StaysClean, places_in, segment_in}
pub use Rattle.boot_region.specs.Prelude.{IsDrive, IsMember}
pub use Rattle.register.specs.Prelude.{Content, IsLaterRecord, IsRegisterOf, StandsInLog, array_of, cut_in, drives_of, in_cut, with_tables}
pub use Rattle.register.specs.declared.state.Register.{Register}
pub use Rattle.array_core.specs.Prelude.{AreLost, Goes, Halts, HasRoomFor, HasWritten, HoldOnLeft, HoldTables, Holds, IsArrayOf, IsCleared, IsReady, OnFree, OnUnused, SegmentsHold, WritesFree, by_faults, drives_view, is_spent, nothing_behind}
pub use Rattle.array_core.specs.declared.array.Array.{Array}
pub use Rattle.array_checkpoint.specs.Made.{HasFlushed, IsFaultOf, contents_after, facts_after, held_after}
pub use Rattle.array_checkpoint.specs.Prepared.{IsLike, IsPreparedFor}
pub use Rattle.array_checkpoint.specs.declared.preparing.Prepared.{Prepared}
