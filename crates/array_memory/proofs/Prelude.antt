-- What the proofs of this crate name of definitions, of laws and of std, page by page.
pub use Rattle.std.proofs.Common.{All, AllPairs, Bool, Contains, Err, IfNone, IsOk, IsTrue, List, None, Ok, Option, Result, Some, [], add-one, ap, append-nil, arith, bytes_eq, cond, drop, eq-eqb, eqb-true, false, get_or, get_or-set_other, get_or-set_same, get_or-take, if◌then◌else◌, inl, inr, is_err, length, length-append, length-take, map, max, min, nat_lt, not, option_and_then, option_map, refl, replicate, rules, set, slice_index_or, subst, sym, take, take-append-drop, take_all, true, vec_capacity, vec_len, ℕ, ◌&&◌, ◌++◌, ◌+◌, ◌-◌, ◌<◌, ◌==◌, ◌^◌, ◌||◌, ◌↔◌, ◌∙◌, ◌∷◌, ◌≡◌, ◌≢◌, ◌≤◌, ◌⊎◌}
pub use Rattle.std.proofs.lemmas.Bool.{both_ways, cases_Bool, cases_eq, cases_lt, not-true, not_from_false, or_cases}
pub use Rattle.std.proofs.lemmas.Bool.Decides.{nat_tests}
pub use Rattle.std.proofs.lemmas.Grind.{common_steps}
pub use Rattle.std.proofs.lemmas.List.{get_or-map, get_or_default, length-replicate, length-take-le, take_more, take_more_set}
pub use Rattle.std.proofs.lemmas.List.Elements.{All-contains, Contains-append_left, Contains-append_right, Contains-get_or, Contains-push, Contains-push_cases, filter-append}
pub use Rattle.std.proofs.lemmas.List.Folds.{list_any-append, list_any_at}
pub use Rattle.std.proofs.lemmas.List.Quantifiers.{all_pairs_push}
pub use Rattle.std.specs.List.{list_any}
pub use Rattle.std.specs.Option.{is_some}
pub use Rattle.elision.specs.Ranges.{ElidedRanges, ranges_of}
pub use Rattle.address_table.specs.Addresses.{target_of, visible}
pub use Rattle.medium_table.specs.Prelude.{IsLowest, cut_facts, range_from}
pub use Rattle.segment_table.specs.Segments.{AreVisible, Segments, number}
pub use Rattle.memory_spec.specs.Prelude.{AddressFact, AreBelow, AreDistinct, AreElidedRanges, AreLayered, Ascends, ElisionFact, Facts, HaveShrunk, IsElisionOf, IsFlushed, IsLayered, IsShown, IsSound, IsTableFlushed, Layers, Location, MediumFact, Memory, NUMBER_LIMIT, NextNumbers, OBJECT_SECTORS, ObjectFact, Place, Reads, ReadsAt, SECTOR_BYTES, SEGMENT_SECTORS, SegmentFact, Stored, Table, Target, Volume, Zero, above_flushed, above_unflushed, address, address_facts, address_key, all_below, all_contained, all_segments, ascends-cons, ascends-nil, ascends_map, below_at, elision_key, fact, facts, facts_in, facts_of, filtered, here, id_of, in_map, is_elided, is_within, key_of, medium_key, merge_shrinks, never, newest_of, nowhere, object_key, of_each, of_filter, of_map, passes_filter, patch_facts, patches_of, range, ranges_beside, reads_or_zero, repointed, rises_below, said_found, says, segment, segment_key, shrunk_sound, unless_empty, within_elided}
unfoldable pub use Rattle.memory_spec.specs.Prelude.{filled}
pub use Rattle.command_spec.proofs.CountLemmas.{as_none, as_one, no_fewer_facts, no_more_facts, one_fact_more, only, with_one_more}
pub use Rattle.command_spec.proofs.DerivedLemmas.{AddsObject, AddsRanges, a_volume, added_size, both_move, clone_alone, clone_led, cloned, cloned_one, cloned_snapshot, copied_alone, copied_both, copied_one, copied_to, created_by, froze, frozen, led_around, moved_is, no_back, no_front, no_volume, one_moves, other_id, snapped, snapped_one, snapshot_alone, snapshot_stays, still_fresh, still_there, with_back, with_front}
pub use Rattle.command_spec.proofs.FlattenedLemmas.{cut_fits, flattened_as, given_next, leads_down, range_given}
pub use Rattle.command_spec.proofs.KeptLemmas.{cut_kept, free_object, given_kept, given_newest, ids_of, kept_beside, mediums_newer, object_kept, objects_distinct, objects_last, objects_newer, range_kept, run_next, visible_fact, visible_said, visible_size}
pub use Rattle.command_spec.proofs.LoadedLemmas.{addresses_rise, elisions_rise, kept_of_sound, loaded_ranges, loaded_reads, loaded_sound, loaded_stored, loaded_with_room, mediums_rise, objects_rise, own_names, segments_rise, sound_with}
pub use Rattle.command_spec.proofs.PutLemmas.{at_ok, none_staged, one_named, put_done, staging, taken_behind}
pub use Rattle.command_spec.proofs.RoomLemmas.{object_takes, put_takes, ranges_take, roomed_then, staged_then, takes_none, takes_then}
pub use Rattle.command_spec.proofs.RunLemmas.{run_ascends, targets_long}
pub use Rattle.command_spec.proofs.SegmentLemmas.{none_if, said_visible}
pub use Rattle.command_spec.proofs.SoundLemmas.{numbered_sound, reads_with_rooms, sound_as, sound_ranges, sound_sizes}
pub use Rattle.command_spec.proofs.VisibleLemmas.{visible_segments_are}
pub use Rattle.command_spec.specs.Prelude.{AddsOnly, HasCopy, HasObject, IsDerivable, IsKept, IsLowestRange, IsOwed, Kept, MayFlatten, TakesOnly, around, clone_of, copy_of, kept_of, leading, memory_of, moved, moves_both, next_past_move, next_past_object, snapshot_of, targets_from, whole, with_room_of}
pub use Rattle.command_spec.specs.declared.amounts.TheConstants.{NOTHING}
pub use Rattle.command_spec.specs.declared.limits.TheConstants.{ELIDED_SEGMENTS}
pub use Rattle.array_memory.specs.Eliding.{AreLowestUnused, IsElidingOf, eliding_by}
pub use Rattle.array_memory.specs.Flat.{AreOwedIn, IsOwedAt}
pub use Rattle.array_memory.specs.Named.{SayAddresses, is_hidden, is_said_in, unnamed}
unfoldable pub use Rattle.array_memory.specs.Named.{is_named, names, names_at}
pub use Rattle.array_memory.specs.Plan.{HasSameLayers, IsPlacingOf, IsPlanFor, IsSameMemory, after_plan, next_with, placed_addresses, units_of}
pub use Rattle.array_memory.specs.declared.memory.Memory.TheInside.{Inside}
pub use Rattle.array_memory.specs.declared.plan.Plan.{Plan}
pub use Rattle.table_plan.specs.Prelude.{IsMergedOf, IsPlanned, IsUnused, memory_with, place_in, places_from, segments_from, stands_in, table_of, tables_with}
pub use Rattle.table_plan.specs.declared.merged.Merged.{Merged}
