-- What the proofs of this crate name of definitions, of laws and of std, page by page.
pub use Rattle.std.proofs.Common.{All, AllPairs, Bool, Contains, Err, IfNone, IfSome, IsSome, IsTrue, List, None, Ok, OnOk, Option, Result, Some, [], ap, append-nil, append_assoc, arith, bytes_eq, drop, eq-eqb, eqb-true, false, filter_map, get_or, get_or-append-add, get_or-drop, get_or-take, if◌then◌else◌, inl, inr, is_err, is_some, le-ltb, leb-false, length, length-append, length-drop, length-take-le, lt-ltb, ltb-false, map, map-id, nat_lt, ne_eqb, not, option_and_then, option_map, refl, replicate, set, slice_get, slice_index_or, subst, suc, sym, take, take-suc-set, true, zero, ℕ, ◌&&◌, ◌++◌, ◌+◌, ◌-◌, ◌<◌, ◌==◌, ◌^◌, ◌||◌, ◌↔◌, ◌∙◌, ◌∷◌, ◌≡◌, ◌≢◌, ◌≤◌, ◌⊎◌}
pub use Rattle.std.proofs.lemmas.Bool.{both_ways, cases_Bool, cases_eq, cases_lt, false_from_ne_true, lt-leb}
pub use Rattle.std.proofs.lemmas.Bool.Decides.{nat_tests}
pub use Rattle.std.proofs.lemmas.List.{get_or_append_left, length-replicate}
pub use Rattle.std.proofs.lemmas.List.Elements.{All-contains, All-replicate, Contains-append_cases, Contains-append_left, Contains-append_right, filter_map-append, recursion_from_All}
pub use Rattle.std.proofs.lemmas.Option.{slice_get-get_or, slice_get_within}
pub use Rattle.std.proofs.lemmas.Slice.Eq.{bytes_eq-Decides}
pub use Rattle.std.specs.List.{AllByRecursion, AllZip, cons_option, range_with_len, remove}
pub use Rattle.elision.specs.Ranges.{AreApart, ElidedRanges, ranges_of}
pub use Rattle.pyramid.specs.Prelude.{AreDistinct, either, here, id_of_key, newest_found, newest_of, newest_over, nowhere, said_found, said_whole, same_newest, there, whole_said}
pub use Rattle.medium_table.specs.Prelude.{after_cut, cut_facts, emptied, number, rest_of, said}
pub use Rattle.object_table.specs.Objects.{AreNamesDistinct, AreVisible, Objects, with_medium}
pub use Rattle.segment_table.specs.Segments.{Segments}
pub use Rattle.loaded_tables.specs.Prelude.{AreElidedBy, AreLawful, AreNamed, IsRange, all_joined, elided_ranges, patches_in, same_facts, tables_rise}
pub use Rattle.array_spec.specs.Base.{is_snapshot}
pub use Rattle.array_spec.specs.Prelude.{AnyFact, AreMediumsSound, AreObjectsSound, Entry, Facts, IsFact, IsOver, LeadsDown, LeadsNowhere, Location, MediumFact, OBJECT_SECTORS, ObjectFact, OwnsMedium, Reads, Volume, Zero, address, address_key, any_number, below, has_key, id_of, is_empty_range, is_named, key_of, medium_key, never, next_id, not_both, object, objects, range, same_some, sectors_of, segment, tag_of, unless_empty, unwritten, with_sectors, with_span}
pub use Rattle.memory_spec.proofs.Created.{created_sound, creating_reads, not_elided}
pub use Rattle.memory_spec.proofs.Putting.{address_numbers, object_fits, put_sound, putting_reads, run_long, within_size}
pub use Rattle.memory_spec.specs.Prelude.{Accepts, AddressFact, AreAddressesThere, AreBelow, AreElidedRanges, AreEntries, AreIdsBelow, AreNext, AreNumbered, AreSound, Array, Ascends, BootRecord, Contents, ElisionFact, EntryReads, FactsRead, FitsInMemory, FitsTarget, Geometry, HasCreated, HasSameSegmentIds, IsBefore, IsElisionOf, IsEntry, IsFlushed, IsIdBelow, IsNextVolume, IsNoLower, IsOrdered, IsShown, IsSound, IsTarget, IsThere, IsUnwritten, Layers, Limit, Memory, NUMBER_LIMIT, NextNumbers, OBJECTS, ObjectKind, REQUEST_SECTORS, Range, ReadOnly, ReadsAs, Refusal, Request, Rises, SECTOR_BYTES, SectorReads, SegmentFact, Snapshot, Stored, Table, Tables, Taken, Target, TargetReads, Unknown, address_facts, address_is, address_kept, after, after_unless, all_addresses, all_below, all_contained, all_elisions, all_facts, all_mediums, all_objects, all_of, any_of, appended, as_before, as_it_was, derive_causes, done, each_by_recursion, elided_push, elides, eliding_one, elision_key, entries_read, entry_same, fact, facts, facts_in, facts_of, fewer_elisions, first_cause, fit_more, has, ids_more, in_map, in_objects, in_patches, is_elided, is_full, is_name, is_no_size, is_within, joined, newest_given, newest_kept, next_after, no_newest, none_since, numbered_more, object_is, object_kept, object_key, objects_sound, of_all, of_any, of_each, of_filter_map, of_map, of_objects, of_run, old_or_added, only_newest, over_before, overwrite_causes, owns, pairs_of, passes, patches, range_is, range_more, ranges_beside, reads_one, reads_or_zero, replaced, run_distinct, same_objects, says, says_is, says_where, sectors_read, segment_kept, segment_key, segments, some_since, sound_push, span, span_after, span_before, span_in, span_long, the_type, volumes_own, without, zip_append, zip_left, zip_weaker, zip_weaker_in}
unfoldable pub use Rattle.memory_spec.specs.Prelude.{filled}
pub use Rattle.command_spec.specs.Asked.{AreLeft, HasCopy, HasObject, HasRoomLeft, HasSpan, IsAllowed, IsDerivable, IsFree, command_of, staged_by}
pub use Rattle.command_spec.specs.Derived.{AddsOnly, next_past_freeze, next_past_move, next_past_object}
pub use Rattle.command_spec.specs.Deriving.{Derived, HasDerived, IsDerived, around, clone_of, copy_of, derived, leading, moved, moves_both, snapshot_of, whole}
pub use Rattle.command_spec.specs.Flattening.{HasFlattened, MayFlatten, cut_of}
pub use Rattle.command_spec.specs.Kept.{HasSamePatches, IsKept, Kept, kept_of}
pub use Rattle.command_spec.specs.Laws.{CloneFactsRead, CloneMayBe, CloneReads, CopyFactsRead, CopyMayBe, CopyReads, MayBeCopied, MayBeNamed, SnapshotFactsRead, SnapshotMayBe, SnapshotReads}
pub use Rattle.command_spec.specs.Put.{AreNextAddresses, IsPut}
pub use Rattle.command_spec.specs.Removing.{HasRemoved, RemovalReads}
pub use Rattle.command_spec.specs.Room.{AtMost, TakesOnly, with_more, with_rooms}
pub use Rattle.command_spec.specs.Runs.{target_of, targets_from}
pub use Rattle.command_spec.specs.Soundness.{AreNewNumbers, DerivingIsSound, DerivingSays, IsGiven, IsVisible, MayDerive, WasVisible}
pub use Rattle.command_spec.specs.declared.amounts.TheConstants.{NOTHING}
