-- What the proofs of this crate name of definitions, of laws and of std, page by page.
pub use Rattle.std.proofs.Common.{All, AllPairs, Bool, Contains, IfSome, IsSome, List, None, Option, Some, [], ap, append-nil, arith, cond, eq-eqb, eqb-true, false, filter_map, find, get_or, if◌then◌else◌, inl, inr, is_some, leb-true, length, length-append, map, nat_le, ne_eqb, option_and_then, option_map, refl, replicate, slice_get, slice_index_or, subst, suc, sym, true, zero, ℕ, ◌&&◌, ◌++◌, ◌+◌, ◌-◌, ◌/◌, ◌<◌, ◌==◌, ◌^◌, ◌∙◌, ◌∷◌, ◌≡◌, ◌≢◌, ◌≤◌, ◌⊎◌}
pub use Rattle.std.proofs.lemmas.Bool.{and_parts, both_ways, cases_Bool, cases_eq, cases_lt}
pub use Rattle.std.proofs.lemmas.Bool.Decides.{nat_tests}
pub use Rattle.std.proofs.lemmas.List.{get_or-replicate, length-replicate}
pub use Rattle.std.proofs.lemmas.List.Elements.{All-contains, Contains-append_cases, Contains-append_left, Contains-append_right, Contains-get_or, Contains-push_cases, filter_map-append}
pub use Rattle.std.proofs.lemmas.Option.{slice_get-get_or, slice_get_within}
pub use Rattle.std.proofs.lemmas.Slice.Eq.{bytes_eq-Decides}
pub use Rattle.std.specs.List.{AllByRecursion, AllZip, cons_option, range_with_len}
pub use Rattle.pyramid.specs.Prelude.{AreDistinct, Grow, IsLayered, Layers, Rises, all_contained, below_at, either, facts_of, here, id_of_key, newest_found, newest_of, newest_over, nowhere, rises_alone, there}
pub use Rattle.array_spec.specs.Prelude.{AddressFact, AnyFact, AreAddressesSound, AreElisionsSound, AreEnough, AreIdsBelow, AreMediumsSound, AreNext, AreObjectsSound, ArePlaces, AreSegmentsSound, AreSequencesSound, AreSomeOf, AreSound, Array, BaseStands, BootRecord, BootSlot, ElisionFact, Entry, EntryStands, Facts, Geometry, Image, IsFact, IsNext, IsOlder, IsOver, IsTarget, LeadsDown, LeadsNowhere, Location, MediumFact, NUMBER_LIMIT, NextNumbers, OBJECTS, OBJECT_SECTORS, ObjectFact, OwnsMedium, Patch, PatchStands, Reads, SECTOR_BYTES, SectorStands, SegmentFact, Stored, StripesStand, Table, TablesStand, Target, TargetStands, View, Zero, address, address_key, all_facts, any_number, appended, as_medium, as_segment, below, body_in, by_table, drive, elides, elision_key, has, has_key, id_of, in_patches, is_elided, is_empty_range, is_named, is_narrower, is_snapshot, key_of, medium_key, names, never, next_id, not_both, object, object_key, objects, one_sector, places_keep, range, replaced, same_some, says, says_is, sector_in, segment, segment_key, spelling, stripe_of, table_tag, tag_of, unless_empty, unwritten, with_body, with_facts}
unfoldable pub use Rattle.array_spec.specs.Prelude.{Keeps, filled}
pub use Rattle.memory_spec.specs.Adding.{AreMoved, AreNew, AreWithinSize, CreateReads, HasCreated, HasPut, IsCreated, IsOverlaid, IsOwnMedium, SayTheSame, address_facts}
pub use Rattle.memory_spec.specs.Contents.{AreAmong, BaseIsRead, ContentsStand, WrittenDataHolds, WrittenHolds, WrittenOn}
pub use Rattle.memory_spec.specs.Laws.{CreatingReads, IsNextVolume, PuttingReads}
pub use Rattle.memory_spec.specs.LoadedLaws.{HeldTablesRead, SoundTablesRead, StoredTablesRead, showing}
pub use Rattle.memory_spec.specs.Memory.{AreAddressesThere, AreNumbered, Contents, EntryReads, FactsRead, FitsInMemory, FitsTarget, IsSound, IsThere, Memory, PlaceReads, ReadsAs, SectorReads, TargetReads}
pub use Rattle.memory_spec.specs.Merging.{IsMergedAt, MergedPatchesAreSound, MergedPatchesHold, MergedPatchesShrink}
pub use Rattle.memory_spec.specs.Placing.{AreRepointed, IsPlacedAt, IsPlacing, PlacingReads, placed_target, repointed}
pub use Rattle.memory_spec.specs.Tables.{Tables, all_of, facts, kind_of, layers_of, patches}
pub use Rattle.memory_spec.specs.Whole.{AreLayered, IsNamed, IsWhole, RecordIsSound}
pub use Rattle.memory_spec.specs.lemmas.Adding.{newest_given, newest_kept, no_newest, only_newest}
pub use Rattle.memory_spec.specs.lemmas.AllTables.{all_addresses, all_elisions, all_mediums, all_objects, all_segments, numbered_as, numbered_more, of_all}
pub use Rattle.memory_spec.specs.lemmas.Flushed.{flush_shrinks, grows_all}
pub use Rattle.memory_spec.specs.lemmas.Grown.{IsIdBelow, IsNoLower, as_it_was, fit_more, id_of_all, ids_more, old_or_added}
pub use Rattle.memory_spec.specs.lemmas.Keeping.{address_is, address_kept, mediums_sound, none_since, object_kept, objects_as, objects_sound, range_is, range_kept, segment_kept, some_since}
pub use Rattle.memory_spec.specs.lemmas.Lists.{contains_at, each_by_recursion, in_map, of_each, of_filter_map, of_map, pairs_of, range_more, zip_append, zip_left, zip_long, zip_weaker, zip_weaker_in}
pub use Rattle.memory_spec.specs.lemmas.Merged.{each_with, facts_shrink, layered_at, merge_shrinks}
pub use Rattle.memory_spec.specs.lemmas.Moved.{entry_same, moved_reads, over_before, over_kept, same_reads}
pub use Rattle.memory_spec.specs.lemmas.Objects.{in_objects, object_is, of_objects, same_objects}
pub use Rattle.memory_spec.specs.lemmas.Overlay.{overwrite_reads}
pub use Rattle.memory_spec.specs.lemmas.Owning.{volumes_own}
pub use Rattle.memory_spec.specs.lemmas.Patches.{flushed_are_all, in_patches_are, patches_are_all, patches_are_flushed, patches_read}
pub use Rattle.memory_spec.specs.lemmas.Shrinking.{shrinking_reads, shrunk_sound}
