-- What crates above name of this one and of those below it, page by page.
pub use Rattle.pur_base.specs.Bytes.{IsBytes, bytes_at}
pub use Rattle.pur_base.specs.Commands.{Accepts, Command, after, after_all, is_removal}
pub use Rattle.pur_base.specs.Devices.{Condition, Conditions, Geometry, Image, IsBearable, IsOn, IsWithin, LeftOut, MayBecome, MayShow, MayShowAs, Missing, Sound, View, drive, is_missing, missing_drives, nvram, nvrams, slots_of}
pub use Rattle.pur_base.specs.Facts.{Facts, address_key, any_key, any_number, elision_key, is_empty_range, is_narrower, medium_key, never, object_key, segment_key, table_tag}
pub use Rattle.pur_base.specs.Grammar.{Asked, Cut, Item, Syntax, is_whole, requests}
pub use Rattle.pur_base.specs.Keys.{id_of, key_of}
pub use Rattle.pur_base.specs.Mediums.{Reads, below, unwritten}
pub use Rattle.pur_base.specs.Names.{is_name}
pub use Rattle.pur_base.specs.Plain.{Array, Entry, appended, derive_causes, done, first_cause, has, is_full, is_no_size, is_snapshot, overwrite_causes, passes, refusal, replaced, sectors_of, span, without}
pub use Rattle.pur_base.specs.Replies.{Answer, Line, Sectors, after_unless, answer_unless, given, line_text, refused, text, texts}
pub use Rattle.pur_base.specs.Says.{Ascends, has_key, says, unless_empty}
unfoldable pub use Rattle.pur_base.specs.Sectors.{filled}
pub use Rattle.pur_base.specs.Tags.{tag_of}
pub use Rattle.pur_base.specs.Unwritten.{IsUnwritten, ReadsAt}
pub use Rattle.pur_base.specs.Visible.{AreElidedRanges, address, elides, is_elided, is_within, objects, range, segment, segments}
pub use Rattle.pur_base.specs.contracts.facts.ObjectKind.{the_type}
pub use Rattle.pur_base.specs.declared.device.Device.{Device}
pub use Rattle.pur_base.specs.declared.facts.AddressFact.{AddressFact}
pub use Rattle.pur_base.specs.declared.facts.AnyFact.{AnyFact}
pub use Rattle.pur_base.specs.declared.facts.ElisionFact.{ElisionFact}
pub use Rattle.pur_base.specs.declared.facts.MediumFact.{MediumFact}
pub use Rattle.pur_base.specs.declared.facts.ObjectFact.{ObjectFact}
pub use Rattle.pur_base.specs.declared.facts.ObjectKind.{ObjectKind}
pub use Rattle.pur_base.specs.declared.facts.ObjectKind.TheVariants.{Snapshot, Volume}
pub use Rattle.pur_base.specs.declared.facts.SegmentFact.{SegmentFact}
pub use Rattle.pur_base.specs.declared.facts.Target.{Target}
pub use Rattle.pur_base.specs.declared.facts.Target.TheVariants.{Stored, Zero}
pub use Rattle.pur_base.specs.declared.ids.MediumId.{MediumId}
pub use Rattle.pur_base.specs.declared.limits.TheConstants.{INPUT_BYTES, OBJECTS, OBJECT_SECTORS, REQUEST_SECTORS, SECTOR_BYTES, SEGMENT_SECTORS, SEGMENT_SHARDS}
pub use Rattle.pur_base.specs.declared.place.Location.{Location}
pub use Rattle.pur_base.specs.declared.place.Place.{Place}
pub use Rattle.pur_base.specs.declared.reply.Refusal.{Refusal}
pub use Rattle.pur_base.specs.declared.reply.Refusal.TheVariants.{Limit, Range, ReadOnly, Taken, Unknown}
pub use Rattle.pur_base.specs.declared.reply.Reply.{Reply}
pub use Rattle.pur_base.specs.declared.reply.Status.{Status}
pub use Rattle.pur_base.specs.declared.request.Request.{Request}
pub use Rattle.pur_base.specs.declared.request.Table.{Table}
pub use Rattle.pur_base.specs.lemmas.Says.{says_is}
pub use Rattle.pur_base.specs.lemmas.Unwritten.{reads_or_zero}
pub use Rattle.boot_codec.specs.Record.{AreNext, ArePatches, ByTagFrom, IsBootRecord, IsPatch, IsSegment, patch_segments, set_count}
pub use Rattle.boot_codec.specs.Region.{B, BootSlot, Effective, IsEffective, names, of_members}
pub use Rattle.boot_codec.specs.Spelling.{spelling}
pub use Rattle.boot_codec.specs.declared.limits.TheConstants.{DRIVE_FLAGS, FACTS_PER_SEGMENT, PATCH_SEGMENTS, TAG_MAX}
pub use Rattle.boot_codec.specs.declared.patch.Patch.{Patch}
pub use Rattle.boot_codec.specs.declared.patch.PatchSegment.{PatchSegment}
pub use Rattle.boot_codec.specs.declared.record.BootRecord.{BootRecord}
pub use Rattle.boot_codec.specs.declared.record.Members.{Members}
pub use Rattle.boot_codec.specs.declared.record.NextNumbers.{NextNumbers}
pub use Rattle.segment_codec.specs.Stripes.{SectorStands}
pub use Rattle.fact_codec.specs.Fact.{IsFact, IsLawful, IsNext, IsTarget, LeadsDown}
pub use Rattle.fact_codec.specs.declared.limits.TheConstants.{NUMBER_LIMIT}
pub use Rattle.pyramid.specs.Layers.{AreBelow, AreCovered, AreDistinct, IsBefore, IsFlushed, IsLayered, IsMerged, IsOrdered, Layers, Rises, facts_in, facts_of, newest_of, patch_at, patch_facts, patches_of}
pub use Rattle.pyramid.specs.Merging.{later}
pub use Rattle.pyramid.specs.Shown.{IsShown}
pub use Rattle.pyramid.specs.lemmas.Contains.{either, filtered, here, nowhere, of_filter, there}
pub use Rattle.pyramid.specs.lemmas.Keys.{above_flushed, above_unflushed, id_of_key, within_elided}
pub use Rattle.pyramid.specs.lemmas.Layers.{all_below, all_contained, below_at, rises_alone, rises_below}
pub use Rattle.pyramid.specs.lemmas.Merges.{ascends-cons, ascends-nil}
pub use Rattle.pyramid.specs.lemmas.Newest.{later_none, newest-append}
pub use Rattle.pyramid.specs.lemmas.Sets.{same_newest}
pub use Rattle.pyramid.specs.lemmas.Shown.{ascends_map, passes_filter, said_found}
pub use Rattle.array_spec.specs.Acked.{acked}
pub use Rattle.array_spec.specs.After.{AcceptsNext, After}
pub use Rattle.array_spec.specs.Counts.{IsGroups, free_of_members, is_place, is_used, stored}
pub use Rattle.array_spec.specs.Held.{named_sound}
pub use Rattle.array_spec.specs.Laws.{IsNamedByNone, MayBeMarked}
pub use Rattle.array_spec.specs.Losses.{not_holding}
pub use Rattle.array_spec.specs.Meaning.{HoldsBase, Means, members_view}
pub use Rattle.array_spec.specs.Runs.{IsBarred, IsModelled, IsOther, IsPhysical, IsStepReply, Runs, Step}
pub use Rattle.array_spec.specs.Sound.{AreApart, AreElisionsSound, AreIdsBelow, ArePlaces, AreSegmentsSound, AreSound, named_segments, next_id, used_places}
pub use Rattle.array_spec.specs.Standing.{IsViewOf, MayBeGiven, Stands}
pub use Rattle.array_spec.specs.Stored.{PatchIsShown, PatchesStand, all_facts, in_patches}
pub use Rattle.array_spec.specs.lemmas.Mediums.{not_both, reads_one, same_some}
pub use Rattle.array_spec.specs.lemmas.Spelled.{spells_one}
pub use Rattle.array_spec.specs.lemmas.Standings.{more_may_go_missing, standing_means, within_twice}
pub use Rattle.array_spec.specs.lemmas.Used.{all_append, all_append_left, all_append_right, any_append_left}
pub use Rattle.array_spec.specs.lemmas.Votes.{counted, one_is_effective}
pub use Rattle.memory_spec.specs.Adding.{HasCreated, HasPut, address_facts}
pub use Rattle.memory_spec.specs.Checkpoint.{IsCheckpointed}
pub use Rattle.memory_spec.specs.Contents.{ContentsStand}
pub use Rattle.memory_spec.specs.Eliding.{AreNewElisions, IsEliding, IsElisionOf, IsReached, of_object, of_range}
pub use Rattle.memory_spec.specs.Flushing.{IsFlush, IsShrunk, IsTableFlushed}
pub use Rattle.memory_spec.specs.Laws.{IsNextVolume}
pub use Rattle.memory_spec.specs.Memory.{AreAddressesThere, AreNumbered, Contents, EntryReads, FactsRead, FitsInMemory, FitsTarget, IsSound, IsThere, Memory, PlaceReads, ReadsAs, SectorReads, TargetReads}
pub use Rattle.memory_spec.specs.Merging.{AreJoined, HaveShrunk, IsMadeOfTwo, IsMergedAt, elided_by, has_pair, of_table, pair_segments, place_in, with_merged}
pub use Rattle.memory_spec.specs.Numbers.{HasSameSegmentIds, are_used_up, is_used_up, next_after, next_after_all, ranges_beside}
pub use Rattle.memory_spec.specs.Placing.{AreNewSegments, AreRepointed, IsPlacedAt, IsPlacing, placed_target, repointed}
pub use Rattle.memory_spec.specs.Reading.{AreEntries, IsEntry}
pub use Rattle.memory_spec.specs.Tables.{FactOf, Tables, all_of, facts, flushed, kind_of, layers_of, patches}
pub use Rattle.memory_spec.specs.Whole.{AreLayered, IsNamed, IsWhole}
pub use Rattle.memory_spec.specs.lemmas.Adding.{joined, newest_given, newest_kept, no_newest, only_newest}
pub use Rattle.memory_spec.specs.lemmas.AllTables.{all_addresses, all_elisions, all_mediums, all_objects, all_segments, numbered_more, of_all}
pub use Rattle.memory_spec.specs.lemmas.Elided.{any_of, as_before, of_any, one_table, said_before, says_where}
pub use Rattle.memory_spec.specs.lemmas.Elisions.{elided_push, eliding_one, sound_push}
pub use Rattle.memory_spec.specs.lemmas.Entries.{entries_read, sectors_read}
pub use Rattle.memory_spec.specs.lemmas.Flushed.{flush_shrinks, flushed_says, flushed_within, grows_all}
pub use Rattle.memory_spec.specs.lemmas.Grown.{IsIdBelow, IsNoLower, as_it_was, fit_more, ids_more, old_or_added}
pub use Rattle.memory_spec.specs.lemmas.Keeping.{address_is, address_kept, none_since, object_kept, objects_sound, range_is, segment_kept, some_since}
pub use Rattle.memory_spec.specs.lemmas.Lists.{each_by_recursion, in_map, of_each, of_filter_map, of_map, pairs_of, range_more, zip_append, zip_left, zip_long, zip_weaker, zip_weaker_in}
pub use Rattle.memory_spec.specs.lemmas.Merged.{merge_shrinks}
pub use Rattle.memory_spec.specs.lemmas.Moved.{entry_same, over_before}
pub use Rattle.memory_spec.specs.lemmas.Objects.{in_objects, object_is, of_objects, same_objects}
pub use Rattle.memory_spec.specs.lemmas.Overlay.{span_after, span_before, span_in, span_long}
pub use Rattle.memory_spec.specs.lemmas.Owning.{owns, volumes_own}
pub use Rattle.memory_spec.specs.lemmas.Run.{fact, of_run, run_distinct}
pub use Rattle.memory_spec.specs.lemmas.Shrinking.{fewer_elisions, shrunk_sound}
