-- What crates above name of this one and of those below it, page by page.
pub use Rattle.pur_base.specs.Bytes.{IsBytes, IsBytesOf, bytes_at, zeros}
pub use Rattle.pur_base.specs.Commands.{Accepts, AllAccepted, Command, IsLogged, after, after_all, is_removal}
pub use Rattle.pur_base.specs.Devices.{Condition, Conditions, Geometry, Image, IsBearable, IsImage, IsOn, IsWithin, LeftOut, MayBecome, MayShow, MayShowAs, Missing, Sound, View, drive, is_missing, is_sound, missing_drives, missing_nvrams, nvram, nvrams, slots_of}
pub use Rattle.pur_base.specs.Facts.{Facts, any_key, never, segment_key, table_tag}
pub use Rattle.pur_base.specs.Gates.{is_open}
pub use Rattle.pur_base.specs.Grammar.{Asked, Cut, Item, data_count, first_item, is_in_force, is_line_end, is_whole, line_item, line_request, requests, sectors_in}
pub use Rattle.pur_base.specs.Keys.{id_of, key_of}
pub use Rattle.pur_base.specs.Names.{is_name}
pub use Rattle.pur_base.specs.Plain.{Array, Entry, done, first_cause, read_causes, refusal, sectors_of, span}
pub use Rattle.pur_base.specs.Replies.{Answer, Entries, Line, Sectors, after_unless, entries_text, entry_text, given, line_text, refused, sectors_text, text, texts}
pub use Rattle.pur_base.specs.Says.{says}
pub use Rattle.pur_base.specs.Tags.{tag_of}
pub use Rattle.pur_base.specs.Visible.{ids_below, is_elided, object, objects, segment, segments}
pub use Rattle.pur_base.specs.declared.device.Device.{Device}
pub use Rattle.pur_base.specs.declared.device.Device.TheVariants.{Drive, Nv}
pub use Rattle.pur_base.specs.declared.facts.AddressFact.{AddressFact}
pub use Rattle.pur_base.specs.declared.facts.AnyFact.{AnyFact}
pub use Rattle.pur_base.specs.declared.facts.ElisionFact.{ElisionFact}
pub use Rattle.pur_base.specs.declared.facts.ObjectFact.{ObjectFact}
pub use Rattle.pur_base.specs.declared.facts.SegmentFact.{SegmentFact}
pub use Rattle.pur_base.specs.declared.limits.TheConstants.{BOOT_UNITS, INPUT_BYTES, NVRAM_DEVICES, OBJECT_SECTORS, REQUEST_SECTORS, SECTOR_BYTES, SEGMENT_SECTORS, SEGMENT_SHARDS, SLOTS_MAX, SLOTS_MIN, UNITS_MAX, UNITS_MIN, UNIT_BYTES}
pub use Rattle.pur_base.specs.declared.memory.NoMemory.{NoMemory}
pub use Rattle.pur_base.specs.declared.place.Place.{Place}
pub use Rattle.pur_base.specs.declared.reply.Refusal.{Refusal}
pub use Rattle.pur_base.specs.declared.reply.Reply.{Reply}
pub use Rattle.pur_base.specs.declared.reply.Status.{Status}
pub use Rattle.pur_base.specs.declared.request.Request.{Request}
pub use Rattle.pur_base.specs.declared.request.Table.{Table}
pub use Rattle.pur_base.specs.lemmas.Devices.{drives_apart, same_device}
pub use Rattle.pur_base.specs.lemmas.Items.{nothing-after-cut, requests-step}
pub use Rattle.pur_base.specs.lemmas.Says.{says_is}
unfoldable pub use Rattle.boot_codec.specs.Gate.{gate_bytes}
pub use Rattle.boot_codec.specs.Reading.{Fails}
unfoldable pub use Rattle.boot_codec.specs.Reading.{read_record}
pub use Rattle.boot_codec.specs.Record.{AreNext, ArePatches, AscendFrom, ByTagFrom, IsBootRecord, IsPatch, IsSegment, mask, patch_segments, set_count}
pub use Rattle.boot_codec.specs.Region.{A, B, BootSlot, Effective, IsDecided, IsEffective, IsRecordOf, Yields, body_in, body_place, gate_place, generation_in, is_vote, names, of_members, other_slot, shown_by, slot_of, votes, with_body}
pub use Rattle.boot_codec.specs.Spelling.{spelling}
pub use Rattle.boot_codec.specs.declared.bad_record.BadRecord.{BadRecord}
pub use Rattle.boot_codec.specs.declared.bad_record.ReadError.{ReadError}
pub use Rattle.boot_codec.specs.declared.limits.TheConstants.{DRIVE_FLAGS, NUMBER_LIMIT, PATCH_SEGMENTS, RECORD_BYTES, TAG_MAX}
pub use Rattle.boot_codec.specs.declared.patch.Patch.{Patch}
pub use Rattle.boot_codec.specs.declared.patch.PatchSegment.{PatchSegment}
pub use Rattle.boot_codec.specs.declared.record.BootRecord.{BootRecord}
pub use Rattle.boot_codec.specs.declared.record.NextNumbers.{NextNumbers}
pub use Rattle.segment_codec.specs.Position.{stripe_of}
pub use Rattle.segment_codec.specs.Stripes.{SectorStands, StripesStand}
pub use Rattle.segment_codec.specs.declared.position.TheConstants.{STRIPES}
pub use Rattle.fact_codec.specs.Fact.{IsFact, IsLawful}
pub use Rattle.log_codec.specs.Head.{Decodes, IsCommand}
pub use Rattle.log_codec.specs.Log.{DevicesAgree, HasSpelling, IsInSlot, LogFrom, LogStands, Shows, ShowsIn, Spells, slot_at}
pub use Rattle.log_codec.specs.declared.head.Head.{Head}
pub use Rattle.log_codec.specs.declared.limits.TheConstants.{LOG_SLOTS}
pub use Rattle.pyramid.specs.Layers.{Layers, facts_of, patch_facts, patches_of}
pub use Rattle.pyramid.specs.lemmas.Contains.{either, nowhere}
pub use Rattle.pyramid.specs.lemmas.Keys.{id_of_key}
pub use Rattle.pyramid.specs.lemmas.Layers.{all_contained}
pub use Rattle.array_spec.specs.Acked.{IsAnswer, IsEntry, acked, after_reply}
pub use Rattle.array_spec.specs.After.{AcceptsNext}
pub use Rattle.array_spec.specs.Base.{BaseStands}
pub use Rattle.array_spec.specs.Counts.{IsFree, IsGroups, free_of_members, is_place, is_used, stored}
pub use Rattle.array_spec.specs.Held.{AreEnough, AreSomeOf, DataHolds, NamesNoneLeftOut, TablesHold, named_sound}
pub use Rattle.array_spec.specs.Laws.{AreCleared, DiffersOnlyIn, IsHeld, IsNamedByNone, IsUnused, is_sound_vote}
pub use Rattle.array_spec.specs.LogSettling.{MaySettle, SettlesLog, answering}
pub use Rattle.array_spec.specs.Losses.{not_holding}
pub use Rattle.array_spec.specs.Meaning.{AllHold, HoldsBase, IsInForce, TablesStand, members_view}
pub use Rattle.array_spec.specs.Sound.{AreApart, ArePlaces, AreSegmentsSound, AreSound, named_segments, used_places}
pub use Rattle.array_spec.specs.Standing.{IsReadBy, IsReadInto, IsViewOf, MayAppear, MayBeGiven, Stands}
pub use Rattle.array_spec.specs.Stored.{PatchIsShown, PatchStands, PatchesStand, all_facts, in_patches, pages_in_part, places_of_part}
pub use Rattle.array_spec.specs.Unflushed.{LogLies, NamesSound}
pub use Rattle.array_spec.specs.lemmas.Fewer.{patches_keep, patches_on, places_count, places_keep, split_count}
pub use Rattle.array_spec.specs.lemmas.LogBetween.{shower}
pub use Rattle.array_spec.specs.lemmas.LogMoves.{log_moves, shows_move}
pub use Rattle.array_spec.specs.lemmas.Mediums.{same_some}
pub use Rattle.array_spec.specs.lemmas.Members.{enough_hold}
pub use Rattle.array_spec.specs.lemmas.Moves.{SameUnits, base_moves, same_units_keep, tables_kept}
unfoldable pub use Rattle.array_spec.specs.lemmas.Moves.{Keeps, SameUnit}
pub use Rattle.array_spec.specs.lemmas.Next.{counted_alike, data_moves, free_writes_keep, next_holds, same_drives_hold}
pub use Rattle.array_spec.specs.lemmas.OneLog.{one_in_slot, one_log, one_shown}
pub use Rattle.array_spec.specs.lemmas.Quiet.{bytes_same, effective_moves, in_unit, quiet_writes}
pub use Rattle.array_spec.specs.lemmas.Reading.{read_holds, record_is_read}
pub use Rattle.array_spec.specs.lemmas.Settling.{this_or_other, twice_other}
pub use Rattle.array_spec.specs.lemmas.Spelled.{spells_one}
pub use Rattle.array_spec.specs.lemmas.Standings.{given_with_fewer, more_may_go_missing, within_twice}
pub use Rattle.array_spec.specs.lemmas.UnflushedRead.{kept_some, one_left, unflushed_is_read, was_left_out}
pub use Rattle.array_spec.specs.lemmas.Unique.{all_patches, one_base, one_patches, same_lists}
pub use Rattle.array_spec.specs.lemmas.Used.{all_append, all_append_left, all_append_right, data_is_used}
pub use Rattle.array_spec.specs.lemmas.Votes.{counted, held_is_given, held_votes, most_votes, not_missing, one_is_decided, one_is_effective, sound_before}
pub use Rattle.memory_spec.specs.Checkpoint.{IsRecordOfMemory}
pub use Rattle.memory_spec.specs.Contents.{AreAmong, ContentsStand, WrittenOn}
pub use Rattle.memory_spec.specs.Eliding.{IsEliding, of_object, of_range}
pub use Rattle.memory_spec.specs.Flushing.{IsShrunk}
pub use Rattle.memory_spec.specs.LoadedLaws.{showing}
pub use Rattle.memory_spec.specs.Memory.{Contents, EntryReads, FactsRead, IsSound, Memory, ReadsAs}
pub use Rattle.memory_spec.specs.Merging.{AreJoined, HaveShrunk, IsMergedAt, has_pair, pair_segments, place_in}
pub use Rattle.memory_spec.specs.Numbers.{HasSameSegmentIds, are_used_up, is_used_up, next_after, next_after_all}
pub use Rattle.memory_spec.specs.Tables.{Tables, all_of, facts, flushed, patches}
pub use Rattle.memory_spec.specs.Whole.{AreLayered, IsNamed, IsWhole}
pub use Rattle.memory_spec.specs.lemmas.Adding.{newest_given, newest_kept}
pub use Rattle.memory_spec.specs.lemmas.AllTables.{all_objects, all_segments, of_all}
pub use Rattle.memory_spec.specs.lemmas.Elided.{not_before, said_before}
pub use Rattle.memory_spec.specs.lemmas.Keeping.{some_since}
pub use Rattle.memory_spec.specs.lemmas.Lists.{contains_at, each_by_recursion, in_filter_map, in_map, of_each, of_filter_map, of_map, pairs_of, zip_long, zip_weaker}
pub use Rattle.memory_spec.specs.lemmas.Merged.{merge_shrinks}
pub use Rattle.memory_spec.specs.lemmas.Objects.{object_is, of_objects, same_objects}
pub use Rattle.memory_spec.specs.lemmas.Patches.{in_patches_are, patches_are_all, patches_are_flushed, patches_read, patches_show, same_elisions, same_segment}
pub use Rattle.memory_spec.specs.lemmas.Shrinking.{shrinking_reads, shrunk_sound}
pub use Rattle.world.specs.Counts.{Rises, capped}
pub use Rattle.world.specs.Losing.{IsLater, geometry_of, has_failed, has_lost_writes, has_risen, losing, missing_if}
pub use Rattle.world.specs.Ran.{Only, Ran, Runs}
pub use Rattle.world.specs.Shelf.{Continues, Disk, Elapses, IsCountedBy, IsIn, IsInSome, IsOf, IsQuietBy, IsSame, IsShelf, Leaves, LeavesOnly, MayLeave, MayStop, MayStopGiving, MayStopTaking, OthersStay, OutputOnly, ReadCounts, Shelved, Stop, TakenOnly, Written}
pub use Rattle.world.specs.Streams.{IsPreorder, SameStream, Streamed}
pub use Rattle.world.specs.Tallies.{faults_of, tally_of, write_faults_of}
pub use Rattle.world.specs.Untold.{no_bytes, untold, untold_elapses}
pub use Rattle.world.specs.Writes.{ChangesOnly, LeavesBut, MayLeaveBut, OneRange, WritesOnly}
pub use Rattle.world.specs.declared.shelf.Span.{Span}
pub use Rattle.world.specs.declared.streams.Failed.{Failed}
pub use Rattle.world.specs.declared.tallies.Tallies.{Tallies}
pub use Rattle.world.specs.declared.tallies.Tally.{Tally}
pub use Rattle.world.specs.lemmas.Moments.{continues_refl, continues_trans, leaves_start, leaves_weaker, started, still_of, then_run, weaker}
pub use Rattle.world.specs.lemmas.Ran.{ran_more, ran_none, ran_then, runs_moments}
pub use Rattle.world.specs.lemmas.Rests.{same_stream, stream_then}
pub use Rattle.world.specs.lemmas.Rising.{not_risen, not_risen_before, not_risen_in_both, not_risen_since, risen, risen_on_way, rose_before}
pub use Rattle.world.specs.lemmas.Stopped.{as_read, none_dirty}
pub use Rattle.world.specs.lemmas.Writes.{counted_then, may_leave_but, nothing_written, read_writes, writes_more, writes_then}
pub use Rattle.session_spec.specs.Checkpointing.{ElidesUnnamed, ElidesUnreached, FactsGoOn, GoesOn, HasAddress, HaveOneMore, HoldAddressed, IsFilled, IsUnnamed}
pub use Rattle.session_spec.specs.Ends.{Ends, IsAnswered, IsOutput, IsPartOfNext, RisesIf, ends_in_write, is_cut, is_sink, is_source}
pub use Rattle.session_spec.specs.Entering.{ComesBack, ComesOut, Enters, Found, HasRoom, IsLeft, IsStanding, IsTakenOver, IsUnstored, LeftOutAreNamedByNone, OnlyFailedAreSilent, StandsStill, failed_by, failed_since, read_now, unfailed}
pub use Rattle.session_spec.specs.Faring.{Answers, AnswersAccepted, AnswersRequest, DropsOnlyLost, Fares, IsAppended, IsAppendedBehind, IsAsBefore, IsBorneSince, IsCheckpointed, IsDone, IsFailed, IsFlattened, IsFlattening, IsFlushed, IsFlushing, IsGone, IsLost, IsMergeDone, IsMerged, IsMerging, IsReached, IsRefused, LosesThree, MayDo, MayDoNext, MayRemove, MayRise, MayTake, Point, ReadsAt, Serves, Where, WithPair, WithRoom, WithRoomFor, data_segments_at, has_segments, is_full, is_spent, now_missing, numbers_at, patches_at, told_of}
pub use Rattle.session_spec.specs.First.{all_drives, first_record}
pub use Rattle.session_spec.specs.Headline.{HasNoArray, HasTooFew, IsAfter, IsInOpening, IsLeftAfter, IsNext, IsOpenedBearably, IsUnopenedBy, IsUnread, NothingWritten, Opening, Outlasts, Replied, Served, Serving, StandsAmong, StandsOn, Unopened, in_hand}
pub use Rattle.session_spec.specs.Making.{AreClean, AreSame, GivesBody, IsBlank, IsInMaking, IsMade, IsNoneOrEmpty, Makes, MakesBy, NoneFailed, NoneLeftOut, OneFailed, ShowsBody, none_missing, view_now}
pub use Rattle.session_spec.specs.Numbers.{HasGroups, segments_in, status_numbers}
pub use Rattle.session_spec.specs.Reaching.{NoMore}
pub use Rattle.session_spec.specs.lemmas.Conditions.{borne_before, borne_on, left_out_once, loses, still_sound}
