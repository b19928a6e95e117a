-- What the proofs of this crate name of definitions, of laws and of std, page by page.
pub use Rattle.std.proofs.Common.{All, Bool, Contains, Err, IfErr, IfOk, IsErrAnd, List, None, Ok, OnOk, Option, Result, Some, [], ap, arith, cond, count_by, drop, drop-drop, drop_at, ext_get_or, false, get_or, get_or-take, if◌then◌else◌, inl, inr, is_none, is_some, leb-false, length, length-take, lt-ltb, ltb-false, ltb-true, map, nat_le, nat_lt, not, option_and_then, option_map, refl, rules, slice_get, slice_index, slice_index_or, subst, suc, sym, take, take_at, true, zero, ℕ, ⊎_elim, ◌&&◌, ◌*◌, ◌++◌, ◌+◌, ◌-◌, ◌/◌, ◌<◌, ◌^◌, ◌||◌, ◌∙◌, ◌∷◌, ◌≡◌, ◌≢◌, ◌≤◌, ◌⊎◌}
pub use Rattle.std.proofs.lemmas.Bool.{and_from, and_parts, cases_Bool, cases_lt, not-false, not_from_true, or_parts}
pub use Rattle.std.proofs.lemmas.Bool.Decides.{nat_tests}
pub use Rattle.std.proofs.lemmas.List.{get_or_append_left, get_or_past}
pub use Rattle.std.proofs.lemmas.List.Elements.{All-contains, All-from_recursion, Contains-append_left, recursion_from_All}
pub use Rattle.std.proofs.lemmas.List.FromFn.{length-map-range_with_len}
pub use Rattle.std.proofs.lemmas.Option.{slice_get_cases, slice_get_within}
pub use Rattle.std.proofs.lemmas.Slice.Eq.{bytes_eq-Decides}
pub use Rattle.std.specs.Cmp.Lexicographic.{same_text}
pub use Rattle.std.specs.List.{AllByRecursion, AllZip, concat, range_with_len}
pub use Rattle.std.specs.Str.{bytes_eq}
pub use Rattle.array_memory.specs.Prelude.{AreInSegments, AtMost, HasLogRoom, HasNoLessRoom, HasRoomLeft, HasSamePatches, IsKept, IsLawful, Kept, NOTHING, command_of, taken_up, with_rooms}
pub use Rattle.session_spec.specs.Prelude.{A, Accepts, AddressFact, AllAccepted, AllHold, AnyFact, AreEnough, AreLayered, AreSomeOf, AreSound, Array, AscendFrom, B, BOOT_UNITS, BadRecord, BaseStands, BootRecord, BootSlot, ChangesOnly, ComesBack, ComesOut, Command, Condition, Conditions, Contents, ContentsStand, Continues, Device, DevicesAgree, DiffersOnlyIn, Disk, Drive, Effective, Enters, Facts, FactsRead, Found, Geometry, HasNoArray, HasSameSegmentIds, HasTooFew, HoldsBase, Image, IsBearable, IsBootRecord, IsBytesOf, IsCommand, IsCountedBy, IsDecided, IsEffective, IsFact, IsIn, IsInForce, IsInSlot, IsInSome, IsNamed, IsNamedByNone, IsOn, IsPatch, IsReadBy, IsRecordOf, IsSame, IsSegment, IsShelf, IsSound, IsStanding, IsTakenOver, IsUnopenedBy, IsUnread, IsUnstored, IsViewOf, IsWhole, IsWithin, LeavesBut, LeavesOnly, LeftOut, LeftOutAreNamedByNone, LogFrom, LogStands, MayAppear, MayBeGiven, MayBecome, MayLeave, MaySettle, MayShow, MayShowAs, MayStop, Missing, NextNumbers, NoMemory, NothingWritten, Nv, OnlyFailedAreSilent, Patch, PatchIsShown, PatchSegment, PatchStands, PatchesStand, Place, Ran, ReadsAs, Request, Rises, Runs, SECTOR_BYTES, SLOTS_MIN, SameUnits, SectorStands, SegmentFact, SettlesLog, Shelved, Shows, ShowsIn, Sound, Span, Stands, StandsStill, Status, Stop, StripesStand, Tables, TablesHold, TablesStand, UNIT_BYTES, View, WritesOnly, Yields, after, after_all, all_facts, all_of, all_patches, answering, as_read, base_moves, body_in, borne_on, bytes_at, bytes_same, continues_refl, continues_trans, counted, data_count, drive, each_by_recursion, effective_moves, enough_hold, facts, facts_of, failed_by, failed_since, flushed, gate_place, generation_in, geometry_of, given_with_fewer, has_failed, has_risen, held_votes, in_patches, in_patches_are, in_unit, is_missing, is_open, is_sound, is_vote, kept_some, left_out_once, log_moves, loses, losing, members_view, missing_drives, missing_if, more_may_go_missing, most_votes, named_sound, names, next_after, next_after_all, next_holds, not_holding, not_missing, not_risen_before, not_risen_in_both, not_risen_since, nvram, objects, of_all, of_members, one_base, one_in_slot, one_is_decided, one_is_effective, one_left, one_log, one_patches, one_shown, other_slot, pages_in_part, patches, patches_are_all, patches_keep, patches_on, places_keep, places_of_part, ran_more, ran_then, read_holds, read_now, refusal, risen, risen_on_way, rose_before, runs_moments, same_drives_hold, same_lists, same_units_keep, segment, set_count, shower, showing, shown_by, shows_move, slot_of, slots_of, sound_before, spelling, spells_one, split_count, stripe_of, table_tag, tables_kept, then_run, this_or_other, twice_other, unfailed, votes, was_left_out, weaker, with_body, within_twice, zip_weaker}
unfoldable pub use Rattle.session_spec.specs.Prelude.{SameUnit, read_record}
pub use Rattle.nvram_log.specs.Prelude.{Agree, AllFailed, AreAsSeen, DroppedCounted, HasRead, HoldsOn, IsFewer, IsLog, IsNvram, IsOnMember, IsReadFrom, IsSome, LosesOnlyFailed, OnMembers, OnNothing, SettleBy, SettlesBy}
pub use Rattle.nvram_log.specs.declared.log.NvLog.{NvLog}
pub use Rattle.segment_io.specs.Prelude.{ArePlaces, drive_of, is_in, place_of}
pub use Rattle.patch_io.specs.Prelude.{AreLostSince, StripesStandOf}
pub use Rattle.table_loading.specs.Loading.{ShowsDrives, ShowsNoOtherDrive, StripesStandOfAll}
pub use Rattle.boot_region.specs.Prelude.{AccountsFor, DroppedFailed, IsBadBody, IsDrive, IsFaultOf, IsFound, IsHeld, IsInForceOn, IsLawfulLoad, IsLoadBy, IsLoadOf, IsLoaded, IsMember, IsOlder, IsOneOf, IsRead, IsSpent, LostWrites, MayBeSettled, NonMembersStay, OnClosed, Opened, StandsAgain, StandsBut, StandsNow, TellsFailed, TellsHolding, TooFewHold, WasGiven, bodies_same, body_stands, closed_shows, drive_below, failed_calls, gate_low, is_body_in, losing_within, member_below, open_shows, other_same, same_body, same_over, same_shown, seen, shown_body, slot_in}
unfoldable pub use Rattle.boot_region.specs.Prelude.{is_holding, region_at}
pub use Rattle.boot_region.specs.declared.loading.LoadFault.{LoadFault}
pub use Rattle.boot_region.specs.declared.loading.Loaded.{Loaded}
pub use Rattle.boot_region.specs.declared.slot.Slot.{Slot}
pub use Rattle.register.specs.Prelude.{AllShow, AreOfMembers, Content, GivesOldOrNext, IsFirm, IsLaterRecord, IsNextOf, IsOpen, IsRegisterOf, MayStore, OnSlots, StandsBack, StandsInLog, StillGiven, back_at, cut_in, cut_length, drives_of, gives_at, in_cut, members_sound, next_slot, none_past, own_slot, stands_at}
pub use Rattle.register.specs.declared.next.StoreFault.{StoreFault}
pub use Rattle.register.specs.declared.state.Register.{Register}
pub use Rattle.array_core.specs.Prelude.{HasEnough, HasRoomFor, IsArrayOf, IsReady, SegmentsHold, StandsOnceBack, bearable_or_not, drives_view, fewer_borne, more_fail, nothing_behind, risen_more, sound_since, unflagged, unrisen}
pub use Rattle.takeover.specs.Faults.{IsFaultOfTables, fault_of, fault_of_log, fault_of_store}
pub use Rattle.takeover.specs.Found.{AreCounted, IsFoundBy, IsFoundOn, OnGates}
pub use Rattle.takeover.specs.LogOpen.{AreLeft, IsLogFault, IsLogOpen, IsLogOpenBy, IsLogOpenOn, LeavesSome}
pub use Rattle.takeover.specs.Opened.{AreClean, IsHeldBy, IsOpened, IsOpenedBy, IsRecovered, IsShut, OffSegments, status_of}
pub use Rattle.takeover.specs.Outlasting.{AreSoundLogs, EntersFirmly, IsFoundFirmly, OutlastsFailures}
pub use Rattle.takeover.specs.Replay.{IsApplied, IsDone, IsReplayed, IsRun, log_fault_of}
pub use Rattle.takeover.specs.Replayed.{HasReplayed, IsReplayedFrom}
pub use Rattle.takeover.specs.Seen.{AreTablesSeen, AreTablesSeenBy, IsGivenFrom, IsSeenBy, IsSeenIn, ShowsUnfailed}
pub use Rattle.takeover.specs.Steps.{AreTablesFound, IsLogLeft, IsRecordFound, OpensLog, StandsWhileFinding}
pub use Rattle.takeover.specs.Tables.{HasTables, HoldTables, IsMemoryOf}
pub use Rattle.takeover.specs.declared.faults.OpenFault.{OpenFault}
pub use Rattle.takeover.specs.declared.log.LogFault.{LogFault}
pub use Rattle.takeover.specs.declared.log.OpenedLog.{OpenedLog}
pub use Rattle.takeover.specs.declared.tables.FoundArray.{FoundArray}
