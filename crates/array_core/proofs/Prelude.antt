-- What the proofs of this crate name of definitions, of laws and of std, page by page.
pub use Rattle.std.proofs.Common.{All, AllPairs, Bool, Contains, Err, List, None, Ok, OnErr, OnOk, Option, Result, Some, [], ap, append_assoc, arith, cond, count_by, false, filter_map, if◌then◌else◌, inl, inr, is_none, length, length-append, length-take, map, refl, rules, slice_get, slice_index, slice_index_or, subst, suc, sym, take, take_all, take_at, true, zero, ℕ, ◌*◌, ◌++◌, ◌+◌, ◌-◌, ◌/◌, ◌<◌, ◌^◌, ◌∙◌, ◌∷◌, ◌≡◌, ◌≢◌, ◌≤◌, ◌⊎◌}
pub use Rattle.std.proofs.lemmas.Bool.{cases_Bool, cases_lt}
pub use Rattle.std.proofs.lemmas.Bool.Decides.{nat_tests}
pub use Rattle.std.specs.List.{AllByRecursion, AllZip, range_with_len}
pub use Rattle.command_spec.proofs.AllowedLemmas.{accepted}
pub use Rattle.array_memory.specs.Prelude.{Amounts, AtMost, HasRoomAgain, HasRoomLeft, HasSamePatches, IsKept, IsLawful, Kept, TakesOnly, taken, with_more}
pub use Rattle.table_plan.specs.Prelude.{AreStored}
pub use Rattle.session_spec.specs.Prelude.{A, Accepts, AddressFact, AllAccepted, AnyFact, AreAmong, AreApart, AreCleared, AreEnough, ArePlaces, AreSegmentsSound, Array, AscendFrom, B, BootRecord, BootSlot, Command, Condition, Conditions, Contents, ContentsStand, Continues, DataHolds, Device, DiffersOnlyIn, Disk, Drive, ElisionFact, Facts, Geometry, HasSameSegmentIds, HasSpelling, Image, IsBearable, IsBootRecord, IsBytes, IsCountedBy, IsFree, IsHeld, IsImage, IsInSome, IsNamed, IsOf, IsOn, IsRecordOf, IsShelf, IsSound, IsStanding, IsUnused, IsWithin, LOG_SLOTS, LeavesBut, LeavesOnly, LeftOut, LeftOutAreNamedByNone, LogLies, MayAppear, MayBeGiven, MayBecome, MayLeave, MayLeaveBut, MayRise, MayStop, Missing, NamesNoneLeftOut, NamesSound, Nv, Place, ReadsAs, Request, Rises, Runs, SameUnits, SectorStands, SegmentFact, Shelved, Sound, Span, Stands, Stop, TablesHold, View, WritesOnly, Yields, after, after_all, all_facts, as_read, body_in, body_place, borne_on, bytes_same, continues_refl, continues_trans, counted, counted_then, data_moves, drive, each_by_recursion, facts, facts_of, free_writes_keep, gate_place, generation_in, geometry_of, has_risen, held_is_given, ids_below, is_elided, is_missing, is_sound, is_sound_vote, is_used, key_of, left_out_once, losing, mask, may_leave_but, missing_if, missing_nvrams, more_may_go_missing, named_segments, named_sound, names, never, next_after, not_missing, not_risen, not_risen_since, nvram, nvrams, of_each, one_is_effective, one_left, other_slot, patches, places_keep, quiet_writes, ran_more, ran_none, ran_then, record_is_read, risen, risen_on_way, runs_moments, same_drives_hold, same_units_keep, says, says_is, segment, segment_key, set_count, shown_by, slots_of, sound_before, spelling, spells_one, started, still_sound, stripe_of, then_run, twice_other, used_places, was_left_out, weaker, within_twice}
unfoldable pub use Rattle.session_spec.specs.Prelude.{SameUnit}
pub use Rattle.nvram_log.specs.Prelude.{HoldsOn, IsBetween, Keeps, LeavesBetween}
pub use Rattle.nvram_log.specs.declared.log.NvLog.{NvLog}
pub use Rattle.boot_region.specs.Prelude.{AccountsFor, DroppedFailed, IsDrive, IsInForceOn, IsMember, IsOlder, IsOneOf, LostWrites, Shows, StandsAgain, StandsBut, losing_within, member_below, shown_body}
pub use Rattle.register.specs.Prelude.{Content, DropsOnlyFailed, GivesOldOrNext, GivesOldOrTables, IsFaultOf, IsFirm, IsLaterRecord, IsNextOf, IsNextWith, IsOpen, IsPlanOf, IsRegisterOf, IsShown, IsUnstored, KeepsArray, MayStore, OnSlots, ShowsOn, StandsAsBefore, StandsInLog, array_of, cut_in, drives_of, few_set, fewer_count, fewer_cut, gives_at, holds_shows, in_cut, members_sound, next_slot, none_past, not_below, on_err, on_more, other_flags, own_slot, same_flags, stands_at, with_tables}
pub use Rattle.register.specs.declared.next.StoreFault.{StoreFault}
pub use Rattle.register.specs.declared.state.Register.{Register}
pub use Rattle.register.specs.declared.tables.Tables.{Tables}
pub use Rattle.array_core.specs.Changing.{AreLeft, IsOpenOn, KeepsTables, LeavesFewer, OnlyFaults, StaysOpen}
pub use Rattle.array_core.specs.Committing.{MayLog}
pub use Rattle.array_core.specs.Drives.{SegmentsHold, drives_view}
pub use Rattle.array_core.specs.Free.{AreSynced, IsKnownOf, OnFree, WritesFree}
pub use Rattle.array_core.specs.Goes.{Goes, GoesOnMeanwhile, Halts, Holds, ReadsOn}
pub use Rattle.array_core.specs.Going.{AgreesFor, Calls, Causes, GoesOnAt, HandsOn, IsOnWay, by_faults}
pub use Rattle.array_core.specs.Holding.{AgreesWith, DropsFailed, DropsFailedBy, HasEnough, IsHolder, IsHolderBy, NoneJoins, NoneJoinsBy}
pub use Rattle.array_core.specs.Laws.{FreeWritesKeep, FreeWritesLeave, FreeWritesMayStore, FreeWritesStand, LogWritesKeep, LogWritesLeave, LogWritesStand, PlansStand}
pub use Rattle.array_core.specs.Logging.{LeadTo, StandsWhateverFails, WritesLog}
pub use Rattle.array_core.specs.Losing.{lost_by, lost_since}
pub use Rattle.array_core.specs.Performing.{IsKeptAt, IsLost, IsLostBy, LostDrives, LostLog, StandsOnceBack, without_or_with}
pub use Rattle.array_core.specs.Ready.{IsArrayOf, IsReady, logged}
pub use Rattle.array_core.specs.Room.{HasRoomFor, a_command, nothing_behind, taken_behind}
pub use Rattle.array_core.specs.Switching.{AreLost, HasTables, HoldOnLeft, HoldTables, MayClear, MaySwitch, OnSlotsAndLog, WroteFree}
pub use Rattle.array_core.specs.declared.array.Background.{Background}
pub use Rattle.array_core.specs.lemmas.Losses.{bearable_or_not, by_stop, fewer_borne, lost_twice, lost_twice_by, sound_since}
