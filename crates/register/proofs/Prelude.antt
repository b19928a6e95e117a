-- What the proofs of this crate name of definitions, of laws and of std, page by page.
pub use Rattle.std.proofs.Common.{Bool, Contains, Err, IfErr, IsErr, IsOk, IsTrue, List, None, Ok, Option, Result, Some, [], ap, append-nil, arith, cond, count_by, drop, false, get_or, get_or-drop, if◌then◌else◌, inl, inr, length, length-append, length-drop, map, not, option_and_then, refl, rules, slice_get, slice_index, slice_index_or, subst, suc, sym, take, take_all, true, zero, ℕ, ◌&&◌, ◌*◌, ◌++◌, ◌+◌, ◌-◌, ◌/◌, ◌<◌, ◌^◌, ◌↔◌, ◌∙◌, ◌∷◌, ◌≡◌, ◌≢◌, ◌≤◌, ◌⊎◌}
pub use Rattle.std.proofs.lemmas.Bool.{cases_Bool, cases_lt}
pub use Rattle.std.proofs.lemmas.Bool.Decides.{nat_tests}
pub use Rattle.std.proofs.lemmas.List.{drop-append-le, get_or-append_right, get_or_append_left, get_or_past, take-append-le}
pub use Rattle.std.specs.Cmp.Lexicographic.{same_text}
pub use Rattle.std.specs.List.{range_with_len}
pub use Rattle.std.specs.Str.{bytes_eq}
pub use Rattle.array_spec.specs.Prelude.{A, AllAccepted, AllHold, Array, B, BootRecord, BootSlot, Command, Condition, Conditions, Device, Effective, FollowsOn, Geometry, HasNoLog, Image, IsBearable, IsBootRecord, IsDecided, IsHeld, IsInForce, IsInSlot, IsOn, IsReadBy, IsReadInto, IsRecordOf, IsViewOf, IsWithin, LeadsInto, LeftOut, LogFrom, LogLies, MayAppear, MayBeGiven, MayBecome, MayShowAs, Missing, NamesNoneLeftOut, NamesSound, RECORD_BYTES, SLOTS_MIN, ShowsIn, ShowsNone, Sound, Stands, TablesHold, View, Yields, after_all, body_in, body_place, bytes_at, bytes_same, counted, data_is_held, decided_or_not, drive, generation_in, given_with_fewer, held_is_given, is_missing, is_open, is_sound, is_sound_vote, is_vote, missing_drives, missing_nvrams, more_may_go_missing, most_votes, named_sound, names, next_holds, not_missing, nvram, nvrams, of_members, one_base, one_is_decided, one_is_effective, one_left, other_slot, read_holds, record_is_read, set_count, shown_by, slot_of, slots_of, sound_before, sound_shows, spelling, spells_one, this_or_other, twice_other, votes, was_left_out, within_twice, without_missing}
unfoldable pub use Rattle.array_spec.specs.Prelude.{header_bytes, opening_bytes, record_bytes}
pub use Rattle.world.specs.Prelude.{ChangesOnly, Continues, Disk, IsCountedBy, IsInSome, IsShelf, LeavesBut, LeavesOnly, MayLeave, MayStop, Runs, Shelved, Stop, as_read, geometry_of, has_risen, not_risen_before, not_risen_since, ran_more, ran_none, ran_then, risen_on_way, runs_more, started, then_run, weaker}
pub use Rattle.boot_region.specs.Prelude.{AccountsFor, AreEnough, DroppedFailed, HeldStill, IsFirmOn, IsInForceOn, IsInStore, IsMember, IsNewer, IsOlder, IsOneOf, IsOpening, IsStored, IsStoredIn, IsStoredOn, LosesOnlyFailed, MayFollow, OnSlot, OnlyBoot, Shows, StandsAgain, StandsBut, StandsNow, WasGiven, member_below, shown_body}
pub use Rattle.register.specs.Faults.{IsFaultOf}
pub use Rattle.register.specs.Giving.{GivesOldOrTables, IsNextWith}
pub use Rattle.register.specs.Registers.{IsLaterRecord, IsRegisterOf, OnSlots, drives_of, next_record, next_slot, own_slot}
pub use Rattle.register.specs.Standing.{AllShow, AreOfMembers, Content, GivesOldOrNext, IsFirm, IsInStoreOf, IsNextOf, IsOpen, MayStore, MayStoreAgain, MayStoreFirmly, ShowsOn, StandsInLog, StaysLogged, StillGiven, array_of}
pub use Rattle.register.specs.Storing.{AreShown, DropsOnlyFailed, HasPut, HasStored, HasStoredOnce, LeavesLogged}
pub use Rattle.register.specs.Tables.{FlushesAll, FlushesNone, IsPlanOf, KeepsArray, MayGoOn, StandsAsBefore, with_tables}
pub use Rattle.register.specs.declared.next.StoreFault.{StoreFault}
pub use Rattle.register.specs.declared.state.Register.{Register}
pub use Rattle.register.specs.lemmas.Flags.{cut_in, fewer_count, fewer_mask, in_cut, none_past, not_below, other_flags, put_back, same_flags}
pub use Rattle.register.specs.lemmas.Stores.{at_most_slots, cut_length, ended_midway, fewer_cut, fewer_left, for_err, from_ok, if_err, members_sound, midway_then, on_err, on_more, on_ok, when_ok}
