-- What the proofs of this crate name of definitions, of laws and of std, page by page.
pub use Rattle.std.proofs.Common.{Bool, Contains, Err, IsTrue, List, None, Ok, OnOk, Option, Result, Some, [], ap, arith, below_more, count_by, drop, ext_get_or, false, get_or, get_or-drop, get_or-set_other, get_or-set_same, get_or-take, if◌then◌else◌, inl, inr, length, length-append, length-set, map, option_and_then, refl, replicate, slice_index, slice_index_or, subst, suc, sym, take, true, zero, ℕ, ◌%◌, ◌*◌, ◌++◌, ◌+◌, ◌-◌, ◌<◌, ◌==◌, ◌^◌, ◌∙◌, ◌∷◌, ◌≡◌, ◌≢◌, ◌≤◌, ◌⊎◌}
pub use Rattle.std.proofs.lemmas.Bool.{cases_Bool, cases_eq, cases_lt}
pub use Rattle.std.proofs.lemmas.List.{get_or-append_right, get_or-replicate, get_or_append_left, get_or_past, length-replicate}
pub use Rattle.std.proofs.lemmas.Result.{err_from_is_err_and}
pub use Rattle.std.specs.List.{range_with_len}
pub use Rattle.session_spec.specs.Prelude.{A, AreClean, Array, B, BootRecord, BootSlot, Condition, Conditions, Continues, DRIVE_FLAGS, Device, Disk, Drive, Failed, Geometry, GivesBody, HasRoom, Image, IsBearable, IsBlank, IsBootRecord, IsDecided, IsEffective, IsHeld, IsIn, IsInForce, IsNoneOrEmpty, IsOf, IsOn, IsReadInto, IsRecordOf, IsSame, IsShelf, IsWithin, LOG_SLOTS, LeavesBut, LeavesOnly, LeftOut, LogLies, MayAppear, MayBeGiven, MayBecome, MayLeaveBut, MayShow, MayShowAs, MayStop, Missing, NVRAM_DEVICES, NoneFailed, NoneLeftOut, Nv, OneFailed, OneRange, Only, OthersStay, RECORD_BYTES, Ran, SECTOR_BYTES, SLOTS_MAX, SLOTS_MIN, Shelved, ShowsBody, Sound, Stop, UNITS_MAX, UNITS_MIN, UNIT_BYTES, View, WritesOnly, Written, Yields, after_all, all_drives, as_read, body_in, body_place, bytes_at, continues_refl, continues_trans, counted, drive, drives_apart, first_record, gate_place, generation_in, geometry_of, held_is_given, is_missing, is_open, is_sound_vote, is_vote, mask, names, none_dirty, none_missing, nothing_written, nvram, one_is_decided, one_is_effective, other_slot, ran_more, ran_none, ran_then, same_device, set_count, shown_by, spelling, spells_one, started, still_of, then_run, this_or_other, unflushed_is_read, view_now, votes, weaker, writes_more, zeros}
unfoldable pub use Rattle.session_spec.specs.Prelude.{gate_bytes}
pub use Rattle.boot_region.specs.Prelude.{CountsStay, GivesNone, IsDrive, IsMember, IsOneOf, IsRead, IsUndecided, OnMembers, OnSlot, bodies_same, body_aligned, body_is, body_low, closed_begins, closed_shows, gate_aligned, gate_closes, gate_low, gate_size, gates_stay, opened, other_same, same_open, same_over, same_shown, seen, shown_body, shows_written, slot_in}
unfoldable pub use Rattle.boot_region.specs.Prelude.{region_at}
pub use Rattle.boot_region.specs.declared.regions.TheConstants.{REGION_BYTES}
pub use Rattle.shelf_init.specs.Blank.{GatesAreRead, HasNoCommand, HidesOnly, IsEmptied, IsNvram, IsReadIn, IsShut, OnAllOpen, OnBootOrLog, OnLogGates, OnOpen}
pub use Rattle.shelf_init.specs.Made.{HasFirst}
