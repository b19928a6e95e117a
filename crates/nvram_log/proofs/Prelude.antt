-- What the proofs of this crate name of definitions, of laws and of std, page by page.
pub use Rattle.std.proofs.Common.{Bool, Err, List, None, Ok, OnOk, Result, Some, [], ap, append-nil, append_assoc, arith, below_more, drop, drop-drop, drop_at, eqb-true, ext_get_or, false, get_or, get_or-append-add, get_or-drop, get_or-set_other, get_or-set_same, get_or-take, if◌then◌else◌, inl, inr, is_ok, length, length-append, length-drop, length-set, length-take, ltb-true, map, nat_lt, not, refl, replicate, rules, slice_get, slice_index, slice_index_or, slice_range, slice_set, subst, suc, sym, take, take-append-drop, take_at, true, zero, ℕ, ⊎_elim, ◌&&◌, ◌*◌, ◌++◌, ◌+◌, ◌-◌, ◌<◌, ◌==◌, ◌^◌, ◌∙◌, ◌∷◌, ◌≡◌, ◌≢◌, ◌≤◌, ◌⊎◌}
pub use Rattle.std.proofs.lemmas.Bool.{cases_Bool, cases_lt, eqb-false, false_from_ne_true}
pub use Rattle.std.proofs.lemmas.Bool.Decides.{nat_tests}
pub use Rattle.std.proofs.lemmas.List.{get_or-replicate, get_or_append_left, get_or_past, get_or_read, length-map, length-replicate, take-replicate, take_more, with_items_is}
pub use Rattle.std.proofs.lemmas.List.Edits.{get_or-between, length-between}
pub use Rattle.std.proofs.lemmas.Option.{get_or_from_slice_get, slice_get-get_or, slice_get_read, slice_get_within}
pub use Rattle.std.specs.List.{AllByRecursion, between, concat, range_with_len}
pub use Rattle.log_codec.specs.Prelude.{Decodes, HasSpelling, IsCommand, IsInSlot, Shows, ShowsIn, Spells, first_name, head_fields, second_name, slot_at, slot_bytes}
unfoldable pub use Rattle.log_codec.specs.Prelude.{head_bytes}
pub use Rattle.log_codec.specs.declared.head.Head.{Head}
pub use Rattle.log_codec.specs.declared.limits.TheConstants.{LOG_SLOTS, SLOT_BYTES}
pub use Rattle.world.specs.Prelude.{ChangesOnly, Command, Continues, Device, Disk, Drive, Elapses, IsBytes, IsBytesOf, IsIn, IsPreorder, IsSame, IsShelf, LeavesBut, LeavesOnly, MayLeave, MayLeaveBut, NAME_BYTES, NVRAM_BYTES, Nv, OneRange, Only, OthersStay, Ran, Request, Rises, SECTOR_BYTES, Shelved, Stop, WasSynced, WriteCounts, WritesOnly, Written, WrittenIfOk, bytes_at, continues_trans, data_count, is_open, may_leave_but, none_dirty, nvram, padded, ran_more, ran_none, ran_sync, ran_then, ran_write, runs_read, same_device, same_part, sectors_in, started, then_run, unchanged, weaker, zeros}
pub use Rattle.world.specs.declared.streams.Failed.{Failed}
pub use Rattle.nvram_log.specs.Held.{HasRead, HoldsOn, Keeps, LeavesBetween, shown_by}
pub use Rattle.nvram_log.specs.Members.{IsFewer, IsFlagged, IsMember, IsNvram, IsOnMember, LosesOnlyFailed, OnMembers, OnRange, Outcome}
pub use Rattle.nvram_log.specs.Read.{IsReadFrom, OnNothing, OnlyReads}
pub use Rattle.nvram_log.specs.Logged.{AreRead, IsLogged, IsReadAs, IsReadAt, SpellsAs, command_in, command_of_logged}
pub use Rattle.nvram_log.specs.Records.{IsRecord, command_of, slot_place}
pub use Rattle.nvram_log.specs.Settling.{Agree, AreAsSeen, AreToSettle, GatesAre, IsToSettle, OnDevice, OnGates, OnSlots, SettleBy, SettlesBy, SlotsAre}
pub use Rattle.nvram_log.specs.Slots.{IsBetween, IsLog}
pub use Rattle.nvram_log.specs.Views.{AreGathered, AreNumbered, AreReadOf, AreShownAs, IsDeviceRead, IsLogOf, IsSeenOf, IsShownAs, IsThere, NoneThere, members_of}
pub use Rattle.nvram_log.specs.declared.log.NvLog.{NvLog}
pub use Rattle.nvram_log.specs.declared.logged.Logged.{Logged}
pub use Rattle.nvram_log.specs.declared.read.Reads.{Reads}
pub use Rattle.nvram_log.specs.declared.reading.DeviceRead.{DeviceRead}
pub use Rattle.nvram_log.specs.declared.record.Record.{Record}
pub use Rattle.nvram_log.specs.declared.seen.SeenSlots.{SeenSlots}
