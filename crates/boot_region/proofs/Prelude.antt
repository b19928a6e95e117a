-- What the proofs of this crate name of definitions, of laws and of std, page by page.
pub use Rattle.std.proofs.Common.{Bool, Err, IfErr, IfOk, IfSome, IsErrAnd, IsTrue, List, None, Ok, OnErr, OnOk, Option, Result, Some, [], add-zero, ap, arith, below_more, cond, count_by, drop, eq-eqb, eqb, ext_get_or, false, get_or, get_or-set_other, get_or-set_same, if◌then◌else◌, inl, inr, is_ok, length, length-append, length-drop, length-take, lt-ltb, ltb, ltb-true, map, option_and_then, refl, rules, slice_index, slice_index_or, slice_range, slice_set, subst, suc, sym, take, true, zero, ℕ, ◌%◌, ◌&&◌, ◌*◌, ◌++◌, ◌+◌, ◌-◌, ◌/◌, ◌<◌, ◌==◌, ◌^◌, ◌↔◌, ◌∙◌, ◌∷◌, ◌≡◌, ◌≢◌, ◌≤◌, ◌⊎◌}
pub use Rattle.std.proofs.lemmas.Bool.{and_parts, cases_Bool, cases_lt, cases_order}
pub use Rattle.std.proofs.lemmas.Bool.Decides.{nat_tests}
pub use Rattle.std.proofs.lemmas.List.{drop-take, get_or_default, get_or_past}
pub use Rattle.std.proofs.lemmas.List.FromFn.{get_or-map-range_with_len, length-map-range_with_len}
pub use Rattle.std.specs.Cmp.Lexicographic.{same_text}
pub use Rattle.std.specs.List.{range_with_len}
pub use Rattle.std.specs.Str.{bytes_eq}
pub use Rattle.array_spec.proofs.Store.{boot_keeps, store_keeps}
pub use Rattle.array_spec.specs.Prelude.{A, Array, B, BOOT_UNITS, BootRecord, BootSlot, ClosesGatesOf, Condition, Conditions, Device, DiffersOnlyIn, Drive, Effective, Fails, Geometry, Image, IsBearable, IsBootRecord, IsDecided, IsEffective, IsOldOrNew, IsRecordOf, IsWithin, LeftOut, MayAppear, MayBeGiven, MayBecome, Missing, Nv, OpensGatesOf, RECORD_BYTES, ReadError, SECTOR_BYTES, SLOTS_MIN, Sound, Stands, UNIT_BYTES, View, Yields, body_in, body_place, bytes_at, closing_gives_no_more, closing_still_gives, counted, drive, drives_apart, gate_place, generation_in, held_is_given, held_votes, is_missing, is_open, is_sound, is_sound_vote, is_vote, most_votes, not_missing, nvram, one_is_decided, opening_gives, opening_still_gives, other_slot, set_count, shown_by, slots_of, sound_before, spelling, spells_one, this_or_other, twice_other, votes}
unfoldable pub use Rattle.array_spec.specs.Prelude.{gate_bytes, read_record}
pub use Rattle.world.specs.Prelude.{ChangesOnly, Continues, Counts, Disk, Elapses, IsCountedBy, IsIn, IsInSome, IsLater, IsPreorder, IsSame, IsShelf, LeavesBut, LeavesOnly, MayLeave, MayStop, OneRange, Only, OthersStay, Ran, ReadCounts, Rises, Shelved, Stop, WriteCounts, WritesOnly, Written, as_read, but_then, continues_refl, continues_trans, counted_then, counts_grow, geometry_of, has_risen, not_risen_before, ran_more, ran_then, read_writes, risen_on_way, runs_read, then_run, weaker, writes_more, writes_then}
pub use Rattle.world.specs.declared.shelf.Span.{Span}
pub use Rattle.world.specs.declared.streams.Failed.{Failed}
pub use Rattle.boot_region.specs.Loading.{IsAnswerOf, IsFaultOf, IsGiven, IsHeld, IsLawfulLoad, IsLoadOf, IsSpent, fault_of}
pub use Rattle.boot_region.specs.Members.{Closed, DroppedFailed, IsDrive, IsMember, IsNotShut, IsOneOf, LosesOnlyFailed, LostWrites, OnClosed, OnMembers, OnNotShut, OnSlot, OneClosed, OneNotShut, Opened, Outcome}
pub use Rattle.boot_region.specs.Regions.{AnswerCounts, GivesNone, IsNewerOf, IsRead, IsUndecided, is_body_in, seen}
unfoldable pub use Rattle.boot_region.specs.Regions.{all_votes, is_holding, region_at, vote_of}
pub use Rattle.boot_region.specs.Slots.{slot_in}
pub use Rattle.boot_region.specs.Storing.{AccountsFor, AreClean, AreClosed, AreEnough, AreOlder, AreWritten, Closes, ComesOf, GivesNoMore, HeldStill, IsFirmOn, IsFound, IsInForceOn, IsInStore, IsLoaded, IsNewer, IsOlder, IsOpening, IsSeen, IsStored, IsStoredOn, MayFollow, OnSound, OnlyBoot, Opens, SoundAreMembers, StandsAgain, StandsBut, StandsNow, TellsFailed, Writes}
pub use Rattle.boot_region.specs.declared.loading.LoadFault.{LoadFault}
pub use Rattle.boot_region.specs.declared.regions.TheConstants.{REGION_BYTES}
pub use Rattle.boot_region.specs.lemmas.Found.{may_be_settled, same_over}
pub use Rattle.boot_region.specs.lemmas.Shown.{bodies_same, body_aligned, body_is, body_low, closed_begins, closed_shows, gate_aligned, gate_closes, gate_low, gate_opens, gate_same, gate_size, member_below, open_before, open_begins, open_shows, opened, other_body_same, other_same, other_shown_same, reads_closed, reads_open, shown_body, shows_if, shows_written}
