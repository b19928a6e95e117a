-- What the proofs of this crate name of definitions, of laws and of std, page by page.
pub use Rattle.std.proofs.Common.{Bool, Contains, IfSome, IsSome, IsTrue, List, None, Option, Some, [], ap, append-nil, append_assoc, arith, codes, cond, count_by, decimal, drop_at, false, fold, inl, inr, le-ltb, leb, length, length-append, lit<, lit≤, ltb, ltb-false, map, min, nat_eq, ne_eqb, not, option_and_then, option_map, refl, slice_get, slice_index, slice_index_or, subst, suc, sum_by, sym, take, true, zero, ℕ, ◌&&◌, ◌*◌, ◌++◌, ◌+◌, ◌-◌, ◌/◌, ◌<◌, ◌^◌, ◌||◌, ◌∙◌, ◌∷◌, ◌≡◌, ◌≢◌, ◌≤◌, ◌⊎◌}
pub use Rattle.std.proofs.lemmas.Bool.{cases_Bool, cases_lt, false≢true}
pub use Rattle.std.proofs.lemmas.Bool.Decides.{nat_tests}
pub use Rattle.std.proofs.lemmas.List.{drop-append-le, get_or-replicate, get_or_past, length-replicate}
pub use Rattle.std.proofs.lemmas.Option.{slice_get_cases, slice_get_past, slice_get_within}
pub use Rattle.boot_codec.specs.Prelude.{Accepts, AllAccepted, Answer, AnyFact, Array, BootSlot, Command, Condition, Conditions, Device, Drive, Entries, Entry, Geometry, Image, IsBearable, IsBytes, IsBytesOf, IsOpen, IsRecordOf, IsWithin, LeftOut, Line, MayBecome, MayShowAs, Missing, Nv, Place, Refusal, Reply, Sectors, Sound, View, after-in, after-past, after_all, before-in, before-past, below, body_in, bytes_at, digits_number, drive, entries_text, entry_text, here, is_line_end, is_missing, is_name_byte, is_open, is_sound, kind_text, line_text, names, numbers_text, nvram, nvrams, of_members, open-append, open-nil, sectors_text, shown_by, slots_of, spelling, text, texts, votes, without_missing, zeros}
unfoldable pub use Rattle.boot_codec.specs.Prelude.{filled}
pub use Rattle.boot_codec.specs.declared.record.BootRecord.{BootRecord}
pub use Rattle.log_codec.specs.Prelude.{DevicesAgree, HasSpelling, IsInSlot, LogFrom, LogStands, Shows, ShowsIn}
pub use Rattle.array_spec.specs.Counts.{IsFree, IsGroups, is_used, units_for}
pub use Rattle.array_spec.specs.Laws.{AreCleared, BootKeeps, DiffersOnlyIn, DiffersOnlyInNvram, HeldStands, IsNamedByNone, IsOldOrNew, MarksAreFree, MarksMayClear, MayBeMarked, NvramKeeps, ShownStands, StoreKeeps}
pub use Rattle.array_spec.specs.Meaning.{AllHold, HoldsBase, IsInForce, TablesStand}
pub use Rattle.array_spec.specs.Standing.{FollowsOn, HasNoLog, IsReadBy, IsReadInto, IsViewOf, LeadsInto, MayAppear, MayBeGiven, Stands}
pub use Rattle.array_spec.specs.Stored.{all_facts}
pub use Rattle.array_spec.specs.StoredLaws.{CheckpointFollows, FreeIsUnused, IsCheckpointOf, IsMergeOf, MergeFollows, ShowsNone}
pub use Rattle.array_spec.specs.lemmas.LogBetween.{alone_fewer, alone_still, front_stands, in_slot, log_front, log_is_between, log_least, log_shorter, shower, shown_in_slot, shows_alone, shows_test, slot_has, take_of_take}
unfoldable pub use Rattle.array_spec.specs.lemmas.LogBetween.{Lawful, Only, log_of}
pub use Rattle.array_spec.specs.lemmas.LogMoves.{leads_move, log_moves, shows_move}
pub use Rattle.array_spec.specs.lemmas.Mediums.{reads_one, same_some}
pub use Rattle.array_spec.specs.lemmas.Next.{data_is_held, free_writes_keep, next_holds}
pub use Rattle.array_spec.specs.lemmas.OneLog.{one_log, one_shown}
pub use Rattle.array_spec.specs.lemmas.Quiet.{before, before_any, effective_moves, quiet_writes, reading_moves, same_nvram}
unfoldable pub use Rattle.array_spec.specs.lemmas.Quiet.{AllMatch, Matches}
pub use Rattle.array_spec.specs.lemmas.Reading.{held_in, record_is_read}
pub use Rattle.array_spec.specs.lemmas.Settling.{closing_gives_no_more, closing_still_gives, opening_gives, opening_still_gives}
pub use Rattle.array_spec.specs.lemmas.Spelled.{spells_one}
pub use Rattle.array_spec.specs.lemmas.Standings.{more_may_go_missing, sound_shows, standing_means, within_twice}
pub use Rattle.array_spec.specs.lemmas.UnflushedRead.{between, kept_is, kept_some, no_gate, one_left, unflushed_holds_nothing, unflushed_is_read, was_left_out}
pub use Rattle.array_spec.specs.lemmas.Unique.{one_base, one_patches}
pub use Rattle.array_spec.specs.lemmas.Used.{data_is_used, patches_are_used, used_is_data}
pub use Rattle.array_spec.specs.lemmas.Votes.{held_is_given, one_is_decided, one_is_effective, sound_before}
