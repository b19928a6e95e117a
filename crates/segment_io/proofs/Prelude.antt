-- What the proofs of this crate name of definitions, of laws and of std, page by page.
pub use Rattle.std.proofs.Common.{Bool, Err, IfSome, List, None, Ok, Option, Result, Some, [], ap, append_assoc, arith, below_more, cond, count_by, drop, drop-drop, ext_get_or, false, get_or, get_or-set_other, get_or-set_same, get_or-take, inl, inr, is_err, is_none, is_some, length, length-append, length-set, length-take-le, map, option_map, refl, rules, slice_index, slice_index_or, slice_range, slice_set, subst, suc, sym, take, take-take, true, zero, ℕ, ⊎_elim, ◌%◌, ◌*◌, ◌++◌, ◌+◌, ◌-◌, ◌/◌, ◌<◌, ◌==◌, ◌||◌, ◌∙◌, ◌∷◌, ◌≡◌, ◌≢◌, ◌≤◌, ◌⊎◌}
pub use Rattle.std.proofs.Math.Seq.{drop-append-add, get_or-append_right, take-append_seam, take-length}
pub use Rattle.std.proofs.lemmas.Bool.{cases_Bool, cases_eq, cases_lt, cases_order}
pub use Rattle.std.proofs.lemmas.Bool.Decides.{nat_tests}
pub use Rattle.std.proofs.lemmas.List.{drop-take, get_or-map, get_or_append_left, get_or_at, get_or_past}
pub use Rattle.std.proofs.lemmas.List.Edits.{length-between}
pub use Rattle.std.proofs.lemmas.Result.{err_from_is_err_and}
pub use Rattle.std.specs.List.{All, AllPairs, AllZip, Contains, flat_map}
pub use Rattle.parity72.specs.Parity.{IsCodeword, shard_of}
pub use Rattle.segment_codec.specs.Prelude.{IsShownAt, SectorStands, StripeStands, shards_shown, stripe_of, write_unit}
pub use Rattle.world.specs.Prelude.{Continues, Device, Disk, Elapses, Image, IsInSome, IsSame, IsShelf, LeavesBut, LeavesOnly, MayStop, OneRange, Only, OthersStay, Place, Rises, SEGMENT_SHARDS, SLOTS_MAX, Shelved, Stop, View, WasWritten, WritesOnly, as_read, bytes_at, continues_refl, continues_trans, drive, drives_apart, has_risen, not_risen, not_risen_before, not_risen_since, nothing_written, ran_more, ran_sync, ran_then, ran_write, then_run, weaker, write_writes, writes_more, writes_then}
pub use Rattle.world.specs.declared.streams.Failed.{Failed}
pub use Rattle.segment_io.specs.Headers.{AreDrivesOf, AreSynced, HeadersComeLast}
unfoldable pub use Rattle.segment_io.specs.Headers.{header_unit}
pub use Rattle.segment_io.specs.Lost.{IsOnSlot, LosesOnly, NoByte, OthersStayBut, is_in}
pub use Rattle.segment_io.specs.Places.{ArePlaces, IsOnPlace, IsPlace, OnUnits, OthersStayOf, drive_of, place_of, write_unit_at}
pub use Rattle.segment_io.specs.Reads.{AreLost, AreShown, AreUnknown, HasAnswered, IsOn, OnlyLooks, PartRead, ShowsAnswering, ShowsNoOther, ShowsPresent, ThreeUnknown, Tried, is_missing_in, is_unknown}
pub use Rattle.segment_io.specs.Rebuilds.{AreRebuilt, IsFaultOf, OthersAreSame, Rebuilds, is_wanted}
pub use Rattle.segment_io.specs.Runs.{IsDataFrom, IsReadFrom, StandsBut, byte_on, data_byte}
pub use Rattle.segment_io.specs.Stripes.{HoldsStripe, IsRunOf, IsStripeOf, RunHolds, UnitsHold, bytes_of, part_in, shards_in, stripe_in, unit_in}
pub use Rattle.segment_io.specs.lemmas.Losing.{loses_none, loses_one, loses_then, not_before, rises_first, rises_then}
pub use Rattle.segment_io.specs.lemmas.Parts.{at_part, part_length, part_stays}
pub use Rattle.segment_io.specs.lemmas.Places.{still_place, still_places}
pub use Rattle.segment_io.specs.lemmas.Sets.{in_either, past_both, set_here, set_other, still_in, was_in}
