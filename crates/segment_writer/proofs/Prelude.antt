-- What the proofs of this crate name of definitions, of laws and of std, page by page.
pub use Rattle.std.proofs.Common.{Bool, List, None, Option, Some, Vec, [], ap, arith, below_more, drop, drop_at, false, get_or, get_or-drop, get_or-set_other, get_or-set_same, get_or-take, inl, inr, length, length-append, length-drop, length-set, length-take, length-take-le, map, min, option_map, refl, replicate, slice_get, slice_index, slice_set, subst, suc, sym, take, take-append-drop, take_at, true, zero, ℕ, ◌%◌, ◌*◌, ◌++◌, ◌+◌, ◌-◌, ◌/◌, ◌<◌, ◌||◌, ◌↔◌, ◌∙◌, ◌∷◌, ◌≡◌, ◌≢◌, ◌≤◌, ◌⊎◌}
pub use Rattle.std.proofs.lemmas.Bool.{cases_eq, cases_lt}
pub use Rattle.std.proofs.lemmas.Bool.Decides.{nat_tests}
pub use Rattle.std.proofs.lemmas.List.{drop-map, get_or-replicate, get_or_append_left, get_or_past, length-map, length-replicate, length_push, take-map, take_min}
pub use Rattle.std.proofs.lemmas.Option.{MatchOption-at_some, get_or_from_slice_get, same_Some, slice_get-get_or, slice_get-map, slice_get_past, slice_get_read, slice_get_within}
pub use Rattle.std.proofs.lemmas.Result.{on_ok_weaker}
pub use Rattle.std.specs.Int.{div_ceil}
pub use Rattle.std.specs.List.{AllByRecursion, AllZip}
pub use Rattle.std.specs.Vec.{vec_capacity, vec_len}
pub use Rattle.std.specs.declared.alloc.Global.{Global}
pub use Rattle.array_spec.specs.Prelude.{AnyFact, Decodes, Device, Drive, FactStands, Header, Image, IsLawful, IsPatch, IsSegment, Lost, Nv, Patch, PatchSegment, PatchStands, Place, SLOTS_MAX, SectorStands, SegmentFact, StripeStands, StripesStand, View, all_append_left, all_append_right, bytes_at, drive, pages, pages_in_part, places_of_part, sector_in, table_tag, zeros}
unfoldable pub use Rattle.array_spec.specs.Prelude.{filled}
pub use Rattle.array_memory.specs.declared.plan.Plan.{Plan}
pub use Rattle.world.specs.Prelude.{Continues, IsPreorder, IsShelf, LeavesBut, LeavesOnly, MayStop, Ran, Shelved, Stop, WritesOnly, continues_trans, none_dirty, ran_more, ran_none, ran_then, started, then_run, weaker}
pub use Rattle.segment_io.specs.Prelude.{ArePlaces, AreSynced, CleanStay, HoldsStripe, IsOnPlace, IsOnSlot, IsStripeOf, LosesOnly, MayBeWritten, NoByte, OnUnits, OthersStayBut, ShowsMost, UnitsHold, bytes_of, drive_of, in_either, is_in, loses_none, loses_then, not_before, part_length, part_stays, past_both, place_of, same_at, set_here, set_other, still_in, still_places, stripe_in, unit_in, was_in, write_unit_at}
unfoldable pub use Rattle.segment_io.specs.Prelude.{header_unit}
pub use Rattle.segment_io.specs.declared.open.Open.{Open}
pub use Rattle.patch_io.specs.Prelude.{AreInOrder, StandsAt, fact_text}
pub use Rattle.segment_writer.specs.CheckpointPlanned.{new_facts}
unfoldable pub use Rattle.segment_writer.specs.CheckpointPlanned.{facts_of_tag}
pub use Rattle.segment_writer.specs.CheckpointStanding.{ComeInTurn, FactsStand, NoHeaders}
pub use Rattle.segment_writer.specs.CheckpointStoring.{AreAllApart, AreOpenLists, HaveRoomFor, HoldDrivesOf, HoldPatches, IsOnCheckpoint, IsOnPatches, IsOpenListOf, IsSlotOf, LieApart, LieApartOf, MayBeStoredWith, MayStandFor, OnCheckpoint, OnPatches}
pub use Rattle.segment_writer.specs.DataFilling.{HoldsSectors, IsSectorOf, sector_of_shard, sector_of_stripe}
pub use Rattle.segment_writer.specs.DataPlacing.{AreFilled, HaveNine, MayBePlaced, order_of_segment, places_in, segment_in}
pub use Rattle.segment_writer.specs.DataStanding.{DataStands, StandIn}
pub use Rattle.segment_writer.specs.DataStoring.{DataComesInTurn, HasWrittenData, HoldsData, IsOnData, OnData, SectorsOf, ShowsMostOf, header_of_segment, layout_of_data, stripes_of_order}
pub use Rattle.segment_writer.specs.Layout.{AreApart, AreCleanOn, AreDrivesOfAll, AreOpenOf, ComesInTurn, HasWritten, HaveStripes, HoldAll, HoldAllHeaders, HoldsHeader, HoldsSegment, IsOnSome, IsOpenOf, Layout, OnSome, StaysClean, StripesStay, units_of}
pub use Rattle.segment_writer.specs.PatchFilling.{HoldsFacts, IsTextOf, text_in}
pub use Rattle.segment_writer.specs.PatchStoring.{FactsOf, HasItsSegments, HasWrittenPatch, HoldsPatch, IsOnPatch, MayBeHeaded, MayBeSpelled, MayBeStored, OnPatch, facts_of_part, header_of_part, id_of_part, layout_of_patch, stripes_of_facts}
