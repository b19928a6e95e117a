-- What the proofs of this crate name of definitions, of laws and of std, page by page.
pub use Rattle.std.proofs.Common.{Bool, Contains, List, Option, Some, [], ap, arith, drop, get_or, get_or-drop, get_or-take, inl, inr, length, length-drop, length-set, length-take-le, refl, replicate, slice_get, slice_index_or, slice_set, subst, suc, sym, take, true, zero, ℕ, ⊎_elim, ◌*◌, ◌++◌, ◌+◌, ◌-◌, ◌<◌, ◌∙◌, ◌∷◌, ◌≡◌, ◌≢◌, ◌≤◌}
pub use Rattle.std.proofs.lemmas.List.{get_or_append_left}
pub use Rattle.std.proofs.lemmas.Result.{IfErr-weaker, err_from_is_err_and, on_ok_weaker}
pub use Rattle.std.specs.List.{AllZip}
pub use Rattle.memory_spec.specs.Prelude.{Contents, ContentsStand, Facts, Location, Place, PlaceReads, SectorStands, SegmentFact, Stored, Target, TargetReads, View, Zero, bytes_at, drive, facts, sectors_of, segment, span}
pub use Rattle.pur_base.specs.Grammar.{sectors_in}
pub use Rattle.world.specs.Prelude.{Continues, IsShelf, Shelved, continues_refl, continues_trans, nothing_written, writes_then}
pub use Rattle.segment_io.specs.Prelude.{AreLost, ArePlaces, ShowsPresent, is_in, is_missing_in, place_of, rises_then, still_places}
pub use Rattle.target_io.specs.Reading.{AreDrivesLost, AreReadable, IsLost, ReadsOnly, ShowsDrives}
pub use Rattle.std.specs.List.{All}
pub use Rattle.memory_spec.specs.Prelude.{Memory}
pub use Rattle.volume_ops.specs.Targets.{IsInSegment, Stands}
pub use Rattle.target_io.specs.Targets.{AreSectorsOf, IsRun, target_behind}
