-- What the proofs of this crate name of definitions, of laws and of std, page by page.
pub use Rattle.std.proofs.Common.{Bool, IfSome, List, None, Option, Some, [], ap, append-nil, append_assoc, arith, drop, false, get_or, inl, inr, length, length-append, length-take-le, map, min, option_map, refl, slice_get, subst, suc, sym, take, take-append-drop, true, zero, ℕ, ◌%◌, ◌*◌, ◌++◌, ◌+◌, ◌-◌, ◌/◌, ◌<◌, ◌∙◌, ◌∷◌, ◌≡◌, ◌≤◌, ◌⊎◌}
pub use Rattle.std.proofs.lemmas.List.{get_or_append_left, length-map, map_push, nil_from_length}
pub use Rattle.std.proofs.lemmas.Option.{get_or_from_slice_get, same_Some, slice_get-get_or, slice_get-map, slice_get_within}
pub use Rattle.std.proofs.lemmas.Result.{IfErr-weaker, err_from_is_err_and, on_ok_weaker}
pub use Rattle.std.specs.List.{AllByRecursion}
pub use Rattle.array_spec.specs.Prelude.{AnyFact, AscendFrom, Decodes, Device, FactIsShown, FactStands, IsFact, IsPatch, IsSegment, IsShownAt, Patch, PatchIsShown, PatchSegment, PatchStands, Place, SectorStands, StripesStand, View, all_append, all_append_left, any_key, bytes_at, pages, pages_in_part, places_of_part, sector_in, table_tag}
pub use Rattle.world.specs.Prelude.{Continues, Shelved, WritesOnly, continues_refl, continues_trans, nothing_written, writes_then}
pub use Rattle.segment_io.specs.Prelude.{ArePlaces, NoByte, OnlyLooks, OthersStayOf, ShowsNoOther, ShowsPresent, bytes_of, drive_of, place_of, shows_first, shows_then, still_places}
pub use Rattle.patch_io.specs.Faults.{IsFaultOf, IsPartFault, OthersStayOfPatch}
pub use Rattle.patch_io.specs.Spelled.{Extends, Spell, SpellsNone, fact_text}
pub use Rattle.patch_io.specs.Standing.{AreFactsOf, AreShownIn, ReadsPart, ShowsNoOtherOfPatch, ShowsPatch, StandIn, StandsAt, StripesStandOf}
pub use Rattle.patch_io.specs.Tables.{AreInOrder, HaveKey}
pub use Rattle.patch_io.specs.declared.fault.PatchFault.{PatchFault}
pub use Rattle.patch_io.specs.declared.fault.PatchFault.TheVariants.{Bad, Lost, Memory}
