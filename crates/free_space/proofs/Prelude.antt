-- What the proofs of this crate name of definitions, of laws and of std, page by page.
pub use Rattle.std.proofs.Common.{All, AllPairs, Bool, Contains, List, None, Option, Some, [], add-one, ap, arith, cond, count_by, drop, drop-cons, eq-eqb, eqb, eqb-true, false, filter, filter_map, get_or, get_or-set_other, get_or-set_same, get_or-take, inl, inr, le-ltb, leb, leb-false, leb-true, length, length-append, length-take-le, lt-ltb, ltb, ltb-true, map, min, ne_eqb, not, refl, replicate, set, subst, suc, sum_by, sym, take, true, zero, ℕ, ⊎_elim, ◌&&◌, ◌*◌, ◌++◌, ◌+◌, ◌-◌, ◌/◌, ◌<◌, ◌^◌, ◌||◌, ◌∙◌, ◌∷◌, ◌≡◌, ◌≢◌, ◌≤◌}
pub use Rattle.std.proofs.lemmas.Bool.{and_parts, cases_Bool, cases_eq, cases_lt, not-true, or_parts}
pub use Rattle.std.proofs.lemmas.List.{at_drop_all, get_or-replicate, get_or_past, length-replicate, map-append}
pub use Rattle.std.proofs.lemmas.List.Folds.{flat_map-map, list_any-append, sum_by-replicate}
pub use Rattle.std.proofs.lemmas.List.Sums.{fold-append, sum_by-append, sum_by-cons}
pub use Rattle.std.specs.List.{AllByRecursion, cons_option, flat_map, list_any, range_with_len}
pub use Rattle.unit_map.specs.Prelude.{IsPlace, IsTaken, as_member, drive_at, free_count, fresh, is_free, no_drive, share, total_at, with_unit, with_unit_of, with_units}
pub use Rattle.unit_map.specs.declared.drive.Drive.{Drive}
pub use Rattle.array_spec.specs.Prelude.{AreApart, ArePlaces, AreSegmentsSound, AscendFrom, BootRecord, Facts, Geometry, IsBootRecord, IsSegment, Patch, PatchSegment, Place, SEGMENT_SHARDS, SLOTS_MAX, SegmentFact, all_append, free_of_members, free_units, is_place, is_used, named_segments, patches_are_lawful, segment, segments, units_for, used_places}
pub use Rattle.free_space.specs.Left.{CountsMembers, HasUnits, LosesUnits, is_on, units_on}
pub use Rattle.free_space.specs.Map.{AreDataSegments, IsMapBut, IsMapOf, IsMapWith, is_data_unit, is_member, shelf_of, unit_at, used_or_among}
pub use Rattle.free_space.specs.Marking.{CanMark, SetsMembers, data_units, patch_units, patches_units}
