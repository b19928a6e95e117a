-- What the proofs of this crate name of definitions, of laws and of std, page by page.
pub use Rattle.std.proofs.Common.{All, AllPairs, Bool, Contains, List, [], ap, append-nil, append_assoc, arith, cond, count_by, drop, false, get_or, get_or-drop, get_or-set_other, get_or-set_same, inl, inr, le-ltb, leb, leb-false, leb-true, length, length-append, length-set, lt-ltb, ltb, min, mul-le-mul_left, not, refl, replicate, set, subst, suc, sum_by, sym, take, take_all, true, w64, zero, ℕ, ⊎_elim, ◌%◌, ◌&&◌, ◌*◌, ◌++◌, ◌+◌, ◌-◌, ◌/◌, ◌<◌, ◌==◌, ◌^◌, ◌∙◌, ◌∷◌, ◌≡◌, ◌≢◌, ◌≤◌, ◌⊎◌}
pub use Rattle.std.proofs.lemmas.Bool.{and_parts, cases_Bool, cases_eq, cases_lt, not-true}
pub use Rattle.std.proofs.lemmas.Bool.Decides.{nat_tests}
pub use Rattle.std.proofs.lemmas.List.{get_or-map, get_or-replicate, get_or_at, get_or_default, get_or_past, length-map, length-replicate, replicate-append-replicate, replicate_more, same_lists, set_at, set_past, take_more, take_more_set, with_items_is}
pub use Rattle.std.proofs.lemmas.List.Sums.{count_by-le-length, fold_push, sum_by-cons, sum_by-drop_more, sum_by-le-sum_by, sum_by-set}
pub use Rattle.std.proofs.lemmas.Nat.Bits.{bit_at-trailing_zeros, bit_at-zero, bit_at_clear_other, bit_at_clear_same, bit_at_set_other, bit_at_set_same}
pub use Rattle.pur_base.specs.declared.limits.TheConstants.{BOOT_UNITS, SEGMENT_SHARDS, SLOTS_MAX, UNITS_MAX}
pub use Rattle.pur_base.specs.declared.place.Place.{Place}
pub use Rattle.unit_map.specs.Choice.{IsBestOffer, IsChoice, IsNoOffer, LosesOne, TakesChosen, is_chosen, offer_at}
pub use Rattle.unit_map.specs.Map.{ComesFirst, IsGroups, IsHeld, IsPlace, IsTaken, LowersByOne, drive_at, free_count, is_free, no_drive, offer, share, slots_of, total_at, with_unit, with_unit_of, with_units}
pub use Rattle.unit_map.specs.Units.{IsLowestFree, fresh}
pub use Rattle.unit_map.specs.declared.drive.Drive.{Drive}
