-- What the proofs of this crate name of definitions, of laws and of std, page by page.
pub use Rattle.std.proofs.Common.{Bool, List, [], ap, arith, cond, count_by, drop, false, filter, get_or, if◌then◌else◌, inl, inr, le-leb, leb-false, length, ltb-false, ltb-true, max, min, nat_le, nat_lt, not, refl, slice_index_or, suc, sym, take, true, zero, ℕ, ◌&&◌, ◌++◌, ◌+◌, ◌-◌, ◌/◌, ◌<◌, ◌||◌, ◌↔◌, ◌∙◌, ◌∷◌, ◌≡◌, ◌≤◌, ◌⊎◌}
pub use Rattle.std.proofs.lemmas.Bool.{cases_lt, false≢true}
pub use Rattle.std.proofs.lemmas.Bool.Decides.{nat_tests}
pub use Rattle.std.specs.List.{All, AllByRecursion, AllPairs, range_with_len}
pub use Rattle.pur_base.specs.Prelude.{is_within}
pub use Rattle.elision.specs.Merging.{lasts, merged, stays}
pub use Rattle.elision.specs.Ranges.{AreApart, with_range}
