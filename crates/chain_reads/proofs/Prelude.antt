-- What the proofs of this crate name of definitions, of laws and of std, page by page.
pub use Rattle.std.proofs.Common.{List, None, Option, Some, ap, arith, below_more, get_or, get_or-set_other, get_or-set_same, inl, inr, length, option_map, refl, set, slice_index_or, slice_set, subst, sym, ℕ, ◌+◌, ◌-◌, ◌<◌, ◌^◌, ◌↔◌, ◌∙◌, ◌≡◌, ◌≤◌}
pub use Rattle.std.proofs.lemmas.Bool.{cases_eq, cases_lt}
pub use Rattle.pyramid.specs.Prelude.{AddressFact, ElidedRanges, Facts, IsOver, IsUnwritten, Layers, MediumFact, ReadsAt, Target, address, below, facts_in, is_within, onward, range, ranges_of}
pub use Rattle.chain_reads.specs.Cursors.{AllFollow, AreOf, Follows, IsInRun, IsRangeAt, IsSaidOf, NoneRises, ReadsAs, ReadsBelow, ReadsOn, RunReadsOn, behind, cursor_at, onward_by, weight}
pub use Rattle.chain_reads.specs.declared.cursor.Cursor.{Cursor}
pub use Rattle.chain_reads.specs.declared.cursor.Cursor.TheVariants.{At, Settled}
pub use Rattle.chain_reads.specs.declared.cursor.Spot.{Spot}
