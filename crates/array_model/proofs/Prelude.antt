-- What the proofs of this crate name of definitions, of laws and of std, page by page.
pub use Rattle.std.proofs.Common.{Bool, IfNone, IfSome, List, None, OnOk, Option, Some, [], ap, arith, bytes_eq, cond, false, is_some, le-ltb, length, lt-ltb, ltb, ltb-false, map, not, position, refl, replicate, slice_get, subst, suc, sym, take, true, zero, ℕ, ◌++◌, ◌+◌, ◌<◌, ◌∙◌, ◌∷◌, ◌≡◌, ◌≢◌, ◌≤◌}
pub use Rattle.std.proofs.lemmas.List.{take_rest, with_items_is}
pub use Rattle.pur_base.specs.Prelude.{Array, Entry, Sectors, appended, entry, first_cause, has, is_snapshot, overwrite_causes, passes, read_causes, refusal, replaced, sectors_of, span, with_sectors, with_span, without}
unfoldable pub use Rattle.pur_base.specs.Prelude.{filled}
pub use Rattle.array_model.specs.Held.{IsOf, IsPlace, sectors_at, snapshot_at, with_sectors_at}
pub use Rattle.array_model.specs.Objects.{array_of, entry_of}
pub use Rattle.array_model.specs.declared.plain.Held.{Held}
