-- What the proofs of this crate name of definitions, of laws and of std, page by page.
pub use Rattle.std.proofs.Common.{AllPairs, Bool, Contains, IfSome, IsTrue, List, None, Option, Some, [], ap, arith, eq-eqb, eqb-true, false, filter, get_or, if◌then◌else◌, inl, inr, option_and_then, refl, sym, take, true, ℕ, ◌&&◌, ◌++◌, ◌+◌, ◌<◌, ◌==◌, ◌^◌, ◌↔◌, ◌∙◌, ◌∷◌, ◌≡◌, ◌≢◌, ◌≤◌}
pub use Rattle.std.proofs.lemmas.List.Elements.{Contains-get_or, filter-append}
pub use Rattle.std.specs.Option.{option_map_or, option_or}
pub use Rattle.pyramid.specs.Prelude.{AddressFact, AreBelow, AreElidedRanges, Facts, IsLayered, above_flushed, above_unflushed, address, address_key, either, facts_in, facts_of, filtered, has_key, here, id_of, is_within, key_of, never, newest_found, newest_of, nowhere, of_filter, passes_filter, says, unless_empty, within_elided}
pub use Rattle.address_table.specs.Addresses.{IsVisible, is_current, is_pointing, number, stands_in, target_of}
