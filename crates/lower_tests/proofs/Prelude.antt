-- What the proofs of this crate name of definitions, of laws and of std, page by page.
pub use Rattle.std.proofs.Common.{All, Bool, Contains, List, None, Some, [], ap, arith, false, get_or, if◌then◌else◌, inl, inr, length, lit<, option_and_then, refl, rules, subst, suc, sym, true, zero, ℕ, ◌++◌, ◌+◌, ◌<◌, ◌==◌, ◌↔◌, ◌∙◌, ◌∷◌, ◌≡◌, ◌≤◌, ◌⊎◌}
pub use Rattle.std.proofs.lemmas.List.Elements.{All-contains, Contains-append_cases}
pub use Rattle.pyramid.specs.Prelude.{AddressFact, AreBelow, AreElidedRanges, ElidedRanges, Facts, IsOver, Layers, MediumFact, address_key, all_below, all_contained, either, facts_in, facts_of, is_elided, is_empty_range, medium_key, nowhere, range, ranges_of, said_found, shown_nothing}
pub use Rattle.object_table.specs.Objects.{Objects, number}
pub use Rattle.array_spec.specs.Prelude.{ArePlaces, BootRecord, LeadsDown, ObjectFact, SegmentFact, Table, id_of, is_within, key_of, named_segments, never, object_key, says_is, segment_key, segments, unless_empty, used_places}
pub use Rattle.lower_tests.specs.Grid.{AreNumbered, AreOnGrid, IsOnGrid}
