-- What the proofs of this crate name of definitions, of laws and of std, page by page.
pub use Rattle.std.proofs.Common.{All, AllPairs, Bool, Contains, IfSome, IsPermutation, IsSortedByKey, Less, List, None, Option, Some, [], ap, arith, drop, eq-eqb, eqb-true, false, get_or, get_or-set_other, get_or-set_same, if◌then◌else◌, inl, inr, le-leb, le-ltb, length, length-append, lt-ltb, ltb-false, ltb-true, nat_cmp, nat_le, nat_lt, ne_eqb, of_calls, option_and_then, refl, rules, set, subst, suc, sym, take, take_all, true, ℕ, ◌&&◌, ◌++◌, ◌+◌, ◌-◌, ◌<◌, ◌==◌, ◌^◌, ◌↔◌, ◌∙◌, ◌∷◌, ◌≡◌, ◌≢◌, ◌≤◌, ◌⊎◌}
pub use Rattle.std.proofs.lemmas.Bool.{and_from, both_ways, cases_eq, cases_lt, cases_order, false≢true}
pub use Rattle.std.proofs.lemmas.Bool.Decides.{nat_tests}
pub use Rattle.std.proofs.lemmas.Fn.{always_returns_same, dedup_same}
pub use Rattle.std.proofs.lemmas.List.{get_or_default, take_more}
pub use Rattle.std.proofs.lemmas.List.Elements.{All-contains, Contains-append_left, Contains-get_or, Contains-push, Contains-push_cases}
pub use Rattle.std.proofs.lemmas.List.Sorted.{Contains-permutation, IsPartitionedBy-ltb, IsPermutation-sym, answers_always}
pub use Rattle.std.specs.List.Sorted.{IsNonDecreasingBy}
pub use Rattle.pyramid.specs.Prelude.{AreApart, AreBelow, AreElidedRanges, Ascends, Facts, IsLastSaid, IsOver, MediumFact, MediumId, above_flushed, above_unflushed, all_below, either, facts_in, facts_of, has_key, id_of, id_of_key, is_empty_range, is_within, key_of, medium_key, newest_found, newest_of, nowhere, range, unless_empty, within_elided}
pub use Rattle.medium_table.specs.Marks.{AreMarks, IsFirst, medium_of}
pub use Rattle.medium_table.specs.Ranges.{AreDisjoint, IsLowest, IsRangeOver, after_cut, cut_facts, emptied, number, range_from, rest_of, said}
pub use Rattle.medium_table.specs.Reaching.{AreLowestUnreached, IsReached, IsVisible, LeadsTo, id_of_medium, itself, onward}
