-- What the proofs of this crate name of definitions, of laws and of std, page by page.
pub use Rattle.std.proofs.Common.{All, AllPairs, Bool, Contains, Err, IfOk, IfSome, IsTrue, List, None, Ok, OnOk, Option, Result, Some, [], ap, append-nil, append_assoc, arith, cond, drop, drop-cons, drop-set-lt, eq-eqb, eqb-true, false, filter, get_or, get_or-drop, get_or-set_other, get_or-set_same, get_or-take, if◌then◌else◌, inl, inr, le-leb, leb-true, length, length-append, length-drop, length-set, length-take, length-take-le, lt-ltb, ltb-false, ltb-true, nat_le, nat_lt, ne_eqb, not, option_and_then, refl, rules, set, slice_index_or, subst, suc, sym, take, take-append-drop, take_all, true, zero, ℕ, ◌&&◌, ◌++◌, ◌+◌, ◌-◌, ◌/◌, ◌<◌, ◌==◌, ◌||◌, ◌↔◌, ◌∙◌, ◌∷◌, ◌≡◌, ◌≢◌, ◌≤◌, ◌⊎◌}
pub use Rattle.std.proofs.lemmas.Bool.{cases_eq, cases_lt, cases_order, false≢true}
pub use Rattle.std.proofs.lemmas.Bool.Decides.{nat_tests}
pub use Rattle.std.proofs.lemmas.List.{get_or_append_left, get_or_default, take-set-le, take_more, take_more_set}
pub use Rattle.std.proofs.lemmas.List.Elements.{All-append, All-cons, All-contains, All-drop, All-head, All-tail, All-take, Contains-append_cases, Contains-append_left, Contains-append_right, Contains-get_or}
pub use Rattle.std.proofs.lemmas.List.Kept.{AllPairs-filter}
pub use Rattle.std.specs.Option.{is_some, option_or}
pub use Rattle.pur_base.specs.Prelude.{Ascends, IsTransitive, elides, elision_key, has_key, id_of, is_elided, is_narrower, is_within, newer, says, tag_of, unless_empty}
pub use Rattle.elision.specs.Merging.{lasts, merged, stays, weave}
pub use Rattle.pyramid.specs.Layers.{AreAlone, AreBelow, AreCovered, AreDistinct, Grow, HasNewer, IsApart, IsBefore, IsFlushed, IsLayered, IsMerged, IsOrdered, IsPruned, LiesInOne, NestAsRanges, Rises, SaysTheSame, class_of, facts_in, facts_of, if_passes, is_between, newest_of, patch_facts, patches_of}
pub use Rattle.pyramid.specs.Loading.{IsPast}
pub use Rattle.pyramid.specs.Merging.{IsSpan, later}
pub use Rattle.pyramid.specs.lemmas.Contains.{either, filtered, here, nowhere, of_filter, there}
pub use Rattle.pyramid.specs.lemmas.Layers.{all_below, all_contained, ascends_ordered, below-left, below_at, first_hit, later_below, none_more, ok_or_err, rises_alone, rises_below, rises_insert, rises_run, rises_with}
pub use Rattle.pyramid.specs.lemmas.Merges.{ascends-cons, ascends-head, ascends-nil, ascends-tail, ascends_filter, ascends_merged, filter_newest, merged_newest, none_above}
pub use Rattle.pyramid.specs.lemmas.Newest.{later_none, newest-append, newest_found, newest_is, newest_none}
pub use Rattle.pyramid.specs.lemmas.Sets.{newest_over, same_newest, same_passing}
