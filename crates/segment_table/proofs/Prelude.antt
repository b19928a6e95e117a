-- What the proofs of this crate name of definitions, of laws and of std, page by page.
pub use Rattle.std.proofs.Common.{All, Bool, Contains, IsTrue, List, Option, Some, [], ap, append-nil, append_assoc, arith, eqb-true, false, filter, get_or, inl, inr, length, lt-ltb, ltb-false, ltb-true, nat_lt, not, of_calls, refl, rules, subst, sym, true, ℕ, ◌++◌, ◌<◌, ◌^◌, ◌↔◌, ◌∙◌, ◌∷◌, ◌≡◌, ◌≢◌, ◌≤◌, ◌⊎◌}
pub use Rattle.std.proofs.lemmas.Bool.{cases_lt, eqb-false}
pub use Rattle.std.proofs.lemmas.Fn.{always_returns_same, filter_same}
pub use Rattle.std.proofs.lemmas.List.Elements.{All-contains, Contains-append_cases, Contains-append_left, Contains-append_right, Contains-push, Contains-push_cases, filter-append}
pub use Rattle.pyramid.specs.Prelude.{AreBelow, AreDistinct, Ascends, IsFlushed, IsShown, SegmentFact, all_below, all_contained, ascends-cons, ascends-head, ascends-tail, ascends_filter, ascends_push, below_at, facts_in, facts_of, filtered, fresh_of, has_key, here, id_of, is_elided, is_within, key_of, later, listed_by_id, never, newest, newest-append, newest_of, of_filter, passes_filter, patch_facts, patches_of, rises_below, rising_of, said_found, says, segment_key, shown_added, shown_elided, shown_same, taken_in, taken_of, there}
pub use Rattle.segment_table.specs.Segments.{AreOwnFrom, number}
