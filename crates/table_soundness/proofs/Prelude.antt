-- What the proofs of this crate name of definitions, of laws and of std, page by page.
pub use Rattle.std.proofs.Common.{All, AllPairs, Bool, Contains, Equal, Greater, IfNone, IfSome, IsPermutation, IsSome, IsTrue, Less, List, None, Option, Ordering, Some, [], ap, append_assoc, ap₂, arith, bytes_eq, drop, eq-eqb, eqb-true, false, filter, get_or, get_or-set_other, get_or-set_same, get_or-take, if◌then◌else◌, inl, inr, le-leb, le-ltb, leb-true, length, length-set, length-take, lt-ltb, ltb-false, ltb-true, map, nat_cmp, nat_lt, ne_eqb, not, option_and_then, option_map, refl, rules, set, slice_index, slice_index_or, subst, suc, swap, sym, take, take_all, true, zero, ℕ, ◌&&◌, ◌*◌, ◌++◌, ◌+◌, ◌-◌, ◌/◌, ◌<◌, ◌==◌, ◌^◌, ◌↔◌, ◌∙◌, ◌∷◌, ◌≡◌, ◌≢◌, ◌≤◌, ◌⊎◌}
pub use Rattle.std.proofs.lemmas.Bool.{cases_eq, cases_lt, cases_order, false_from_ne_true, false≢true, iff_false}
pub use Rattle.std.proofs.lemmas.Bool.Decides.{nat_tests}
pub use Rattle.std.proofs.lemmas.List.{get_or-append_right, get_or_append_left, get_or_default, get_or_past, length-append, map-append, take_more}
pub use Rattle.std.proofs.lemmas.List.Elements.{All-append, All-cons, All-contains, All-from_recursion, All-head, All-map, All-nil, All-push, All-tail, All-weaker, Contains-append_cases, Contains-append_left, Contains-append_right, Contains-get_or, recursion_from_All}
pub use Rattle.std.proofs.lemmas.List.Sorted.{All-permutation, Contains-permutation, IsNonDecreasingBy-from_sort, IsNonDecreasingBy-from_sort_by, IsPermutation-append_left, IsPermutation-keeps, IsPermutation-refl, IsPermutation-sym, IsPermutation-trans}
pub use Rattle.std.proofs.lemmas.Map.Made.{AllPairs-from_IsDistinct}
pub use Rattle.std.proofs.lemmas.Slice.Eq.{bytes_eq-Decides}
pub use Rattle.std.specs.List.{AllByRecursion, IsDistinct, flat_map, list_any}
pub use Rattle.std.specs.List.Sorted.{IsNonDecreasingBy, IsSortedByKey}
pub use Rattle.std.specs.Ordering.{ordering_then}
pub use Rattle.std.specs.Prelude.{nat_eq, ⊤}
pub use Rattle.pyramid.specs.Prelude.{ElidedRanges, IsPast, IsShown, Rises, all_contained, ascends-cons, ascends-head, ascends-nil, ascends-tail, ascends_filter, ascends_ordered, either, facts_of, filtered, here, id_of_key, later, newest-append, newest-cons, newest_found, newest_of, none_above, nowhere, of_filter, passes_filter, ranges_of, said_found, said_whole, stays, there, whole_said}
pub use Rattle.loaded_tables.specs.Prelude.{AreElidedBy, AreNamed, all_flat, all_joined, all_left, all_of_patch, all_right, all_unmap, elided_ranges, facts_in, five, five_apart, joined, of_flat, pairs_across, pairs_cons, pairs_head, pairs_join, pairs_left, pairs_map, pairs_nil, pairs_right, pairs_tail, pairs_unmap, patches_in, patches_rise, same_facts, same_five, tables_rise}
pub use Rattle.loaded_tables.specs.declared.tables.LoadedTables.{LoadedTables}
pub use Rattle.table_soundness.specs.Addresses.{AreAddressesListed, AreAddressesRight, EndsWithin, IsSmall, IsThere}
pub use Rattle.table_soundness.specs.Elisions.{IsBelow}
pub use Rattle.table_soundness.specs.Faults.{AreNumbersOf, IsFault, IsFirst, IsTableSound, first_false, numbers_before, numbers_of}
pub use Rattle.table_soundness.specs.Items.{AreObjectsListed, AreObjectsRight, AreSegmentsListed, AreSegmentsRight, IsKept, OwnTheirMediums}
pub use Rattle.table_soundness.specs.Last.{IsLastOf}
pub use Rattle.table_soundness.specs.Mediums.{AreMediumsListed, AreMediumsRight, Avoids, IsFrozen, IsRange, LeadsElsewhere, LiesBefore, volume_mediums, with_medium}
pub use Rattle.table_soundness.specs.Newest.{AreNewest, IsBehind, newer_one, weave, woven}
pub use Rattle.table_soundness.specs.Numbers.{AreMarked, AreNumbersSound, EndAt, RiseTo}
pub use Rattle.table_soundness.specs.Places.{code_of}
pub use Rattle.table_soundness.specs.Spans.{BothGrow, FitSpans, Follows, GrowSpans, IsPut, IsRefused, IsSpan, rank, span_of}
pub use Rattle.table_soundness.specs.declared.spans.Span.{Span}
pub use Rattle.array_spec.specs.Prelude.{AddressFact, AnyFact, AreAddressesSound, AreApart, AreElisionsSound, AreIdsBelow, AreMediumsSound, AreObjectsSound, AreSegmentsSound, AreSequencesSound, AreSound, AscendFrom, Ascends, BootRecord, ElisionFact, Facts, FitTogether, Geometry, Grows, IsBootRecord, IsFact, IsOver, IsPatch, IsSegment, Location, MediumFact, NextNumbers, OBJECTS, ObjectFact, ObjectKind, OwnsMedium, Patch, PatchSegment, Place, SEGMENT_SHARDS, SegmentFact, Snapshot, Stored, Table, Target, Volume, Zero, address, address_key, any_number, has_key, id_of, in_patches, is_elided, is_empty_range, is_within, key_of, medium_key, named_segments, never, newest, object, object_key, objects, range, says, segment, segment_key, segments, tag_of, unless_empty}
