-- What crates above name of this one and of those below it, page by page.
pub use Rattle.pur_base.specs.Facts.{Facts, address_key, is_empty_range, medium_key, never, object_key, segment_key}
pub use Rattle.pur_base.specs.Keys.{id_of, key_of}
pub use Rattle.pur_base.specs.Mediums.{IsOver, below}
pub use Rattle.pur_base.specs.Says.{Ascends, has_key, newest, says, unless_empty}
pub use Rattle.pur_base.specs.Unwritten.{IsUnwritten, ReadsAt, onward}
pub use Rattle.pur_base.specs.Visible.{AreElidedRanges, address, is_elided, is_within, range}
pub use Rattle.pur_base.specs.declared.facts.AddressFact.{AddressFact}
pub use Rattle.pur_base.specs.declared.facts.MediumFact.{MediumFact}
pub use Rattle.pur_base.specs.declared.facts.ObjectFact.{ObjectFact}
pub use Rattle.pur_base.specs.declared.facts.SegmentFact.{SegmentFact}
pub use Rattle.pur_base.specs.declared.facts.Target.{Target}
pub use Rattle.pur_base.specs.declared.facts.Target.TheVariants.{Stored, Zero}
pub use Rattle.pur_base.specs.declared.ids.MediumId.{MediumId}
pub use Rattle.pur_base.specs.declared.ids.Seq.{Seq}
pub use Rattle.pur_base.specs.declared.limits.TheConstants.{OBJECTS}
pub use Rattle.pur_base.specs.declared.request.Table.{Table}
pub use Rattle.elision.specs.Merging.{stays}
pub use Rattle.elision.specs.Ranges.{AreApart, ElidedRanges, ranges_of}
pub use Rattle.pyramid.specs.Ends.{IsLastSaid}
pub use Rattle.pyramid.specs.Layers.{AreBelow, AreCovered, AreDistinct, Grow, HasNewer, IsApart, IsFlushed, IsLayered, IsMerged, Layers, Rises, SaysTheSame, facts_in, facts_of, newest_of, patch_at, patch_facts, patches_of}
pub use Rattle.pyramid.specs.Loading.{IsPast}
pub use Rattle.pyramid.specs.Merging.{later}
pub use Rattle.pyramid.specs.Shown.{IsShown}
pub use Rattle.pyramid.specs.lemmas.Contains.{either, filtered, here, nowhere, of_filter, there}
pub use Rattle.pyramid.specs.lemmas.Keys.{above_flushed, above_unflushed, id_of_key, within_elided}
pub use Rattle.pyramid.specs.lemmas.Layers.{all_below, all_contained, ascends_ordered, below_at, later_below, rises_alone, rises_below}
pub use Rattle.pyramid.specs.lemmas.Merges.{ascends-cons, ascends-head, ascends-nil, ascends-tail, ascends_filter, none_above}
pub use Rattle.pyramid.specs.lemmas.Newest.{later_none, newest-append, newest-cons, newest_found, newest_none}
pub use Rattle.pyramid.specs.lemmas.Sets.{newest_over, same_newest}
pub use Rattle.pyramid.specs.lemmas.Shown.{ascends_map, ascends_push, fresh_of, listed_by_id, passes_filter, put, put_it, put_other, rising_of, said_found, said_whole, shown_added, shown_elided, shown_nothing, shown_replaced, shown_same, taken_in, taken_of, whole_said}
