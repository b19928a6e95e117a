-- What crates above name of this one, page by page.
pub use Rattle.table_plan.specs.Eliding.{AreElidedToo, AreElisionsOf, IsElidedBy, IsUnused, eliding, items_of, medium_items, segment_items}
pub use Rattle.table_plan.specs.Merging.{HasMergedFacts, IsMergedOf, memory_with, merged_facts, merged_patches, pair_facts, patch_count, table_of, tables_with}
pub use Rattle.table_plan.specs.Patches.{ArePatchFacts}
pub use Rattle.table_plan.specs.Places.{flagged_from, has_place, has_places, is_named, is_staged_at, place_in, place_of, place_or_any, places_from}
pub use Rattle.table_plan.specs.Planned.{AreStored, IsPlanned, extended, sectors_at}
pub use Rattle.table_plan.specs.Segments.{segments_from}
pub use Rattle.table_plan.specs.Unused.{stands_in}
