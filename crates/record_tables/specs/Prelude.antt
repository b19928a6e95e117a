-- What crates above name of this one, page by page.
pub use Rattle.record_tables.specs.Laws.{HaveFacts, new_facts, with_patches}
pub use Rattle.record_tables.specs.Patches.{FitRecord, added_from, added_patches, by_tag, counts_of, new_patch, of_tag, segments_for, segments_of}
pub use Rattle.record_tables.specs.Units.{AreNewUnits, IsMapAfter}
pub use Rattle.record_tables.specs.lemmas.Lists.{all_weaker, cons_pairs, pairs_across, pairs_append, pairs_back, pairs_front, pairs_head, pairs_tail}
