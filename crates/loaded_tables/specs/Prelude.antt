-- What crates above name of this one, page by page.
pub use Rattle.loaded_tables.specs.Elided.{AreElidedBy, IsRange}
pub use Rattle.loaded_tables.specs.Loaded.{AreLawful, AreNamed, IsNamed, facts_in, patches_in}
pub use Rattle.loaded_tables.specs.Patches.{all_of_patch}
pub use Rattle.loaded_tables.specs.lemmas.Pairs.{all_flat, all_left, all_right, all_unmap, of_flat, pairs_across, pairs_cons, pairs_head, pairs_join, pairs_left, pairs_map, pairs_nil, pairs_right, pairs_tail, pairs_unmap}
pub use Rattle.loaded_tables.specs.lemmas.Rising.{patches_rise, tables_rise}
pub use Rattle.loaded_tables.specs.lemmas.Together.{all_joined, elided_ranges, five, five_apart, joined, same_facts, same_five}
