-- What crates above name of this one, page by page.
pub use Rattle.medium_table.specs.Ranges.{AreDisjoint, IsLowest, IsRangeOver, after_cut, cut_facts, emptied, number, range_from, rest_of, said}
pub use Rattle.medium_table.specs.Reaching.{AreDescending, AreLowestUnreached, IsVisible, LeadsTo, itself, onward, unreached_alike}
