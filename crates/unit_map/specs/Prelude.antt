-- What crates above name of this one, page by page.
pub use Rattle.unit_map.specs.Map.{IsGroups, IsPlace, IsTaken, LowersByOne, as_member, drive_at, free_count, is_free, no_drive, share, total_at, with_unit, with_unit_of, with_units}
pub use Rattle.unit_map.specs.Units.{fresh}
