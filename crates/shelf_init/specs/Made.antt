-- What the making of an array leaves at its end.
use Rattle.session_spec.specs.Prelude.{A, geometry_of, Shelved, first_record, none_missing, IsMade}
use Rattle.boot_region.specs.Prelude.{IsInForceOn}

-- the array is made, and its first record is in force, so that the next record may follow
pub record HasFirst (shelf : Shelved) : Type 0 where
  pub made : IsMade shelf
  pub in_force : IsInForceOn shelf (first_record (geometry_of shelf)).members.drives none_missing A (first_record (geometry_of shelf))
