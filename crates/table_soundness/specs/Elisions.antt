-- What is judged of elisions.
use Rattle.std.specs.Prelude.{◌<◌, List}
use Rattle.std.specs.List.{AllByRecursion}
use Rattle.array_spec.specs.Prelude.{ElisionFact, NextNumbers, next_id, AreElisionsSound}

-- the last id is below the next one of the table
abbrev pub IsBelow : NextNumbers → ElisionFact → Type 0
IsBelow next f = f.last < next_id next f.table

-- last ids are below the next ones, newer elisions of a key reach at least as far, and ranges of a table lie apart or in one another
pub record AreElisionsRight (next : NextNumbers) (elisions : List ElisionFact) : Type 0 where
  pub ids : AllByRecursion (IsBelow next) elisions
  pub sound : AreElisionsSound elisions
