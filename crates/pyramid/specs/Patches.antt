-- What a patch keeps beside its facts.
use Rattle.std.specs.Prelude.{ℕ, Bool, List, Option}
use Rattle.pyramid.specs.Layers.{IsPatch}
use Rattle.pyramid.specs.Marks.{AreMarked}
use Rattle.pyramid.specs.Pointed.{AreBetween}

-- the facts of a patch, the marks of their keys, and the bounds of what they point to
pub record IsSummed {F : Type 0} (key : F → ℕ) (pointed : F → Option ℕ) (facts : List F) (marks : List Bool) (first last : ℕ) : Type 0 where
  pub patch : IsPatch key facts
  pub marked : AreMarked key facts marks
  pub between : AreBetween pointed facts first last
