-- What a new patch holds, so that it can be written.
use Rattle.std.specs.Prelude.{◌≡◌, ℕ, ◌<◌, List, AllPairs}
use Rattle.std.specs.List.{AllByRecursion}
use Rattle.memory_spec.specs.Prelude.{any_key, table_tag, AnyFact, IsFact, IsLawful}

-- facts of the table of that tag as a patch may hold them: each has a spelling, and keys ascend
pub record ArePatchFacts (tag : ℕ) (facts : List AnyFact) : Type 0 where
  pub each : AllByRecursion IsFact facts
  pub lawful : AllByRecursion IsLawful facts
  pub table : AllByRecursion (λ f. table_tag f ≡ tag) facts
  pub ascending : AllPairs (λ f g. any_key f < any_key g) facts
