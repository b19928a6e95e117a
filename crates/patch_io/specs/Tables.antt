-- Facts of one table in the order in which a patch has them.
use Rattle.std.specs.Prelude.{◌≡◌, ℕ, ◌<◌, List, AllPairs}
use Rattle.std.specs.List.{AllByRecursion}
use Rattle.array_spec.specs.Prelude.{table_tag, any_key, AnyFact}

-- each fact is of the table with that tag
abbrev pub HaveTag : {F : Type 0} → (F → AnyFact) → ℕ → Type 0
HaveTag {F} any tag = (f : F) → table_tag (any f) ≡ tag

-- a fact has the same key as a fact of any table
abbrev pub HaveKey : {F : Type 0} → (F → AnyFact) → (F → ℕ) → Type 0
HaveKey {F} any key = (f : F) → any_key (any f) ≡ key f

-- of that table, and strictly ascending by key
pub record AreInOrder (tag : ℕ) (facts : List AnyFact) : Type 0 where
  pub table : AllByRecursion (λ f. table_tag f ≡ tag) facts
  pub ascending : AllPairs (λ f g. any_key f < any_key g) facts
