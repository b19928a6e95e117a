-- What may stand after a stop: the arrays that the acknowledged items leave, or one item more.
use Rattle.std.specs.Prelude.{◌≡◌, ◌⊎◌, ℕ, ◌+◌, List, ◌∷◌, length, drop, None}
use Rattle.boot_codec.specs.Prelude.{Array, refusal, Item, Asked, IsLogged, Answer, after}
use Rattle.array_spec.specs.Runs.{Runs}
use Rattle.array_spec.specs.Acked.{acked}

-- b is what the first of the items leaves of a, and is a logged request that the model accepts.
abbrev pub AcceptsNext : Array → List Item → Array → Type 0
AcceptsNext a (Asked r sectors ∷ items) b = IsLogged r × (refusal a r ≡ None) × (b ≡ after a (Asked r sectors))
AcceptsNext a _ b = ⊥

-- The array that n items leave, where this output was given: each acknowledged one, or one more.
pub record After (a : Array) (items : List Item) (out : List ℕ) (n : ℕ) (b : Array) : Type 0 where
  pub replies : List Answer
  pub between : Array
  pub run : Runs a items replies between
  pub count : length replies ≡ acked out
  pub state : ((n ≡ acked out) × (b ≡ between)) ⊎ ((n ≡ acked out + 1) × AcceptsNext between (drop (acked out) items) b)
