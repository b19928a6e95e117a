-- What calls of a reader do to the input.
use Rattle.std.specs.Prelude.{◌≡◌, ℕ, ◌+◌, List, [], ◌∷◌, ◌++◌}
use Rattle.world.specs.Prelude.{INPUT_BYTES}
use Rattle.line_input.specs.declared.input.Refill.{Refill}
use Rattle.line_input.specs.declared.input.Refill.TheVariants as refill

-- What a refill did: before and after are the unread bytes. At the limit one byte is lost.
abbrev pub Refills : Refill → List ℕ → List ℕ → Type 0
Refills refill.Bytes before after = before ≡ after
Refills refill.End before after = (before ≡ []) × (after ≡ [])
Refills refill.Limit before after = (byte : ℕ) × (before ≡ byte ∷ after)

-- A number of bytes taken and left, before and after a call. At the limit the most were taken, and one byte more was probed.
pub record Totals (limited : Type 0) (taken taken_after left left_after : ℕ) : Type 0 where
  pub same : (limited → ⊥) → taken_after + left_after ≡ taken + left
  pub most : limited → taken_after ≡ INPUT_BYTES
  pub probed : limited → taken + left ≡ taken_after + 1 + left_after

-- The bytes that were taken and not consumed are part of an item; left is what the source has.
pub record Unfinished (unread left : List ℕ) (IsPart : List ℕ → Type 0) : Type 0 where
  pub rest : List ℕ
  pub split : unread ≡ rest ++ left
  pub part : IsPart rest

-- The bytes that were taken and not consumed are part of an item, and one byte more was probed; after is what is unread then.
abbrev pub Overruns : List ℕ → List ℕ → (List ℕ → Type 0) → Type 0
Overruns before after IsPart = (rest : List ℕ) × (byte : ℕ) × (before ≡ rest ++ byte ∷ after) × IsPart rest
