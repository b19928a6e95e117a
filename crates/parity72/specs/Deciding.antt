-- Seven shards decide the other two.
use Rattle.std.specs.Prelude.{◌≡◌, ◌≢◌, ℕ, ◌<◌, List}
use Rattle.parity72.specs.Parity.{IsCodeword, shard_of}

-- two codewords that agree but for two shards are one
abbrev pub SevenDecide : Type 0
SevenDecide = (a b : List (List ℕ)) (i j : ℕ) → IsCodeword a → IsCodeword b → i < j → j < 9
    → ((k : ℕ) → k < 9 → k ≢ i → k ≢ j → shard_of a k ≡ shard_of b k) → a ≡ b
