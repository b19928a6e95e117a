-- Facts in the stripes of a segment, and zeros behind the last one.
use Rattle.std.specs.Prelude.{◌≡◌, ℕ, ◌+◌, ◌*◌, ◌/◌, ◌%◌, ◌<◌, List, slice_get}
use Rattle.std.specs.Option.{MatchOption}
use Rattle.array_spec.specs.Prelude.{zeros, AnyFact, FACT_BYTES, Decodes}
use Rattle.parity72.specs.Parity.{shard_of}
use Rattle.segment_writer.specs.declared.limits.TheConstants.{SHARD_FACTS, STRIPE_FACTS}
use Rattle.patch_io.specs.Prelude.{fact_text}

-- the bytes of the fact of that number in a stripe, whose shards are filled one behind another
abbrev pub text_in : List (List ℕ) → ℕ → List ℕ
text_in shards k = fact_text (shard_of shards (k / SHARD_FACTS)) (k % SHARD_FACTS)

-- the bytes spell the fact of that number, and behind the last fact they are zeros
abbrev pub IsTextOf : List AnyFact → ℕ → List ℕ → Type 0
IsTextOf facts k text = MatchOption (slice_get facts k) (text ≡ zeros FACT_BYTES) (λ f. Decodes text f)

-- the stripe of that number holds its facts
abbrev pub HoldsFacts : List AnyFact → ℕ → List (List ℕ) → Type 0
HoldsFacts facts stripe shards = (k : ℕ) → k < STRIPE_FACTS → IsTextOf facts (STRIPE_FACTS * stripe + k) (text_in shards k)
