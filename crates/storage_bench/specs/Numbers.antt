-- Sequence numbers of facts.
use Rattle.std.specs.Prelude.{ℕ, ◌+◌, ◌<◌, ◌≤◌, List, All}
use Rattle.pyramid.specs.Prelude.{AddressFact, Layers, facts_in}

-- all facts of a table have numbers below that one
abbrev pub AreBelow : ℕ → Layers AddressFact → Type 0
AreBelow next table = All (λ f. f.seq.0 < next) (facts_in table)

-- each fact's number is one of so many
abbrev pub AreAmong : ℕ → ℕ → List AddressFact → Type 0
AreAmong first count facts = All (λ f. (first ≤ f.seq.0) × (f.seq.0 < first + count)) facts
