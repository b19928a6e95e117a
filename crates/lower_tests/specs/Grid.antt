-- Ranges and addresses that the tests of chains put into empty tables, by rising sequence numbers.
use Rattle.std.specs.Prelude.{◌≡◌, ℕ, ◌+◌, ◌<◌, ◌≤◌, ◌%◌, [], Contains}
use Rattle.pyramid.specs.Prelude.{MediumFact, AddressFact, Layers}

-- it begins at a multiple of 64, has at most 64 sectors, and leads to a smaller medium
pub record IsOnGrid (r : MediumFact) : Type 0 where
  pub begins : r.start % 64 ≡ 0
  pub some : r.start < r.end
  pub few : r.end ≤ r.start + 64
  pub within : r.end ≤ 1024
  pub down : r.target.0 < r.medium.0
  pub target : r.target_start ≤ 1024

-- no patches, and such ranges, with numbers below this one
pub record AreOnGrid (number : ℕ) (mediums : Layers MediumFact) : Type 0 where
  pub none : mediums.patches ≡ []
  pub each : (r : MediumFact) → Contains mediums.unflushed r → IsOnGrid r × (r.seq.0 < number)

-- no patches, and addresses with numbers below this one
pub record AreNumbered (number : ℕ) (addresses : Layers AddressFact) : Type 0 where
  pub none : addresses.patches ≡ []
  pub each : (a : AddressFact) → Contains addresses.unflushed a → a.seq.0 < number
