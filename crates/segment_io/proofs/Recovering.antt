-- What a stripe is, once its shards were read.
use Rattle.segment_io.proofs.Prelude.{nat_tests, ◌≡◌, inl, inr, ℕ, ◌+◌, ◌<◌, Bool, true, false, List, ◌∙◌, arith, Contains, cases_Bool, Place, Shelved, not_risen, shard_of, is_in, place_of, drive_of, bytes_of, unit_in, is_unknown, PartRead, Tried, ThreeUnknown, AreUnknown, AreShown, IsOn, AreLost}
use Rattle.parity72.specs.Recovery.{AgreesOutside}

abbrev Read : Shelved → Shelved → List Place → ℕ → List Bool → List Bool → List (List ℕ) → Type 0
Read a b places stripe was now shards = (k : ℕ) → k < 9 → PartRead a.honest (is_unknown was k) (is_unknown now k) (unit_in (bytes_of a) places (stripe + 1) k) (shard_of shards k) (a.disk (drive_of places k)) (b.disk (drive_of places k))

-- the shards that are known agree with the codeword
pub agrees : (a b : Shelved) (places : List Place) (stripe : ℕ) (was now : List Bool) (shards whole : List (List ℕ)) (numbers : List ℕ) → a.honest → Read a b places stripe was now shards → AreUnknown now numbers → IsOn a b places was stripe whole → AgreesOutside numbers shards whole
agrees a b places stripe was now shards whole numbers h read are on k lt none = elim (cases_Bool (is_unknown now k)) [
  | inl is ↦ absurd (none ((are k lt).0 is))
  | inr known ↦ (read k lt).read h known ∙ on.agrees k lt (known_before known) ((read k lt).counts known)
]
  where
    known_before : is_unknown now k ≡ false → is_unknown was k ≡ false
    known_before known = elim (cases_Bool (is_unknown was k)) [
      | inl is ↦ absurd (cc ((read k lt).stays is, known))
      | inr not ↦ not
    ]

-- the shards whose drives answered are what stands on them, and are left as they are
pub are_shown : (a b : Shelved) (places : List Place) (stripe : ℕ) (was now : List Bool) (shards new : List (List ℕ)) (numbers : List ℕ) → a.honest → Read a b places stripe was now shards → AreUnknown now numbers
    → ((k : ℕ) → k < 9 → ¬ Contains numbers k → shard_of new k ≡ shard_of shards k) → AreShown a b places (is_unknown was) stripe new
are_shown a b places stripe was now shards new numbers h read are kept k lt answered = grind (arith, nat_tests, not_risen)

pub are_lost : (a b : Shelved) (places : List Place) (stripe : ℕ) (was now : List Bool) (shards : List (List ℕ)) (drives : List Bool) → Read a b places stripe was now shards → ThreeUnknown now
    → ((k : ℕ) → k < 9 → is_in drives (place_of places k).slot ≡ is_unknown now k) → ((slot : ℕ) → is_in drives slot ≡ true → (k : ℕ) × (k < 9) × (slot ≡ (place_of places k).slot))
    → AreLost a b places (is_unknown was) drives
are_lost a b places stripe was now shards drives read three each no_other = grind (arith, nat_tests)

pub has_tried : (a b : Shelved) (places : List Place) (stripe : ℕ) (was now : List Bool) (shards : List (List ℕ)) → Read a b places stripe was now shards → Tried a b places (is_unknown was) now
has_tried a b places stripe was now shards read = grind (arith, nat_tests)
