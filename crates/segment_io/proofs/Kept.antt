-- What stays where the other write units of a segment are written.
use Rattle.segment_io.proofs.Prelude.{◌≡◌, ◌⊎◌, inl, inr, ⊎_elim, ℕ, ◌+◌, ◌*◌, ◌<◌, ◌≤◌, Bool, List, sym, ◌∙◌, subst, arith, cases_eq, Place, Shelved, WritesOnly, LosesOnly, ArePlaces, place_of, drive_of, write_unit_at, OnUnits, bytes_of, unit_in, HoldsStripe, not_before, part_stays}
use Rattle.segment_io.proofs.Progress.{apart}

-- write units that aren't among those that are written have none of their bytes
pub elsewhere : (a : Shelved) (places : List Place) (n count m more shard : ℕ) → ArePlaces a places → shard < 9 → ((m + more ≤ n) ⊎ (n + count ≤ m)) → (i : ℕ) → write_unit_at (place_of places shard) m ≤ i → i < write_unit_at (place_of places shard) m + 4096 * more
    → OnUnits places n count (drive_of places shard) i → ⊥
elsewhere a places n count m more shard are within other i from to (k, below, (same, range)) = elim (cases_eq shard k) [
  | inl e ↦ disjoint (subst (λ (j : ℕ). (write_unit_at (place_of places j) n ≤ i) × (i < write_unit_at (place_of places j) n + 4096 * count)) (sym e) range)
  | inr ne ↦ apart a places shard k are ne within below same
]
  where
    disjoint : (write_unit_at (place_of places shard) n ≤ i) × (i < write_unit_at (place_of places shard) n + 4096 * count) → ⊥
    disjoint r = ⊎_elim (λ less. omega (arith, less, r.0, to)) (λ below. omega (arith, below, r.1, from)) other

pub unit_stays : (a b : Shelved) (places : List Place) (n count m shard : ℕ) → ArePlaces a places → shard < 9 → ((m + 1 ≤ n) ⊎ (n + count ≤ m)) → WritesOnly (OnUnits places n count) a b → unit_in (bytes_of b) places m shard ≡ unit_in (bytes_of a) places m shard
unit_stays a b places n count m shard are within other writes =
    let d = drive_of places shard in
    part_stays (OnUnits places n count d) (a.disk d) (b.disk d) (write_unit_at (place_of places shard) m) 4096 (writes.device d) (elsewhere a places n count m 1 shard are within other)

-- a stripe stays
pub stripe_stays : (a b : Shelved) (places : List Place) (n count stripe : ℕ) (was now : List Bool) (shards : List (List ℕ)) → ArePlaces a places → ((stripe + 1 + 1 ≤ n) ⊎ (n + count ≤ stripe + 1)) → LosesOnly a b was now → WritesOnly (OnUnits places n count) a b
    → HoldsStripe (bytes_of a) places was stripe shards → HoldsStripe (bytes_of b) places now stripe shards
stripe_stays a b places n count stripe was now shards are other loses writes holds = record {
  codeword = holds.codeword;
  units = λ shard lt none. unit_stays a b places n count (stripe + 1) shard are lt other writes ∙ holds.units shard lt (not_before a b was now (place_of places shard).slot loses none);
}
