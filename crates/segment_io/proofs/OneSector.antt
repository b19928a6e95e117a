-- One sector is read.
use Rattle.segment_io.proofs.Prelude.{nat_tests, ◌≡◌, inl, inr, ℕ, ◌+◌, ◌*◌, ◌<◌, Bool, false, List, refl, sym, ◌∙◌, ap, arith, cases_Bool, bytes_at, View, Place, Shelved, shard_of, StripeStands, SectorStands, ArePlaces, place_of, drive_of, write_unit_at, bytes_of, PartRead, ShowsAnswering, is_missing_in}
use Rattle.segment_codec.specs.Position as position
use Rattle.segment_codec.specs.declared.position.Position.{Position}
use Rattle.segment_io.proofs.Tried.{shown_agrees, part_of_part}

-- the position is that of the index
pub record IsPositionOf (index : ℕ) (p : Position) : Type 0 where
  pub stripe : p.stripe ≡ position.stripe_of index
  pub shard : p.shard ≡ position.shard_of index
  pub eighth : p.eighth ≡ position.eighth_of index
  pub bounds : position.IsPosition p

-- the shards that stand there, and the sector as a part of one
pub in_shards : (view : View) (places : List Place) (index : ℕ) (p : Position) (bytes : List ℕ) → IsPositionOf index p → SectorStands view places index bytes
    → (shards : List (List ℕ)) × StripeStands view places p.stripe shards × (bytes ≡ bytes_at (512 * p.eighth) 512 (shard_of shards p.shard))
in_shards view places index p bytes of (shards, stands, is) = grind (arith, nat_tests, bytes_at)

-- what was read from its drive
pub read_directly : (a b : Shelved) (places : List Place) (missing : List Bool) (index : ℕ) (p : Position) (was : Bool) (into : List ℕ) (view : View) (bytes : List ℕ) → ArePlaces a places → a.honest → IsPositionOf index p
    → was ≡ is_missing_in missing places p.shard
    → PartRead a.honest was false (bytes_at (write_unit_at (place_of places p.shard) (p.stripe + 1) + 512 * p.eighth) 512 (bytes_of a (drive_of places p.shard))) into (a.disk (drive_of places p.shard)) (b.disk (drive_of places p.shard))
    → ShowsAnswering a b places missing view → SectorStands view places index bytes → into ≡ bytes
read_directly a b places missing index p was into view bytes are h of flag part shows stands =
    let s = in_shards view places index p bytes of stands in
    let lt : p.shard < 9 = omega (arith, of.bounds.shard) in
    let eighth : p.eighth < 8 = of.bounds.eighth in
    let known : was ≡ false = elim (cases_Bool was) [ inl so ↦ absurd (cc (part.stays so)) | inr not ↦ not ] in
    part.read h refl
    ∙ part_of_part (write_unit_at (place_of places p.shard) (p.stripe + 1)) 4096 (512 * p.eighth) 512 (bytes_of a (drive_of places p.shard)) (omega (arith, eighth))
    ∙ ap (bytes_at (512 * p.eighth) 512) (shown_agrees a b places missing p.stripe view s.0 p.shard are shows s.1 lt (sym flag ∙ known) (part.counts refl))
    ∙ sym s.2
