-- Which sector stands where: a segment is 15 stripes, a stripe is seven shards of data, a shard is eight sectors.
use Rattle.std.specs.Prelude.{ℕ, ◌+◌, ◌*◌, ◌/◌, ◌%◌, ◌<◌}
use Rattle.segment_codec.specs.declared.position.TheConstants.{STRIPE_SECTORS, STRIPES, DATA_SHARDS, SHARD_SECTORS}
use Rattle.segment_codec.specs.declared.position.Position.{Position}

-- the stripe of a sector
abbrev pub stripe_of : ℕ → ℕ
stripe_of index = index / STRIPE_SECTORS

-- the shard of a sector, in its stripe
abbrev pub shard_of : ℕ → ℕ
shard_of index = index % STRIPE_SECTORS / SHARD_SECTORS

-- the place of a sector in its shard
abbrev pub eighth_of : ℕ → ℕ
eighth_of index = index % STRIPE_SECTORS % SHARD_SECTORS

-- a position of a segment
pub record IsPosition (p : Position) : Type 0 where
  pub stripe : p.stripe < STRIPES
  pub shard : p.shard < DATA_SHARDS
  pub eighth : p.eighth < SHARD_SECTORS

-- the index of the sector that stands there
abbrev pub index_of : Position → ℕ
index_of p = STRIPE_SECTORS * p.stripe + SHARD_SECTORS * p.shard + p.eighth
