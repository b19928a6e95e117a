-- Where the sectors of a segment stand, in a view of the devices.
use Rattle.std.specs.Prelude.{◌≡◌, ℕ, ◌+◌, ◌*◌, ◌<◌, ◌≤◌, List, [], map, count_by, Option, None, option_map, is_some, IfSome, slice_index_or}
use Rattle.std.specs.List.{AllZip}
use Rattle.std.specs.Int.{div_ceil}
use Rattle.pur_base.specs.Prelude.{bytes_at, View, drive}
use Rattle.pur_base.specs.declared.limits.TheConstants.{SECTOR_BYTES, UNIT_BYTES}
use Rattle.pur_base.specs.declared.place.Place.{Place}
use Rattle.parity72.specs.Parity.{IsCodeword}
use Rattle.segment_codec.specs.declared.position.TheConstants.{WRITE_UNIT_BYTES, STRIPE_SECTORS, STRIPES, DATA_SHARDS}
use Rattle.segment_codec.specs.Position.{stripe_of, shard_of, eighth_of}

-- a write unit of a unit: the header, or the shard of a stripe
abbrev pub write_unit : ℕ → Place → View → Option (List ℕ)
write_unit n place view = option_map (bytes_at (UNIT_BYTES * place.unit + WRITE_UNIT_BYTES * n) WRITE_UNIT_BYTES) (view (drive place.slot))

-- the shards of a stripe, as far as the view shows them
abbrev pub shards_shown : View → List Place → ℕ → List (Option (List ℕ))
shards_shown view places stripe = map (λ place. write_unit (stripe + 1) place view) places

-- the codeword of which the view shows at least seven shards, and no other one
pub record StripeStands (view : View) (places : List Place) (stripe : ℕ) (shards : List (List ℕ)) : Type 0 where
  pub there : stripe < STRIPES
  pub codeword : IsCodeword shards
  pub agrees : AllZip (λ shard shown. IfSome shown (λ bytes. bytes ≡ shard)) shards (shards_shown view places stripe)
  pub enough : DATA_SHARDS ≤ count_by is_some (shards_shown view places stripe)

-- the sector of an index in the shards of its stripe
abbrev pub sector_in : List (List ℕ) → ℕ → List ℕ
sector_in shards index = bytes_at (SECTOR_BYTES * eighth_of index) SECTOR_BYTES (slice_index_or shards (shard_of index) [])

-- the sector that stands at an index of the segment
abbrev pub SectorStands : View → List Place → ℕ → List ℕ → Type 0
SectorStands view places index sector =
    (shards : List (List ℕ)) × StripeStands view places (stripe_of index) shards × (sector ≡ sector_in shards index)

-- each stripe that holds some of the first sectors stands
abbrev pub StripesStand : View → List Place → ℕ → Type 0
StripesStand view places placed = (stripe : ℕ) → stripe < div_ceil placed STRIPE_SECTORS → (shards : List (List ℕ)) × StripeStands view places stripe shards

-- What the sector's own drive shows at its place, whether the stripe stands or not. Where that isn't shown nothing is said.
abbrev pub IsShownAt : View → List Place → ℕ → List ℕ → Type 0
IsShownAt view places index sector =
    IfSome (slice_index_or (shards_shown view places (stripe_of index)) (shard_of index) None) (λ shard. sector ≡ bytes_at (SECTOR_BYTES * eighth_of index) SECTOR_BYTES shard)
