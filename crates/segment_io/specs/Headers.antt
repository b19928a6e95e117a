-- Headers in the units of a segment, and when they come.
use Rattle.std.specs.Prelude.{◌≡◌, ◌⊎◌, ℕ, ◌*◌, ◌<◌, true, false, Bool, List, [], slice_index}
use Rattle.world.specs.Prelude.{padded, drive, SEGMENT_SHARDS, Place, Shelved, Stop, IsIn, IsInSome}
use Rattle.segment_codec.specs.declared.header.Header.{Header}
use Rattle.segment_codec.specs.declared.kind.SegmentKind.TheVariants.{Data}
use Rattle.segment_codec.specs.declared.position.TheConstants.{WRITE_UNIT_BYTES}
use Rattle.segment_codec.specs.Prelude.{IsLawful, IsOfNoPatch, header_bytes}
use Rattle.segment_io.specs.Lost.{is_in}
use Rattle.segment_io.specs.Places.{place_of, drive_of, write_unit_at}

-- a header that can be spelled
pub record MayBeWritten (header : Header) : Type 0 where
  pub lawful : IsLawful header
  pub no_patch : header.kind ≡ Data → IsOfNoPatch header

-- the write unit of the header in a shard's unit: its sector, and zeros
unfoldable pub header_unit : Header → ℕ → List ℕ
header_unit header shard = padded WRITE_UNIT_BYTES (header_bytes (record header { shard = shard }))

-- the set holds the drives of the nine units, and no other
pub record AreDrivesOf (places : List Place) (drives : List Bool) : Type 0 where
  pub each : (shard : ℕ) → shard < SEGMENT_SHARDS → is_in drives (place_of places shard).slot ≡ true
  pub no_other : (slot : ℕ) → is_in drives slot ≡ true → (shard : ℕ) × (shard < SEGMENT_SHARDS) × (slot ≡ (place_of places shard).slot)

-- nothing is dirty on the drives of the set, but for lost ones
abbrev pub AreSynced : Shelved → List Bool → List Bool → Type 0
AreSynced shelf drives lost = (slot : ℕ) → is_in drives slot ≡ true → is_in lost slot ≡ false → (shelf.disk (drive slot)).dirty ≡ []

-- at a stop, the clean bytes of so many write units from the n-th on are as they were
abbrev pub CleanStay : Shelved → List Place → ℕ → ℕ → ℕ → Stop → Type 0
CleanStay shelf places shard n count stop = (i : ℕ) → IsIn (record { start = write_unit_at (place_of places shard) n; size = WRITE_UNIT_BYTES * count }) i
    → (IsInSome (shelf.disk (drive_of places shard)).dirty i → ⊥) → slice_index (stop.image (drive_of places shard)) i ≡ slice_index (shelf.disk (drive_of places shard)).bytes i

-- and so are all their bytes, dirty ones too
abbrev pub AllStay : Shelved → List Place → ℕ → ℕ → ℕ → Stop → Type 0
AllStay shelf places shard n count stop = (i : ℕ) → IsIn (record { start = write_unit_at (place_of places shard) n; size = WRITE_UNIT_BYTES * count }) i
    → slice_index (stop.image (drive_of places shard)) i ≡ slice_index (shelf.disk (drive_of places shard)).bytes i

-- at a stop no header is there yet, or the stripes stand whole, but for those on lost drives
abbrev pub HeadersComeLast : Shelved → List Place → ℕ → List Bool → Stop → Type 0
HeadersComeLast shelf places stripes lost stop = ((shard : ℕ) → shard < SEGMENT_SHARDS → CleanStay shelf places shard 0 1 stop)
    ⊎ ((shard : ℕ) → shard < SEGMENT_SHARDS → is_in lost (place_of places shard).slot ≡ false → AllStay shelf places shard 1 stripes stop)
