-- What a boot record may say.
use Rattle.std.specs.Prelude.{◌≡◌, ℕ, ◌+◌, ◌*◌, ◌^◌, ◌<◌, ◌≤◌, Bool, List, [], ◌∷◌, length, count_by, sum_by, ⊤, if◌then◌else◌}
use Rattle.std.specs.List.{AllByRecursion}
use Rattle.std.specs.Int.{div_ceil}
use Rattle.pur_base.specs.declared.limits.TheConstants.{SLOTS_MIN, SLOTS_MAX, UNITS_MIN, UNITS_MAX, BOOT_UNITS, SEGMENT_SHARDS}
use Rattle.pur_base.specs.declared.place.Place.{Place}
use Rattle.boot_codec.specs.declared.limits.TheConstants.{DRIVE_FLAGS, NVRAM_FLAGS, MEMBER_DRIVES_MIN, MEMBER_NVRAMS_MIN, NUMBER_LIMIT, TAG_MAX, PATCHES, PATCH_SEGMENTS, FACTS_PER_SEGMENT}
use Rattle.boot_codec.specs.declared.patch.PatchSegment.{PatchSegment}
use Rattle.boot_codec.specs.declared.patch.Patch.{Patch}
use Rattle.boot_codec.specs.declared.record.Members.{Members}
use Rattle.boot_codec.specs.declared.record.NextNumbers.{NextNumbers}
use Rattle.boot_codec.specs.declared.record.BootRecord.{BootRecord}

-- from 1 up to below 2^48
abbrev pub IsNext : ℕ → Type 0
IsNext n = (1 ≤ n) × (n < NUMBER_LIMIT)

-- 2 ^ i for each i whose flag is set
abbrev pub mask : List Bool → ℕ
mask [] = 0
mask (b ∷ bs) = (if b then 1 else 0) + 2 * mask bs

-- how many flags are set
abbrev pub set_count : List Bool → ℕ
set_count flags = count_by (λ b. b) flags

-- a data unit of the shelf
pub record IsPlace (slots units : ℕ) (p : Place) : Type 0 where
  pub slot : p.slot < slots
  pub data_unit : BOOT_UNITS ≤ p.unit
  pub unit : p.unit < units

-- data units on ascending slots, the first of them at least that one
abbrev pub AscendFrom : ℕ → ℕ → ℕ → List Place → Type 0
AscendFrom slots units least [] = ⊤
AscendFrom slots units least (p ∷ ps) = (least ≤ p.slot) × IsPlace slots units p × AscendFrom slots units (p.slot + 1) ps

-- any id, and nine places on ascending slots
pub record IsSegment (slots units : ℕ) (s : PatchSegment) : Type 0 where
  pub id : s.id < 2 ^ 64
  pub nine : length s.places ≡ SEGMENT_SHARDS
  pub places : AscendFrom slots units 0 s.places

-- as many segments as the facts need
pub record IsPatch (slots units : ℕ) (p : Patch) : Type 0 where
  pub tag : p.tag ≤ TAG_MAX
  pub facts : (1 ≤ p.facts) × (p.facts < 2 ^ 32)
  pub room : length p.segments ≡ div_ceil p.facts FACTS_PER_SEGMENT
  pub segments : AllByRecursion (IsSegment slots units) p.segments

-- patches by ascending tag, the first of them at least that one
abbrev pub ByTagFrom : ℕ → List Patch → Type 0
ByTagFrom least [] = ⊤
ByTagFrom least (p ∷ ps) = (least ≤ p.tag) × ByTagFrom p.tag ps

-- the segments of all patches
abbrev pub patch_segments : List Patch → ℕ
patch_segments ps = sum_by (λ p. length p.segments) ps

-- lawful patches by ascending tag, with no more segments than there is room for
pub record ArePatches (slots units : ℕ) (ps : List Patch) : Type 0 where
  pub count : length ps ≤ PATCHES
  pub each : AllByRecursion (IsPatch slots units) ps
  pub by_tag : ByTagFrom 1 ps
  pub room : patch_segments ps ≤ PATCH_SEGMENTS

-- at least nine drives, none of them past the slots, and at least one NVRAM device
pub record AreMembers (slots : ℕ) (m : Members) : Type 0 where
  pub drive_flags : length m.drives ≡ DRIVE_FLAGS
  pub within : mask m.drives < 2 ^ slots
  pub drives : MEMBER_DRIVES_MIN ≤ set_count m.drives
  pub nvram_flags : length m.nvrams ≡ NVRAM_FLAGS
  pub nvrams : MEMBER_NVRAMS_MIN ≤ set_count m.nvrams

-- each of the five is from 1 up to below 2^48
pub record AreNext (n : NextNumbers) : Type 0 where
  pub object : IsNext n.object
  pub medium : IsNext n.medium
  pub segment : IsNext n.segment
  pub patch_segment : IsNext n.patch_segment
  pub sequence : IsNext n.sequence

-- a lawful record
pub record IsBootRecord (r : BootRecord) : Type 0 where
  pub slots : (SLOTS_MIN ≤ r.slots) × (r.slots ≤ SLOTS_MAX)
  pub units : (UNITS_MIN ≤ r.units) × (r.units ≤ UNITS_MAX)
  pub generation : IsNext r.generation
  pub members : AreMembers r.slots r.members
  pub next : AreNext r.next
  pub flushed : r.flushed < NUMBER_LIMIT
  pub patches : ArePatches r.slots r.units r.patches
