-- Patches that are written.
use Rattle.std.specs.Prelude.{◌≡◌, ℕ, ◌*◌, ◌^◌, ◌<◌, ◌≤◌, Bool, List, length, map, take, drop, slice_index_or}
use Rattle.std.specs.Int.{div_ceil}
use Rattle.std.specs.List.{AllByRecursion}
use Rattle.array_spec.specs.Prelude.{Image, View, Device, AnyFact, IsPatch, FACTS_PER_SEGMENT, PATCH_SEGMENTS, Patch, IsLawful, Header, places_of_part, pages_in_part}
use Rattle.segment_codec.specs.declared.kind.SegmentKind.TheVariants as kinds
use Rattle.world.specs.Prelude.{Shelved, Stop}
use Rattle.patch_io.specs.Prelude.{AreInOrder}
use Rattle.segment_writer.specs.declared.limits.TheConstants.{STRIPE_FACTS}
use Rattle.segment_writer.specs.Layout as layout
use Rattle.segment_writer.specs.PatchFilling.{HoldsFacts}

-- ---- a patch as segments that are written together

-- the facts of a segment of the patch
abbrev pub facts_of_part : List AnyFact → ℕ → List AnyFact
facts_of_part facts part = take FACTS_PER_SEGMENT (drop (FACTS_PER_SEGMENT * part) facts)

-- the id of a segment of the patch
abbrev pub id_of_part : Patch → ℕ → ℕ
id_of_part p part = slice_index_or (map (λ s. s.id) p.segments) part 0

-- the header of a segment of the patch, with the shard 0
abbrev pub header_of_part : Patch → ℕ → ℕ → Header
header_of_part p generation part = record {
  segment = record { 0 = id_of_part p part };
  generation = generation;
  kind = kinds.Patch;
  shard = 0;
  placed = pages_in_part p.facts part;
  tag = p.tag;
  part = part;
  parts = length p.segments;
  facts = p.facts;
  places = places_of_part p part;
}

-- its segments under their headers
abbrev pub layout_of_patch : Patch → ℕ → layout.Layout
layout_of_patch p generation = record { count = length p.segments; header = header_of_part p generation }

-- how many stripes a segment has
abbrev pub stripes_of_facts : List AnyFact → ℕ → ℕ
stripes_of_facts facts part = div_ceil (length (facts_of_part facts part)) STRIPE_FACTS

-- the stripe of the segment holds its facts
abbrev pub FactsOf : List AnyFact → ℕ → ℕ → List (List ℕ) → Type 0
FactsOf facts part stripe shards = HoldsFacts (facts_of_part facts part) stripe shards

-- ---- what may be written

-- no unit stands in two segments of the patch
abbrev pub AreApart : Patch → Type 0
AreApart p = layout.AreApart (length p.segments) (places_of_part p)

-- it has as many segments as its facts fill
pub record HasItsSegments (p : Patch) : Type 0 where
  pub room : length p.segments ≡ div_ceil p.facts FACTS_PER_SEGMENT
  pub few : length p.segments ≤ PATCH_SEGMENTS

-- as many facts as the patch names, and each has a spelling
pub record MayBeSpelled (p : Patch) (facts : List AnyFact) : Type 0 where
  pub room : length p.segments ≡ div_ceil p.facts FACTS_PER_SEGMENT
  pub few : p.facts < 2 ^ 32
  pub count : length facts ≡ p.facts
  pub each : AllByRecursion IsLawful facts

-- a lawful patch on units of its own, and its facts in order
pub record MayBeStored (shelf : Shelved) (p : Patch) (facts : List AnyFact) : Type 0 where
  pub lawful : IsPatch shelf.drives shelf.units p
  pub count : length facts ≡ p.facts
  pub each : AllByRecursion IsLawful facts
  pub in_order : AreInOrder p.tag facts
  pub apart : AreApart p

-- a patch of a lawful record, on units of its own
pub record MayBeHeaded (shelf : Shelved) (p : Patch) : Type 0 where
  pub lawful : IsPatch shelf.drives shelf.units p
  pub some_tag : 1 ≤ p.tag
  pub few : length p.segments ≤ PATCH_SEGMENTS
  pub apart : AreApart p

-- ---- what is written

-- the facts of each segment stand in it, but for its lost drives
abbrev pub HoldsPatch : Image → Patch → List Bool → List AnyFact → Type 0
HoldsPatch image p lost facts = layout.HoldAll image (layout_of_patch p 0) lost (stripes_of_facts facts) (FactsOf facts)

-- it is the drive of a unit of the patch
abbrev pub IsOnPatch : Patch → Device → Type 0
IsOnPatch p device = layout.IsOnSome (length p.segments) (places_of_part p) device

-- so many write units from the n-th on, in each unit of the patch
abbrev pub OnPatch : Patch → ℕ → ℕ → Device → ℕ → Type 0
OnPatch p n count device i = layout.OnSome (length p.segments) (places_of_part p) n count device i

-- of the nine drives of each segment the view shows none that is lost, the others as they stand, and at most two are missing in it
abbrev pub ShowsMostOf : Image → Patch → List Bool → View → Type 0
ShowsMostOf image p lost view = layout.ShowsMostOfAll image (length p.segments) (places_of_part p) lost view

-- the facts stand, so do the headers, and nothing is dirty on the drives of the patch, but for lost ones
abbrev pub HasWrittenPatch : Shelved → Patch → ℕ → List Bool → List AnyFact → Type 0
HasWrittenPatch shelf p generation lost facts = layout.HasWritten shelf (layout_of_patch p generation) lost (stripes_of_facts facts) (FactsOf facts)

-- at a stop no header of the patch is there yet, or its facts stand, but for those on lost drives
abbrev pub PatchComesInTurn : Shelved → Patch → List Bool → List AnyFact → Stop → Type 0
PatchComesInTurn shelf p lost facts stop = layout.ComesInTurn shelf (layout_of_patch p 0) lost (stripes_of_facts facts) (FactsOf facts) stop
