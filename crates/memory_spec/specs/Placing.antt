-- What placing staged sectors in new segments makes of memory.
use Rattle.std.specs.Prelude.{◌≡◌, ◌⊎◌, ◌↔◌, ℕ, ◌<◌, ◌≤◌, List, [], Some, Contains, slice_get, ◌==◌, if◌then◌else◌}
use Rattle.array_spec.specs.Prelude.{address_key, Array, segment, Location, Target, Stored, Zero, AddressFact, SegmentFact, NextNumbers, AreNext, IsFact}
use Rattle.pur_base.specs.declared.facts.AnyFact.TheVariants as any
use Rattle.pyramid.specs.Prelude.{HasNewer}
use Rattle.memory_spec.specs.Tables.{facts}
use Rattle.memory_spec.specs.Memory.{Memory, Contents, ReadsAs}

-- ---- addresses

-- the target, with a place in a segment for a staged sector
abbrev pub placed_target : (ℕ → Location) → Target → Target
placed_target place (Stored at) = if at.segment.0 == 0 then Stored (place at.index) else Stored at
placed_target place Zero = Zero

-- the fact of that target, with the same number
abbrev pub repointed : (ℕ → Location) → AddressFact → AddressFact
repointed place f = record f { target = placed_target place f.target }

-- Each new fact is an old one, repointed. Only facts that have a newer one of their key are left out.
pub record AreRepointed (place : ℕ → Location) (old new : List AddressFact) : Type 0 where
  pub source : (f : AddressFact) → Contains new f → (g : AddressFact) × Contains old g × (f ≡ repointed place g)
  pub stays : (g : AddressFact) → Contains old g → Contains new (repointed place g) ⊎ HasNewer address_key (λ f. f.seq.0) old g

-- ---- segments

-- the staged sector of an index stands at a place of one of these segments
abbrev pub IsPlacedAt : Contents → List (List ℕ) → List SegmentFact → ℕ → Location → Type 0
IsPlacedAt contents staged added index to =
    (d : SegmentFact) × Contains added d × (d.segment.0 ≡ to.segment.0) × (to.index < d.placed) × (slice_get staged index ≡ Some (contents to.segment.0 to.index))

-- segments with ids and numbers of their own that were given between these next numbers
pub record AreNewSegments (was now : NextNumbers) (added : List SegmentFact) : Type 0 where
  pub each : (d : SegmentFact) → Contains added d → IsFact (any.Segment d)
  pub ids : (d : SegmentFact) → Contains added d → (was.segment ≤ d.segment.0) × (d.segment.0 < now.segment)
  pub numbers : (d : SegmentFact) → Contains added d → (was.sequence ≤ d.seq.0) × (d.seq.0 < now.sequence)
  pub one_id : (d e : SegmentFact) → Contains added d → Contains added e → d.segment.0 ≡ e.segment.0 → d ≡ e
  pub one_number : (d e : SegmentFact) → Contains added d → Contains added e → d.seq.0 ≡ e.seq.0 → d ≡ e

-- no next number is lower
pub record AreLater (was now : NextNumbers) : Type 0 where
  pub next : AreNext now
  pub object : now.object ≡ was.object
  pub medium : now.medium ≡ was.medium
  pub segment : was.segment ≤ now.segment
  pub sequence : was.sequence ≤ now.sequence

-- ---- memory

-- Staged sectors that facts point to stand in new segments, the facts point there, and nothing is staged any more.
pub record IsPlacing (contents contents2 : Contents) (was now : Memory) (place : ℕ → Location) (added : List SegmentFact) : Type 0 where
  pub addresses : AreRepointed place (facts was.tables).addresses (facts now.tables).addresses
  pub placed : (g : AddressFact) (at : Location) → Contains (facts was.tables).addresses g → Contains (facts now.tables).addresses (repointed place g) → g.target ≡ Stored at → at.segment.0 ≡ 0
      → IsPlacedAt contents2 was.staged added at.index (place at.index)
  pub kept : (id index : ℕ) (d : SegmentFact) → segment (facts was.tables) id ≡ Some d → index < d.placed → contents2 id index ≡ contents id index
  pub segments : (d : SegmentFact) → Contains (facts now.tables).segments d ↔ (Contains (facts was.tables).segments d ⊎ Contains added d)
  pub new_segments : AreNewSegments was.next now.next added
  pub objects : (facts now.tables).objects ≡ (facts was.tables).objects
  pub mediums : (facts now.tables).mediums ≡ (facts was.tables).mediums
  pub elisions : (facts now.tables).elisions ≡ (facts was.tables).elisions
  pub staged : now.staged ≡ []
  pub next : AreLater was.next now.next

-- Memory stays sound, and reads the same.
abbrev pub PlacingReads : Type 0
PlacingReads = (contents contents2 : Contents) (was now : Memory) (place : ℕ → Location) (added : List SegmentFact) (array : Array)
    → ReadsAs contents was array → IsPlacing contents contents2 was now place added → ReadsAs contents2 now array
