-- Memory after a checkpoint that elides nothing, told by the lists that it is made of.
use Rattle.std.specs.Prelude.{◌≡◌, ℕ, ◌+◌, ◌-◌, ◌*◌, ◌<◌, ◌≤◌, Bool, false, List, [], ◌++◌, length, map, Contains, slice_index_or, nat_lt, if◌then◌else◌}
use Rattle.std.specs.List.{AllByRecursion}
use Rattle.std.specs.Int.{div_ceil}
use Rattle.memory_spec.specs.Prelude.{object_key, medium_key, address_key, segment_key, elision_key, Array, SEGMENT_SECTORS, SEGMENT_SHARDS, Place, Location, Stored, AddressFact, ElisionFact, NUMBER_LIMIT, IsFlushed, facts_of, Memory, Contents, ReadsAs, AreLayered, IsTableFlushed, repointed, IsEliding, IsCheckpointed}
use Rattle.pur_base.specs.Prelude.{FitsBytes}
use Rattle.table_plan.specs.Places.{is_named, flagged_from, places_from, place_in}
use Rattle.table_plan.specs.Segments.{segments_from}
use Rattle.table_plan.specs.Eliding.{eliding}

-- the sectors of these indices
abbrev pub sectors_at : List ℕ → List (List ℕ) → List (List ℕ)
sectors_at order staged = map (λ i. slice_index_or staged i []) order

-- the contents of segments, with these sectors in those from an id on
abbrev pub extended : Contents → ℕ → List (List ℕ) → Contents
extended contents first sectors segment index = if nat_lt segment first then contents segment index else slice_index_or sectors (SEGMENT_SECTORS * (segment - first) + index) []

-- none of the facts names a staged sector
abbrev pub AreStored : List AddressFact → Type 0
AreStored facts = (f : AddressFact) (at : Location) → Contains facts f → f.target ≡ Stored at → 1 ≤ at.segment.0

-- Of the address facts that aren't flushed the newest stand in a patch, repointed to the places of the staged sectors that they name;
-- the new segments are flushed with the others, and so is each other table. Ids may have been given to segments of the new patches.
pub record IsPlanned (was now : Memory) (flags : List Bool) (newest : List AddressFact) (units : List (List Place)) : Type 0 where
  pub made : IsFlushed address_key (λ f. f.seq.0) was.tables.addresses.unflushed newest
  pub count : length flags ≡ length was.staged
  pub named : (i : ℕ) → i < length was.staged → slice_index_or flags i false ≡ is_named newest i
  pub wanted : div_ceil (length (flagged_from 0 flags)) SEGMENT_SECTORS ≡ length units
  pub places : (u : List Place) → Contains units u → (length u ≡ SEGMENT_SHARDS) × AllByRecursion FitsBytes u
  pub left : (was.next.segment + length units < NUMBER_LIMIT) × (was.next.sequence + length units < NUMBER_LIMIT)
  pub addresses : IsTableFlushed address_key (λ f. f.seq.0) (record was.tables.addresses { unflushed = map (repointed (place_in (places_from was.next.segment 0 flags))) newest }) now.tables.addresses
  pub segments : IsTableFlushed segment_key (λ f. f.seq.0)
      (record was.tables.segments { unflushed = was.tables.segments.unflushed ++ segments_from was.next.segment was.next.sequence (length (flagged_from 0 flags)) units }) now.tables.segments
  pub objects : IsTableFlushed object_key (λ f. f.seq.0) was.tables.objects now.tables.objects
  pub mediums : IsTableFlushed medium_key (λ f. f.seq.0) was.tables.mediums now.tables.mediums
  pub elisions : IsTableFlushed elision_key (λ f. f.seq.0) was.tables.elisions now.tables.elisions
  pub staged : now.staged ≡ []
  pub next : now.next ≡ record was.next { segment = was.next.segment + length units; sequence = was.next.sequence + length units; patch_segment = now.next.patch_segment }
  pub patch_segments : (was.next.patch_segment ≤ now.next.patch_segment) × (now.next.patch_segment < NUMBER_LIMIT)
  pub layered : AreLayered now.tables

-- That is a checkpoint: the placed sectors stand in the new segments, in order of staging.
abbrev pub PlannedIsCheckpointed : Type 0
PlannedIsCheckpointed = (contents : Contents) (was now : Memory) (flags : List Bool) (newest : List AddressFact) (units : List (List Place)) (array : Array)
    → ReadsAs contents was array → AreStored (facts_of was.tables.addresses.patches) → IsPlanned was now flags newest units
    → IsCheckpointed contents (extended contents was.next.segment (sectors_at (flagged_from 0 flags) was.staged)) was now × AreStored (facts_of now.tables.addresses.patches)

-- So it is where elisions of what nothing reaches come first: the plan is one of the memory that has them.
abbrev pub ElidedIsCheckpointed : Type 0
ElidedIsCheckpointed = (contents : Contents) (was now : Memory) (added : List ElisionFact) (flags : List Bool) (newest : List AddressFact) (units : List (List Place)) (array : Array)
    → ReadsAs contents was array → AreStored (facts_of was.tables.addresses.patches) → IsEliding was (eliding was added) added → IsPlanned (eliding was added) now flags newest units
    → IsCheckpointed contents (extended contents was.next.segment (sectors_at (flagged_from 0 flags) was.staged)) was now × AreStored (facts_of now.tables.addresses.patches)
