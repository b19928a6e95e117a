-- What a checkpoint plans of memory, and the memory that it makes.
use Rattle.std.specs.Prelude.{◌≡◌, ℕ, ◌+◌, ◌<◌, ◌≤◌, false, List, [], ◌++◌, length, map, Contains, Option, slice_index_or}
use Rattle.std.specs.List.{AllByRecursion}
use Rattle.std.specs.Int.{div_ceil}
use Rattle.memory_spec.specs.Prelude.{object_key, medium_key, address_key, segment_key, elision_key, SEGMENT_SECTORS, SEGMENT_SHARDS, Place, AddressFact, NextNumbers, NUMBER_LIMIT, Layers, AreBelow, IsFlushed, facts_of, patch_facts, patches_of, Memory, IsSound, Tables, IsEliding, AreLayered, repointed}
use Rattle.pur_base.specs.Prelude.{FitsBytes}
use Rattle.table_plan.specs.Prelude.{flagged_from, is_named, place_in, places_from, AreStored, segments_from}
use Rattle.array_memory.specs.declared.plan.Placing.{Placing}
use Rattle.array_memory.specs.declared.plan.Plan.{Plan}
use Rattle.array_memory.specs.declared.plan.Counts.{Counts}
use Rattle.command_spec.specs.declared.limits.TheConstants.{LOG_ROOM}
use Rattle.array_memory.specs.Eliding.{eliding_by, IsElidingOf}
use Rattle.command_spec.specs.Prelude.{Kept}

-- ---- what is placed

-- of each address the newest unflushed fact, and the staged sectors that these facts name
pub record IsPlacingOf (m : Memory) (p : Placing) : Type 0 where
  pub made : IsFlushed address_key (λ f. f.seq.0) m.tables.addresses.unflushed (patch_facts p.newest)
  pub count : length p.flags.items ≡ length m.staged
  pub named : (i : ℕ) → i < length m.staged → slice_index_or p.flags.items i false ≡ is_named (patch_facts p.newest) i
  pub order : p.order.items ≡ flagged_from 0 p.flags.items

-- the newest addresses, where the sectors that they name are placed
abbrev pub placed_addresses : Memory → Placing → List AddressFact
placed_addresses m p = map (repointed (place_in (places_from m.next.segment 0 p.flags.items))) (patch_facts p.newest)

-- ---- what is planned

-- the units of the new segments
abbrev pub units_of : Plan → List (List Place)
units_of p = map (λ d. d.places) p.segments.items

-- so many are left of the ids and numbers that may be given
abbrev pub AreLeftFor : NextNumbers → ℕ → Type 0
AreLeftFor next count = (next.segment + count < NUMBER_LIMIT) × (next.sequence + count < NUMBER_LIMIT)

-- the next numbers after so many new segments
abbrev pub next_past : NextNumbers → ℕ → NextNumbers
next_past next count = record next { segment = next.segment + count; sequence = next.sequence + count }

-- and where ids of segments of patches were given, up to that one
abbrev pub next_with : NextNumbers → ℕ → ℕ → NextNumbers
next_with next count patch_segment = record next { segment = next.segment + count; sequence = next.sequence + count; patch_segment = patch_segment }

-- units that a fact may name
abbrev pub AreUnits : List (List Place) → Type 0
AreUnits units = (u : List Place) → Contains units u → (length u ≡ SEGMENT_SHARDS) × AllByRecursion FitsBytes u

-- the tables, but for elisions that aren't flushed: in what order these stand doesn't count
abbrev pub without_elisions : Tables → Tables
without_elisions t = record t { elisions = record t.elisions { unflushed = [] } }

-- The plan is of this memory, which is sound: of each table the newest unflushed facts, with sectors placed in segments of its own. It may give ids to segments of the new patches.
pub record IsPlanFor (m : Memory) (p : Plan) : Type 0 where
  pub sound : IsSound m
  pub stored : AreStored (facts_of m.tables.addresses.patches)
  pub layered : AreLayered (without_elisions m.tables)
  pub elisions_rise : AreBelow (λ f. f.seq.0) (facts_of m.tables.elisions.patches) m.tables.elisions.unflushed
  pub placing : IsPlacingOf m p.placing
  pub wanted : div_ceil (length p.placing.order.items) SEGMENT_SECTORS ≡ length p.segments.items
  pub segments : p.segments.items ≡ segments_from m.next.segment m.next.sequence (length p.placing.order.items) (units_of p)
  pub units : AreUnits (units_of p)
  pub left : AreLeftFor m.next (length p.segments.items)
  pub objects : IsFlushed object_key (λ f. f.seq.0) m.tables.objects.unflushed (patch_facts p.objects)
  pub mediums : IsFlushed medium_key (λ f. f.seq.0) m.tables.mediums.unflushed (patch_facts p.mediums)
  pub addresses : patch_facts p.addresses ≡ placed_addresses m p.placing
  pub segment_facts : IsFlushed segment_key (λ f. f.seq.0) (m.tables.segments.unflushed ++ p.segments.items) (patch_facts p.segment_facts)
  pub elisions : IsFlushed elision_key (λ f. f.seq.0) m.tables.elisions.unflushed (patch_facts p.elisions)
  pub next : p.next ≡ next_with m.next (length p.segments.items) p.next.patch_segment
  pub patch_segments : (m.next.patch_segment ≤ p.next.patch_segment) × (p.next.patch_segment < NUMBER_LIMIT)

-- there is room for a patch more of each table, for so many more visible segments, and for the names of a whole log
pub record HasRoomForPatches (k : Kept) (count : ℕ) : Type 0 where
  pub objects : 0 < k.memory.tables.objects.patch_room
  pub mediums : 0 < k.memory.tables.mediums.patch_room
  pub addresses : 0 < k.memory.tables.addresses.patch_room
  pub segments : 0 < k.memory.tables.segments.patch_room
  pub elisions : 0 < k.memory.tables.elisions.patch_room
  pub visible : count ≤ k.segment_room
  pub names : LOG_ROOM.names ≤ k.name_room

-- the plan is one of this memory once what it elides is elided, and there is room for it
pub record IsPlanOf (k : Kept) (p : Plan) : Type 0 where
  pub eliding : IsElidingOf k p.eliding
  pub keeps : IsEliding k.memory (eliding_by k.memory p.eliding) p.eliding.facts.items
  pub plan : IsPlanFor (eliding_by k.memory p.eliding) p
  pub room : HasRoomForPatches k (length p.segments.items)

-- the counts are those of the plan's patches
pub record AreCounts (p : Plan) (counts : Counts) : Type 0 where
  pub objects : counts.objects ≡ length (patch_facts p.objects)
  pub mediums : counts.mediums ≡ length (patch_facts p.mediums)
  pub addresses : counts.addresses ≡ length (patch_facts p.addresses)
  pub segments : counts.segments ≡ length (patch_facts p.segment_facts)
  pub elisions : counts.elisions ≡ length (patch_facts p.elisions)

-- ---- what it makes

-- a table with one patch more, if there is one, and nothing unflushed
abbrev pub flushed_with : {F : Type 0} → Layers F → Option (List F) → Layers F
flushed_with l patch = record { patches = l.patches ++ patches_of patch; unflushed = []; room = 0; patch_room = 0 }

-- memory as it will be, but for room
abbrev pub after_plan : Memory → Plan → Memory
after_plan m p = record {
  tables = record {
    objects = flushed_with m.tables.objects p.objects;
    mediums = flushed_with m.tables.mediums p.mediums;
    addresses = flushed_with m.tables.addresses p.addresses;
    segments = flushed_with m.tables.segments p.segment_facts;
    elisions = flushed_with m.tables.elisions p.elisions;
  };
  staged = [];
  next = p.next;
}

-- the same layers, but for room
pub record HasSameLayers {F : Type 0} (was now : Layers F) : Type 0 where
  pub patches : now.patches ≡ was.patches
  pub unflushed : now.unflushed ≡ was.unflushed

-- the same memory, but for room
pub record IsSameMemory (was now : Memory) : Type 0 where
  pub objects : HasSameLayers was.tables.objects now.tables.objects
  pub mediums : HasSameLayers was.tables.mediums now.tables.mediums
  pub addresses : HasSameLayers was.tables.addresses now.tables.addresses
  pub segments : HasSameLayers was.tables.segments now.tables.segments
  pub elisions : HasSameLayers was.tables.elisions now.tables.elisions
  pub staged : now.staged ≡ was.staged
  pub next : now.next ≡ was.next

-- ---- room

-- the same but for room for patches, for visible segments and for names
abbrev pub with_patch_rooms : Kept → Kept → Kept
with_patch_rooms was now = record was {
  memory = record was.memory {
    tables = record was.memory.tables {
      objects = record was.memory.tables.objects { patch_room = now.memory.tables.objects.patch_room };
      mediums = record was.memory.tables.mediums { patch_room = now.memory.tables.mediums.patch_room };
      addresses = record was.memory.tables.addresses { patch_room = now.memory.tables.addresses.patch_room };
      segments = record was.memory.tables.segments { patch_room = now.memory.tables.segments.patch_room };
      elisions = record was.memory.tables.elisions { patch_room = now.memory.tables.elisions.patch_room };
    };
  };
  name_room = now.name_room;
  segment_room = now.segment_room;
}

-- at least as much of it
pub record HasNoLessPatchRoom (was now : Kept) : Type 0 where
  pub objects : was.memory.tables.objects.patch_room ≤ now.memory.tables.objects.patch_room
  pub mediums : was.memory.tables.mediums.patch_room ≤ now.memory.tables.mediums.patch_room
  pub addresses : was.memory.tables.addresses.patch_room ≤ now.memory.tables.addresses.patch_room
  pub segments : was.memory.tables.segments.patch_room ≤ now.memory.tables.segments.patch_room
  pub elisions : was.memory.tables.elisions.patch_room ≤ now.memory.tables.elisions.patch_room
  pub visible : was.segment_room ≤ now.segment_room
  pub names : was.name_room ≤ now.name_room

-- what was taken up is room again
pub record HasRoomAgain (was now : Kept) : Type 0 where
  pub objects : now.memory.tables.objects.room ≡ was.memory.tables.objects.room + length was.memory.tables.objects.unflushed
  pub mediums : now.memory.tables.mediums.room ≡ was.memory.tables.mediums.room + length was.memory.tables.mediums.unflushed
  pub addresses : now.memory.tables.addresses.room ≡ was.memory.tables.addresses.room + length was.memory.tables.addresses.unflushed
  pub segments : now.memory.tables.segments.room ≡ was.memory.tables.segments.room + length was.memory.tables.segments.unflushed
  pub elisions : now.memory.tables.elisions.room ≡ was.memory.tables.elisions.room + length was.memory.tables.elisions.unflushed
  pub names : now.name_room ≡ was.name_room
  pub staged : now.staged_room ≡ was.staged_room + length was.memory.staged
