-- Units that are taken are free: which bytes are written in them, and what is left alone.
use Rattle.array_checkpoint.proofs.Prelude.{◌≡◌, ℕ, ◌+◌, ◌*◌, ◌/◌, ◌<◌, ◌≤◌, true, false, List, [], ◌∷◌, length, sym, arith, subst, Contains, Bool, slice_index_or, AllByRecursion, Device, Drive, Nv, Place, Patch, AscendFrom, contains_at, places_of_part, STRIPES, IsFree, is_used, all_facts, facts, of_each, Shelved, geometry_of, IsDrive, AreUnitsToTake, is_member, Content, cut_in, place_of, OnUnits, IsOnPatches, OnPatches, Array, OnFree, OnUnused, IsArrayOf, IsReady}
use Rattle.array_core.proofs.Keeping.{both_not}
use Rattle.array_checkpoint.proofs.Rooms.{same_free}
use Rattle.array_checkpoint.proofs.Stays.{SparesUsed}
use Rattle.array_checkpoint.proofs.UnitLists.{in_at}

slots_below : (slots units least : ℕ) (places : List Place) → AscendFrom slots units least places → AllByRecursion (λ p. p.slot < slots) places
slots_below slots units least [] h = tt
slots_below slots units least (p ∷ places) h = (h.1.slot, slots_below slots units (p.slot + 1) places h.2)

-- sixteen write units lie in one unit
one_unit : (unit i : ℕ) → 65536 * unit + 4096 * 0 ≤ i → i < 65536 * unit + 4096 * 0 + 4096 * 16 → i / 65536 ≡ unit
one_unit unit i low high = omega (arith, low, high)

-- the bytes of write units of units that may be taken are unused,
pub unused_byte : (x : Array) (places : List Place) → AreUnitsToTake x.register.record (facts x.memory.memory.tables) places → (device : Device) (i : ℕ) → OnUnits places 0 (STRIPES + 1) device i → OnUnused x device i
unused_byte x places h device i (shard, less, (same, range)) =
    let boot = x.register.record in
    let tables = facts x.memory.memory.tables in
    let p : Place = place_of places shard in
    let c : Contains places p = in_at places shard _ (let nine = h.lawful.nine in omega (arith, nine, less)) in
    let own : i / 65536 ≡ p.unit = one_unit p.unit i range.0 range.1 in
    subst (λ d. OnUnused x d i) (sym same) (
      of_each (λ q. q.slot < boot.slots) places p (slots_below boot.slots boot.units 0 places h.lawful.ascending) c,
      of_each (λ q. is_member boot q.slot ≡ true) places p h.members c,
      subst (λ u. IsFree boot tables p.slot u) (sym own) (of_each (λ q. IsFree boot tables q.slot q.unit) places p h.free c),
    )

-- so are those of patches on such units, which are on drives,
pub patches_unused : (x : Array) (ps : List Patch) → ((p : Patch) → Contains ps p → (part : ℕ) → part < length p.segments → AreUnitsToTake x.register.record (facts x.memory.memory.tables) (places_of_part p part))
    → (device : Device) (i : ℕ) → OnPatches ps 0 (STRIPES + 1) device i → OnUnused x device i
patches_unused x ps taken device i (index, p, at, (part, less, on)) = unused_byte x (places_of_part p part) (taken p (contains_at ps index p at) part less) device i on

pub patches_on_drives : (ps : List Patch) (device : Device) → IsOnPatches ps device → IsDrive device
patches_on_drives ps device on = subst IsDrive (sym on.3.4) tt

-- where such bytes alone are written no unit is that a segment uses,
pub spares_used : (x : Array) → SparesUsed x.register.record (facts x.memory.memory.tables) (OnUnused x)
spares_used x place used at own w =
    let boot = x.register.record in
    let tables = facts x.memory.memory.tables in
    both_not (is_used boot tables place.slot place.unit) used (subst (λ u. is_used boot tables place.slot u ≡ false) own w.2.unused)

-- and they are free by the patches alone, on drives on which the record is in force
pub on_free : (shelf : Shelved) (x : Array) (held : Content) → IsArrayOf (geometry_of shelf) x → IsReady shelf x held → (device : Device) (i : ℕ) → OnUnused x device i → OnFree x.register held device i
on_free shelf x held of ready (Drive d) i w = (
  cut_in x.register.drives x.register.record.slots d.0 w.0 (subst (λ (flags : List Bool). slice_index_or flags d.0 false ≡ true) ready.is_open.drives w.1),
  subst (λ ps. IsFree x.register.record (all_facts ps) d.0 (i / 65536)) (sym ready.patches_are) (same_free x.register.record x.memory.memory.tables of.room.no_segments of.room.only_objects d.0 (i / 65536) w.2),
)
on_free shelf x held of ready (Nv n) i w = absurd w
