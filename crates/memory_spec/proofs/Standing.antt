-- What memory reads of sectors that were placed stands where they stand.
use Rattle.memory_spec.proofs.Prelude.{◌≡◌, ℕ, zero, suc, ◌<◌, List, [], refl, sym, ap, ◌∙◌, arith, subst, Some, slice_index_or, slice_get_within, Geometry, View, AnyFact, BootRecord, TablesStand, Facts, Entry, Array, Reads, below, unwritten, address, segment, objects, Location, Target, Stored, Zero, ObjectFact, SegmentFact, SectorStands, TargetStands, EntryStands, BaseStands, AreSound, AreAddressesSound, all_facts, AreSomeOf, AreEnough, Contents, PlaceReads, TargetReads, EntryReads, FactsRead, zip_weaker, WrittenOn, AreAmong, WrittenDataHolds, ContentsStand, BaseIsRead, WrittenHolds}
use Rattle.array_spec.specs.Prelude.{here}

-- where a sector reads as a place in a segment, some address says so
pub said : (facts : Facts) {medium place : ℕ} {target : Target} (at : Location) → Reads facts medium place target → target ≡ Stored at → (m x : ℕ) × (address facts m x ≡ Some (Stored at))
said facts {medium = medium} {place = place} at (here a) e = (medium, place, a ∙ ap (λ t. Some t) e)
said facts at (below r a o inner) e = said facts at inner e
said facts at (unwritten a n) e = absurd cc

module _ (contents : Contents) (members : View) (facts : Facts) (sound : AreAddressesSound facts) (stand : ContentsStand contents members facts) where
  place_stands : (segment_id index : ℕ) (sector : List ℕ) (d : SegmentFact) → PlaceReads contents [] segment_id index sector → segment facts segment_id ≡ Some d → index < d.placed
      → SectorStands members d.places index sector
  place_stands zero index sector d read there within = let l : index < 0 = slice_get_within [] index sector read in absurd (omega (arith, l))
  place_stands (suc s) index sector d read there within = subst (λ z. SectorStands members d.places index z) (sym read) (stand (suc s) index d there within)

  target_stands : (medium place : ℕ) (target : Target) (sector : List ℕ) → Reads facts medium place target → TargetReads contents [] target sector → TargetStands members facts target sector
  target_stands medium place (Stored at) sector reads read =
      let a = said facts at reads refl in
      let d = sound.there a.0 a.1 at a.2 in
      (d.0, d.1, place_stands at.segment.0 at.index sector d.0 read d.1 d.2)
  target_stands medium place Zero sector reads read = read

  entry_stands : (x : ObjectFact) (e : Entry) → EntryReads contents [] facts x e → EntryStands members facts x e
  entry_stands x e r = record {
    name = r.name;
    snapshot = r.snapshot;
    size = r.size;
    sectors = λ place l.
        let s = r.sectors place l in
        (s.0, s.1, target_stands x.medium.0 place s.0 (slice_index_or e.sectors place []) s.1 s.2);
  }

pub base_is_read : BaseIsRead
base_is_read contents members facts next array sound stand read =
    zip_weaker (EntryReads contents [] facts) (EntryStands members facts) (entry_stands contents members facts sound stand) (objects facts next) array read

-- sound patches that were written on such members hold the array on them
pub holds_on : (Are : View → Type 0) (shelf : Geometry) (boot : BootRecord) (patches : List (List AnyFact)) (contents : Contents) (base : Array)
    → AreSound shelf boot patches → FactsRead contents [] (all_facts patches) boot.next.object base → WrittenOn Are shelf boot patches contents
    → (members : View) → Are members → AreEnough shelf members → TablesStand shelf members boot patches × BaseStands members (all_facts patches) boot.next.object base
holds_on Are shelf boot patches contents base sound read stands members are enough =
    let w = stands members are enough in
    (record { patches_stand = w.0; sound = sound; data_stands = w.1 }, base_is_read contents members (all_facts patches) boot.next.object base sound.addresses w.2 read)

pub written_holds : WrittenHolds
written_holds shelf image slot boot patches contents base sound read stands = record { each = holds_on (AreSomeOf slot boot image) shelf boot patches contents base sound read stands }

pub written_data_holds : WrittenDataHolds
written_data_holds shelf drives image boot patches contents base sound read stands = holds_on (AreAmong drives image) shelf boot patches contents base sound read stands
