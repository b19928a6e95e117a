-- Sound tables read as an array, whatever segments hold.
use Rattle.memory_spec.proofs.Prelude.{◌≡◌, ℕ, zero, suc, ◌≤◌, List, [], ◌∷◌, refl, sym, arith, subst, map, Some, Contains, AllZip, range_with_len, Facts, segment_key, never, key_of, Reads, Entry, Array, filled, objects, segment, is_elided, Target, Stored, Zero, ObjectFact, MediumFact, SegmentFact, says_is, IsFact, is_snapshot, AreAddressesSound, in_patches, all_facts, Contents, PlaceReads, TargetReads, SectorReads, EntryReads, each_by_recursion, SoundTablesRead}
use Rattle.std.proofs.lemmas.List.FromFn.{get_or-map-range_with_len, length-map-range_with_len}
use Rattle.pur_base.specs.declared.request.Table.TheVariants as table
use Rattle.pur_base.specs.declared.facts.AnyFact.TheVariants as any
use Rattle.memory_spec.proofs.Standing.{said}
use Rattle.memory_spec.proofs.Descent.{reads_some}
use Rattle.memory_spec.proofs.Lawful.{medium_lawful, segment_lawful}

-- ids of visible segments begin at 1
pub segment_id : (facts : Facts) (lawful : (d : SegmentFact) → Contains facts.segments d → IsFact (any.Segment d)) (id : ℕ) (d : SegmentFact) → segment facts id ≡ Some d → 1 ≤ id
segment_id facts lawful id d e =
    let w = says_is segment_key (λ f. f.seq.0) never (λ f. IsFact (any.Segment f)) facts.segments (is_elided facts.elisions table.Segment) (key_of id 0) d
    (each_by_recursion (λ f. IsFact (any.Segment f)) facts.segments lawful) e in
    omega (arith, w.1, w.0.lawful.id.0)

-- so a place in one reads as what it holds
pub place_reads : (contents : Contents) (id index : ℕ) (sector : List ℕ) → 1 ≤ id → sector ≡ contents id index → PlaceReads contents [] id index sector
place_reads contents zero index sector l e = absurd (omega (arith, l))
place_reads contents (suc s) index sector l e = e

module _ (contents : Contents) (facts : Facts) (mediums : (f : MediumFact) → Contains facts.mediums f → IsFact (any.Medium f))
    (segments : (d : SegmentFact) → Contains facts.segments d → IsFact (any.Segment d)) (sound : AreAddressesSound facts) where
  target_reads : (medium place : ℕ) (target : Target) → Reads facts medium place target → (sector : List ℕ) × TargetReads contents [] target sector
  target_reads medium place (Stored at) reads =
      let a = said facts at reads refl in
      let d = sound.there a.0 a.1 at a.2 in
      (contents at.segment.0 at.index, place_reads contents at.segment.0 at.index (contents at.segment.0 at.index) (segment_id facts segments at.segment.0 d.0 d.1) refl)
  target_reads medium place Zero reads = (filled 0, refl)

  sector_reads : (medium place : ℕ) → (sector : List ℕ) × SectorReads contents [] facts medium place sector
  sector_reads medium place =
      let r = reads_some facts mediums medium place in
      let t = target_reads medium place r.0 r.1 in
      (t.0, (r.0, r.1, t.1))

  sector_at : ℕ → ℕ → List ℕ
  sector_at medium place = (sector_reads medium place).0

  entry_of : ObjectFact → Entry
  entry_of x = record { name = x.name; snapshot = is_snapshot x.kind; sectors = map (sector_at x.medium.0) (range_with_len 0 x.sectors) }

  entry_reads : (x : ObjectFact) → EntryReads contents [] facts x (entry_of x)
  unfolding sector_at entry_of
  entry_reads x = record {
    name = refl;
    snapshot = refl;
    size = length-map-range_with_len (sector_at x.medium.0) 0 x.sectors;
    sectors = λ place l. subst (λ s. SectorReads contents [] facts x.medium.0 place s) (sym (get_or-map-range_with_len (sector_at x.medium.0) 0 x.sectors place place [] l (omega arith)))
        (sector_reads x.medium.0 place).1;
  }

  entries_read : (xs : List ObjectFact) → (es : Array) × AllZip (EntryReads contents [] facts) xs es
  entries_read [] = ([], tt)
  entries_read (x ∷ xs) = let rest = entries_read xs in (entry_of x ∷ rest.0, (entry_reads x, rest.1))

pub sound_tables_read : SoundTablesRead
sound_tables_read shelf boot patches contents sound lawful =
    entries_read contents (all_facts patches) (medium_lawful (in_patches patches) lawful) (segment_lawful (in_patches patches) lawful) sound.addresses
    (objects (all_facts patches) boot.next.object)
