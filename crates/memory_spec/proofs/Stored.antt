-- Tables that stand on members read as the array that they hold there.
use Rattle.memory_spec.proofs.Prelude.{◌≡◌, ◌⊎◌, ℕ, ◌/◌, ◌<◌, ◌≤◌, List, [], refl, sym, arith, inl, inr, subst, Option, Some, None, Contains, slice_index_or, cases_lt, View, Facts, Reads, Entry, Array, objects, segment, Target, Stored, Zero, ObjectFact, SegmentFact, IsFact, SectorStands, StripesStand, sector_in, TargetStands, EntryStands, BaseStands, AreAddressesSound, in_patches, all_facts, one_sector, same_some, Contents, TargetReads, EntryReads, FactsRead, zip_weaker, ContentsStand, StoredTablesRead}
use Rattle.std.specs.Int.{div_ceil}
use Rattle.pur_base.specs.declared.facts.AnyFact.TheVariants as any
use Rattle.memory_spec.proofs.Standing.{said}
use Rattle.memory_spec.proofs.Lawful.{patches_lawful, segment_lawful}
use Rattle.memory_spec.proofs.Sound.{segment_id, place_reads}

-- ---- what the segments hold

stripe_below : (index placed : ℕ) → index < placed → index / 56 < div_ceil placed 56
stripe_below index placed l = omega arith

module _ (members : View) where
  placed_sector : (d : SegmentFact) → StripesStand members d.places d.placed → (index : ℕ) → (index < d.placed) ⊎ (d.placed ≤ index) → List ℕ
  placed_sector d s index (inl l) = sector_in (s (index / 56) (stripe_below index d.placed l)).0 index
  placed_sector d s index (inr past) = []

  placed_stands : (d : SegmentFact) (s : StripesStand members d.places d.placed) (index : ℕ) (c : (index < d.placed) ⊎ (d.placed ≤ index)) → index < d.placed
      → SectorStands members d.places index (placed_sector d s index c)
  unfolding placed_sector
  placed_stands d s index (inl l) below = let stripe = s (index / 56) (stripe_below index d.placed l) in (stripe.0, stripe.1, refl)
  placed_stands d s index (inr past) below = absurd (omega (arith, past, below))

  in_segment : (o : Option SegmentFact) → ((d : SegmentFact) → o ≡ Some d → StripesStand members d.places d.placed) → ℕ → List ℕ
  in_segment None s index = []
  in_segment (Some d) s index = placed_sector d (s d refl) index (cases_lt index d.placed)

  stands_in : (o : Option SegmentFact) (s : (d : SegmentFact) → o ≡ Some d → StripesStand members d.places d.placed) (index : ℕ) (d : SegmentFact) → o ≡ Some d → index < d.placed
      → SectorStands members d.places index (in_segment o s index)
  unfolding in_segment
  stands_in None s index d e below = absurd (cc e)
  stands_in (Some f) s index d e below =
      let same : f ≡ d = same_some (Some f) refl e in
      subst (λ (z : SegmentFact). SectorStands members z.places index (in_segment (Some f) s index)) same
      (placed_stands f (s f refl) index (cases_lt index f.placed) (subst (λ (z : SegmentFact). index < z.placed) (sym same) below))

  pub contents_of : (facts : Facts) → ((id : ℕ) (d : SegmentFact) → segment facts id ≡ Some d → StripesStand members d.places d.placed) → Contents
  contents_of facts s id index = in_segment (segment facts id) (s id) index

  pub contents_stand : (facts : Facts) (s : (id : ℕ) (d : SegmentFact) → segment facts id ≡ Some d → StripesStand members d.places d.placed) → ContentsStand (contents_of facts s) members facts
  unfolding contents_of
  contents_stand facts s id index d e below = stands_in (segment facts id) (s id) index d e below

-- ---- what they read as

module _ (contents : Contents) (members : View) (facts : Facts) (segments : (d : SegmentFact) → Contains facts.segments d → IsFact (any.Segment d)) (sound : AreAddressesSound facts)
    (stand : ContentsStand contents members facts) where
  target_reads : (medium place : ℕ) (target : Target) (sector : List ℕ) → Reads facts medium place target → TargetStands members facts target sector → TargetReads contents [] target sector
  target_reads medium place (Stored at) sector reads (d, is, stands) =
      let a = said facts at reads refl in
      let f = sound.there a.0 a.1 at a.2 in
      let same : d ≡ f.0 = same_some (segment facts at.segment.0) is f.1 in
      let one = one_sector members f.0.places at.index sector (contents at.segment.0 at.index) (subst (λ (z : SegmentFact). SectorStands members z.places at.index sector) same stands)
      (stand at.segment.0 at.index f.0 f.1 f.2) in
      place_reads contents at.segment.0 at.index sector (segment_id facts segments at.segment.0 f.0 f.1) one
  target_reads medium place Zero sector reads stands = stands

  entry_reads : (x : ObjectFact) (e : Entry) → EntryStands members facts x e → EntryReads contents [] facts x e
  entry_reads x e s = record {
    name = s.name;
    snapshot = s.snapshot;
    size = s.size;
    sectors = λ place l.
        let r = s.sectors place l in
        (r.0, r.1, target_reads x.medium.0 place r.0 (slice_index_or e.sectors place []) r.1 r.2);
  }

  base_reads : (next : ℕ) (base : Array) → BaseStands members facts next base → FactsRead contents [] facts next base
  base_reads next base stands = zip_weaker (EntryStands members facts) (EntryReads contents [] facts) entry_reads (objects facts next) base stands

pub stored_tables_read : StoredTablesRead
stored_tables_read shelf members boot patches base tables base_stands =
    let lawful = segment_lawful (in_patches patches) (patches_lawful members boot.patches patches tables.patches_stand) in
    let contents : Contents = contents_of members (all_facts patches) tables.data_stands in
    let stand : ContentsStand contents members (all_facts patches) = contents_stand members (all_facts patches) tables.data_stands in
    (contents, stand, base_reads contents members (all_facts patches) lawful tables.sound.addresses stand boot.next.object base base_stands)
