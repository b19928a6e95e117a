-- Memory of tables that were loaded is sound, and what is kept beside them is what they say.
use Rattle.command_spec.proofs.Prelude.{nat_tests, arith, ◌≡◌, ◌≢◌, ℕ, ◌<◌, ◌≤◌, List, [], ◌++◌, map, sym, ap, subst, ◌∙◌, inl, inr, Some, All, Contains, append-nil, IsTrue, All-contains, recursion_from_All, Geometry, object_key, segment_key, elision_key, Array, says, is_elided, is_within, Table, AddressFact, SegmentFact, ElisionFact, NextNumbers, BootRecord, AreNext, IsTarget, Layers, facts_in, facts_of, Rises, IsShown, all_contained, AreSound, all_facts, in_patches, Memory, Contents, FactsRead, IsSound, ReadsAs, facts, patches, all_of, of_all, of_each, pairs_of, object_is, in_objects, ElidedRanges, ranges_of, AreApart, Objects, Segments, AreElidedBy, IsRange, patches_in, AreLawful, AreNamed, tables_rise, all_joined, same_facts, kept_of, IsKept}
use Rattle.memory_spec.specs.Prelude.{Facts, medium_key, address_key, never, objects, ObjectFact, MediumFact, IsFact}
use Rattle.pur_base.specs.declared.request.Table.TheVariants as table
use Rattle.pur_base.specs.declared.facts.AnyFact.TheVariants as any
use Rattle.loaded_tables.specs.Prelude.{facts_in as facts_loaded}
use Rattle.loaded_tables.specs.declared.tables.LoadedTables.{LoadedTables}
use Rattle.memory_spec.proofs.Patched.{patched, patched_facts, patches_sound}
use Rattle.command_spec.specs.Loaded.{memory_of, with_room_of, HasOnly, IsLoaded, AreInSegments}
use Rattle.command_spec.proofs.SoundLemmas.{ranges_of_patches, sound_as, sound_ranges, sound_sizes}

-- ---- the facts of patches alone

only_facts : {F : Type 0} (key number : F → ℕ) (given : List (List F)) (l : Layers F) → HasOnly key number given l → facts_in l ≡ facts_of given
only_facts key number given l h = ap (λ u. facts_of l.patches ++ u) h.unflushed ∙ append-nil (facts_of l.patches) ∙ ap facts_of h.patches

module _ (boot : BootRecord) (t : LoadedTables) (m : Memory) (h : IsLoaded boot t m) where
  pub facts_same : facts m.tables ≡ facts_loaded t
  facts_same =
      let o = only_facts object_key (λ f. f.seq.0) t.objects.items m.tables.objects h.objects in
      let d = only_facts medium_key (λ f. f.seq.0) t.mediums.items m.tables.mediums h.mediums in
      let a = only_facts address_key (λ f. f.seq.0) t.addresses.items m.tables.addresses h.addresses in
      let s = only_facts segment_key (λ f. f.seq.0) t.segments.items m.tables.segments h.segments in
      let e = only_facts elision_key (λ f. f.seq.0) t.elisions.items m.tables.elisions h.elisions in
      λ i. record { objects = o i; mediums = d i; addresses = a i; segments = s i; elisions = e i }

  patches_same : patches m.tables ≡ patches_in t
  patches_same = grind (arith, nat_tests, map)

  all_same : all_facts (patches m.tables) ≡ facts m.tables
  all_same = ap all_facts patches_same ∙ same_facts t ∙ sym facts_same

-- memory that has other room is of the same tables
pub loaded_with_room : (boot : BootRecord) (t : LoadedTables) (was now : Memory) → IsLoaded boot t was → now ≡ with_room_of was now → IsLoaded boot t now
loaded_with_room boot t was now h e = grind (arith, nat_tests)

-- memory of the same parts is as sound
pub sound_with : (was now : Memory) → now.tables.objects ≡ was.tables.objects → now.tables.mediums ≡ was.tables.mediums → now.tables.addresses ≡ was.tables.addresses → now.tables.segments ≡ was.tables.segments
    → now.tables.elisions ≡ was.tables.elisions → now.staged ≡ was.staged → now.next ≡ was.next → IsSound was → IsSound now
sound_with was now o d a s e st n is = grind (arith, nat_tests, sound_as)

-- ---- it is sound

module _ (shelf : Geometry) (boot : BootRecord) (t : LoadedTables) (sound : AreSound shelf boot (patches_in t)) (lawful : AreLawful t) (next : AreNext boot.next) where
  each_lawful : All IsFact (in_patches (patches_in t))
  each_lawful = subst (λ l. All IsFact l) (sym (all_joined t)) (all_contained IsFact (all_of (facts_loaded t)) (of_all (facts_loaded t) IsFact
      (λ x c. All-contains (λ y. IsFact (any.Object y)) (facts_of t.objects.items) x lawful.objects c)
      (λ x c. All-contains (λ y. IsFact (any.Medium y)) (facts_of t.mediums.items) x lawful.mediums c)
      (λ x c. All-contains (λ y. IsFact (any.Address y)) (facts_of t.addresses.items) x lawful.addresses c)
      (λ x c. All-contains (λ y. IsFact (any.Segment y)) (facts_of t.segments.items) x lawful.segments c)
      (λ x c. All-contains (λ y. IsFact (any.Elision y)) (facts_of t.elisions.items) x lawful.elisions c)))

  stored : AreInSegments (facts_of t.addresses.items)
  stored f at c e = (subst IsTarget e (All-contains (λ x. IsFact (any.Address x)) (facts_of t.addresses.items) f lawful.addresses c).lawful.statement.1).0

  pub loaded_sound : (m : Memory) → IsLoaded boot t m → IsSound m
  loaded_sound m h =
      let same = sym (patches_same boot t m h) in
      sound_as (patched m.tables boot.next) m (sym (all_same boot t m h) ∙ patched_facts m.tables boot.next) h.staged h.next
      (patches_sound shelf boot m.tables (subst (λ ps. AreSound shelf boot ps) same sound) (subst (λ ps. All IsFact (in_patches ps)) same each_lawful) boot.next.patch_segment next)

  pub loaded_reads : (m : Memory) → IsLoaded boot t m → (contents : Contents) (base : Array) → FactsRead contents [] (all_facts (patches m.tables)) m.next.object base → ReadsAs contents m base
  loaded_reads m h contents base read = record {
    sound = loaded_sound m h;
    reads = rw h.staged (subst (λ f. FactsRead contents [] f m.next.object base) (all_same boot t m h) read);
  }

  pub loaded_stored : (m : Memory) → IsLoaded boot t m → AreInSegments (facts m.tables).addresses
  loaded_stored m h = subst (λ (f : Facts). AreInSegments f.addresses) (sym (facts_same boot t m h)) stored

-- ---- what is kept beside sound facts

module _ (el : ElidedRanges) (e : Layers ElisionFact) (flushed : e.unflushed ≡ []) (by : AreElidedBy (facts_of e.patches) el) where
  same_id : (x : Table) (id : ℕ) → is_elided (facts_in e) x id ≡ is_within (ranges_of el x) id
  same_id x id = ap (λ l. is_elided l x id) (ap (λ u. facts_of e.patches ++ u) flushed ∙ append-nil (facts_of e.patches)) ∙ by.ids x id

  same_test : (x : Table) → is_elided (facts_in e) x ≡ is_within (ranges_of el x)
  same_test x = λ i id. same_id x id i

  pub kept_of_sound : (o : Objects) (d : Layers MediumFact) (a : Layers AddressFact) (s : Segments) (st : List (List ℕ)) (r : ℕ) (n : NextNumbers)
      → IsSound (kept_of o d a s e el st r n).memory → ((x : Table) → AreApart (ranges_of el x))
      → IsShown object_key (λ f. f.seq.0) never (facts_in o.facts) (is_within (ranges_of el table.Object)) o.visible
      → IsShown segment_key (λ f. f.seq.0) never (facts_in s.facts) (is_within (ranges_of el table.Segment)) s.visible
      → IsKept (kept_of o d a s e el st r n)
  kept_of_sound o d a s st r n is apart shown_objects shown_segments = record {
    objects = subst (λ test. IsShown object_key (λ f. f.seq.0) never (facts_in o.facts) test o.visible) (sym (same_test table.Object)) shown_objects;
    segments = subst (λ test. IsShown segment_key (λ f. f.seq.0) never (facts_in s.facts) test s.visible) (sym (same_test table.Segment)) shown_segments;
    elided = λ x not_elisions. record {
      same = λ id. (subst (λ b. IsTrue b) (same_id x id), subst (λ b. IsTrue b) (sym (same_id x id)));
      whole = recursion_from_All (λ r. r.0 ≤ r.1) (ranges_of el x) (apart x).whole;
      apart = (apart x).apart;
    };
    next = is.next;
    ids = is.ids;
    numbers = is.numbers;
    sizes = sound_sizes (kept_of o d a s e el st r n).memory is;
    ranges = sound_ranges (kept_of o d a s e el st r n).memory is;
  }

  -- objects that sound facts say have names of their own
  pub own_names : (o : Layers ObjectFact) (d : Layers MediumFact) (a : Layers AddressFact) (s : Layers SegmentFact) (n : NextNumbers) → IsSound (memory_of o d a s e n)
      → (x y : ObjectFact) → says object_key (λ f. f.seq.0) never (facts_in o) (is_within (ranges_of el table.Object)) (object_key x) ≡ Some x
      → says object_key (λ f. f.seq.0) never (facts_in o) (is_within (ranges_of el table.Object)) (object_key y) ≡ Some y → x.name ≡ y.name → x ≡ y
  own_names o d a s n is x y p q same = elim (pairs_of (λ v w. v.name ≢ w.name) (objects (facts (memory_of o d a s e n).tables) n.object) x y is.objects.names (visible x p) (visible y q)) [
    | inl one ↦ one
    | inr either ↦ elim either [ inl differ ↦ absurd (differ same) | inr differ ↦ absurd (differ (sym same)) ]
  ]
    where
      visible : (z : ObjectFact) → says object_key (λ f. f.seq.0) never (facts_in o) (is_within (ranges_of el table.Object)) (object_key z) ≡ Some z
          → Contains (objects (facts (memory_of o d a s e n).tables) n.object) z
      visible z said_within =
          let said = subst (λ test. says object_key (λ f. f.seq.0) never (facts_in o) test (object_key z) ≡ Some z) (sym (same_test table.Object)) said_within in
          let found = object_is (facts (memory_of o d a s e n).tables) z.object.0 z said in
          in_objects (facts (memory_of o d a s e n).tables) n.object z.object.0 z said
          (of_each (λ (f : ObjectFact). (f.object.0 < n.object) × (f.medium.0 < n.medium)) (facts_in o) z is.ids.objects found.0).0

-- so elisions of the patches are of ranges
pub loaded_ranges : (o : Layers ObjectFact) (d : Layers MediumFact) (a : Layers AddressFact) (s : Layers SegmentFact) (e : Layers ElisionFact) (n : NextNumbers) → IsSound (memory_of o d a s e n)
    → All IsRange (facts_of e.patches)
loaded_ranges o d a s e n is = ranges_of_patches e (sound_ranges (memory_of o d a s e n) is)

-- ---- what loading asks

module _ (shelf : Geometry) (boot : BootRecord) (t : LoadedTables) (sound : AreSound shelf boot (patches_in t)) where
  module _ (named : AreNamed boot t) where
    pub objects_rise : Rises (λ (f : ObjectFact). f.seq.0) t.objects.items []
    objects_rise = (tables_rise boot t named sound.sequences.rising).objects

    pub mediums_rise : Rises (λ (f : MediumFact). f.seq.0) t.mediums.items []
    mediums_rise = (tables_rise boot t named sound.sequences.rising).mediums

    pub addresses_rise : Rises (λ (f : AddressFact). f.seq.0) t.addresses.items []
    addresses_rise = (tables_rise boot t named sound.sequences.rising).addresses

    pub segments_rise : Rises (λ (f : SegmentFact). f.seq.0) t.segments.items []
    segments_rise = (tables_rise boot t named sound.sequences.rising).segments

    pub elisions_rise : Rises (λ (f : ElisionFact). f.seq.0) t.elisions.items []
    elisions_rise = (tables_rise boot t named sound.sequences.rising).elisions
