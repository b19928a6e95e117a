-- Memory stays sound, and reads the same, when what nothing reaches is elided.
use Rattle.memory_spec.proofs.Prelude.{nat_tests, ◌≡◌, ◌⊎◌, ℕ, ◌+◌, ◌-◌, ◌<◌, ◌≤◌, true, List, length, refl, sym, ap, ◌∙◌, arith, inl, inr, subst, Option, Some, None, option_map, is_some, Contains, any_number, medium_key, address_key, segment_key, never, is_empty_range, key_of, id_of, Array, Entry, says, Reads, below, unwritten, IsOver, objects, object, range, address, segment, is_elided, OBJECT_SECTORS, Location, Target, Stored, ObjectFact, MediumFact, AddressFact, SegmentFact, ElisionFact, AnyFact, NextNumbers, AreNext, AreObjectsSound, AreMediumsSound, id_of_key, facts, all_of, Memory, Contents, EntryReads, FactsRead, FitsInMemory, IsThere, IsSound, zip_weaker_in, same_objects, numbered_more, IsIdBelow, IsNoLower, as_it_was, old_or_added, fit_more, ids_more, objects_as, some_since}
use Rattle.array_spec.specs.Prelude.{here}
use Rattle.pur_base.specs.declared.request.Table.TheVariants as table
use Rattle.pur_base.specs.declared.facts.AnyFact.TheVariants as any
use Rattle.memory_spec.proofs.Putting.{within_size}
use Rattle.memory_spec.specs.Eliding.{IsReached, of_object, of_range, IsEliding, ElidingReads}
use Rattle.memory_spec.specs.lemmas.Elided.{not_before, as_before, same_where, said_before, says_where}

module _ (contents : Contents) (was now : Memory) (added : List ElisionFact) (array : Array) (s : IsSound was) (h : IsEliding was now added) where
  objects_elided : (id : ℕ) → is_elided (facts now.tables).elisions table.Object id ≡ is_elided (facts was.tables).elisions table.Object id
  objects_elided id = as_before (facts was.tables).elisions (facts now.tables).elisions added h.elisions table.Object id h.no_object

  mediums_elided : (id : ℕ) → IsReached (facts was.tables) was.next.object id → is_elided (facts now.tables).elisions table.Medium id ≡ is_elided (facts was.tables).elisions table.Medium id
  mediums_elided id reached = same_where (facts was.tables).elisions (facts now.tables).elisions added h.elisions table.Medium id (IsReached (facts was.tables) was.next.object id) (h.mediums_unreached id) reached

  addresses_elided : (id : ℕ) → IsReached (facts was.tables) was.next.object id → is_elided (facts now.tables).elisions table.Address id ≡ is_elided (facts was.tables).elisions table.Address id
  addresses_elided id reached = same_where (facts was.tables).elisions (facts now.tables).elisions added h.elisions table.Address id (IsReached (facts was.tables) was.next.object id) (h.addresses_unreached id) reached

  -- ---- what is said

  object_same : (id : ℕ) → object (facts now.tables) id ≡ object (facts was.tables) id
  object_same id = grind (arith, nat_tests, says, facts, says_where, objects_elided)

  range_same : (m start : ℕ) → start < OBJECT_SECTORS → IsReached (facts was.tables) was.next.object m → range (facts now.tables) m start ≡ range (facts was.tables) m start
  range_same m start small reached = grind (arith, nat_tests, id_of_key, says, facts, says_where, mediums_elided)

  address_same : (m x : ℕ) → x < OBJECT_SECTORS → IsReached (facts was.tables) was.next.object m → address (facts now.tables) m x ≡ address (facts was.tables) m x
  address_same m x small reached = grind (arith, nat_tests, id_of_key, option_map, says, facts, says_where, addresses_elided)

  -- what is still said was said
  range_before : (m start : ℕ) (q : MediumFact) → range (facts now.tables) m start ≡ Some q → range (facts was.tables) m start ≡ Some q
  range_before m start q e = said_before medium_key (λ f. f.seq.0) is_empty_range (facts was.tables).mediums (is_elided (facts was.tables).elisions table.Medium) (is_elided (facts now.tables).elisions table.Medium) (key_of m start) q
      (not_before (facts was.tables).elisions (facts now.tables).elisions added h.elisions table.Medium (id_of (key_of m start)))
      (subst (λ l. says medium_key (λ f. f.seq.0) is_empty_range l (is_elided (facts now.tables).elisions table.Medium) (key_of m start) ≡ Some q) h.mediums e)

  address_before : (m x : ℕ) (t : Target) → address (facts now.tables) m x ≡ Some t → address (facts was.tables) m x ≡ Some t
  address_before m x t e = one (says address_key (λ f. f.seq.0) never (facts now.tables).addresses (is_elided (facts now.tables).elisions table.Address) (key_of m x)) refl e
    where
      one : (o : Option AddressFact) → says address_key (λ f. f.seq.0) never (facts now.tables).addresses (is_elided (facts now.tables).elisions table.Address) (key_of m x) ≡ o
          → option_map (λ f. f.target) o ≡ Some t → address (facts was.tables) m x ≡ Some t
      one None is said = cc
      one (Some g) is said = ap (λ o. option_map (λ (f : AddressFact). f.target) o)
          (said_before address_key (λ f. f.seq.0) never (facts was.tables).addresses (is_elided (facts was.tables).elisions table.Address) (is_elided (facts now.tables).elisions table.Address) (key_of m x) g
          (not_before (facts was.tables).elisions (facts now.tables).elisions added h.elisions table.Address (id_of (key_of m x)))
          (subst (λ l. says address_key (λ f. f.seq.0) never l (is_elided (facts now.tables).elisions table.Address) (key_of m x) ≡ Some g) h.addresses is)) ∙ said

  over_before : (m x : ℕ) (q : MediumFact) → IsOver (facts now.tables) m x q → IsOver (facts was.tables) m x q
  over_before m x q o = record { there = range_before m q.start q o.there; from_start = o.from_start; below_end = o.below_end }

  -- ---- reading

  reads_kept : (m x : ℕ) (t : Target) → Reads (facts was.tables) m x t → x < OBJECT_SECTORS → IsReached (facts was.tables) was.next.object m → Reads (facts now.tables) m x t
  reads_kept m x t (here a) small reached = here (address_same m x small reached ∙ a)
  reads_kept m x t (below q a o inner) small reached =
      below q (address_same m x small reached ∙ a)
      (record { there = range_same m q.start (let low = o.from_start in omega (arith, low, small)) reached ∙ o.there; from_start = o.from_start; below_end = o.below_end })
      (reads_kept q.target.0 (q.target_start + (x - q.start)) t inner
      (let most = (within_size was s).ranges m q.start q o.there in let low = o.from_start in let high = o.below_end in omega (arith, most, low, high)) (of_range reached o.there))
  reads_kept m x t (unwritten a n) small reached = unwritten (address_same m x small reached ∙ a) (λ q o. n q (over_before m x q o))

  entry_kept : (x : ObjectFact) (e : Entry) → Contains (objects (facts was.tables) was.next.object) x → EntryReads contents was.staged (facts was.tables) x e → EntryReads contents was.staged (facts now.tables) x e
  entry_kept x e c read = record {
    name = read.name;
    snapshot = read.snapshot;
    size = read.size;
    sectors = λ place l.
        let sector = read.sectors place l in
        let most = (within_size was s).objects x c in
        (sector.0, reads_kept x.medium.0 place sector.0 sector.1 (omega (arith, l, most)) (of_object c), sector.2);
  }

  visible : objects (facts now.tables) was.next.object ≡ objects (facts was.tables) was.next.object
  visible = same_objects (facts was.tables) (facts now.tables) object_same was.next.object

  objects_next : now.next.object ≡ was.next.object
  objects_next = ap (λ (n : NextNumbers). n.object) h.next

  pub eliding_read : FactsRead contents was.staged (facts was.tables) was.next.object array → FactsRead contents now.staged (facts now.tables) now.next.object array
  eliding_read r =
      rw (h.staged, objects_next, visible) (zip_weaker_in (EntryReads contents was.staged (facts was.tables)) (EntryReads contents was.staged (facts now.tables)) (objects (facts was.tables) was.next.object) array entry_kept r)

  -- ---- soundness, part by part

  sound_objects : AreObjectsSound (facts now.tables) was.next.object
  sound_objects = objects_as (facts was.tables) (facts now.tables) was.next.object visible (λ x c. mediums_elided x.medium.0 (of_object c)) (λ x c. addresses_elided x.medium.0 (of_object c)) s.objects

  sound_mediums : AreMediumsSound (facts now.tables)
  sound_mediums = record {
    disjoint = λ m x p q o o2. s.mediums.disjoint m x p q (over_before m x p o) (over_before m x q o2);
    within = λ id start x q e l f. s.mediums.within id start x q (sym (object_same id) ∙ e) l (range_before x.medium.0 start q f);
    frozen = λ id m start x q e kind f. s.mediums.frozen id m start x q (sym (object_same id) ∙ e) kind (range_before m start q f);
  }

  -- a segment that an address points to is still visible
  segment_stays : (at : Location) (d : SegmentFact) → ((id : ℕ) → id ≡ at.segment.0 → is_elided (facts now.tables).elisions table.Segment id ≡ true → is_elided (facts was.tables).elisions table.Segment id ≡ true)
      → segment (facts was.tables) at.segment.0 ≡ Some d → segment (facts now.tables) at.segment.0 ≡ Some d
  segment_stays at d only e = grind (arith, nat_tests, id_of, key_of, segment, id_of_key, says, segment_key, never, is_elided)

  there : (m x : ℕ) (at : Location) → address (facts now.tables) m x ≡ Some (Stored at) → IsThere now at
  there m x at e = grind (arith, nat_tests, address_before, segment_stays)

  -- the elisions are what was added
  abbrev Added : AnyFact → Type 0
  Added (any.Elision f) = Contains added f
  Added _ = ⊥

  split : (a : AnyFact) → Contains (all_of (facts now.tables)) a → Contains (all_of (facts was.tables)) a ⊎ Added a
  split = old_or_added (facts was.tables) (facts now.tables) Added (as_it_was _ h.objects) (as_it_was _ h.mediums) (as_it_was _ h.addresses) (as_it_was _ h.segments) (λ f. (h.elisions f).0)

  added_fits : (n : ℕ) (a : AnyFact) → Added a → FitsInMemory n a
  added_fits n (any.Elision f) c = h.new_elisions.each f c
  added_fits n a c = absurd c

  added_below : (a : AnyFact) → Added a → IsIdBelow now.next a
  added_below (any.Elision f) c = rw h.next (h.new_elisions.ids f c)
  added_below a c = absurd c

  added_number : (a : AnyFact) → Added a → (was.next.sequence ≤ any_number a) × (any_number a < now.next.sequence)
  added_number (any.Elision f) c = h.new_elisions.numbers f c
  added_number a c = absurd c

  one_added : (a b : AnyFact) → Added a → Added b → any_number a ≡ any_number b → a ≡ b
  one_added (any.Elision f) (any.Elision g) c d e = ap any.Elision (h.new_elisions.one_number f g c d e)
  one_added a b c d e = grind arith

  later : IsNoLower was.next now.next
  later = let next = h.next in let more = h.numbers.0 in grind (arith, nat_tests)

  next : AreNext now.next
  next = let old = s.next in let next = h.next in let numbers = h.numbers in grind (arith, nat_tests)

  pub eliding_sound : IsSound now
  eliding_sound = record {
    next = next;
    fit = fit_more was now Added split (rw h.staged (omega arith)) (added_fits (length now.staged)) s.fit;
    sectors = rw h.staged s.sectors;
    ids = ids_more was now Added split later added_below s.ids;
    objects = rw h.next sound_objects;
    mediums = sound_mediums;
    addresses = grind (arith, nat_tests, some_since, object_same, address_before);
    elisions = h.sound;
    numbers = numbered_more was now Added later.sequence split added_number one_added s.numbers;
  }

pub eliding_reads : ElidingReads
eliding_reads contents was now added array r h = record { sound = eliding_sound contents was now added array r.sound h; reads = eliding_read contents was now added array r.sound h r.reads }
