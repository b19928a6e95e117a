-- What stays of a memory when its parts change.
use Rattle.command_spec.proofs.Prelude.{nat_tests, ◌≡◌, ◌⊎◌, ◌↔◌, ◌∙◌, ℕ, ◌+◌, ◌<◌, ◌≤◌, false, List, [], ◌∷◌, length, refl, sym, ap, ◌∙◌, arith, inl, inr, Contains, All, All-contains, slice_get_within, is_elided, Table, Target, AddressFact, ElisionFact, NextNumbers, AreNext, NUMBER_LIMIT, Layers, facts_in, AreBelow, all_contained, all_below, address_facts, facts, all_of, of_each, object_is, in_objects, all_objects, all_mediums, all_addresses, numbered_more, IsIdBelow, ids_more, old_or_added, of_run, run_distinct, ElidedRanges, ranges_of, cut_facts, Objects, AreVisible, Segments, not_elided, run_long, Derived, IsGiven, Kept, kept_of, IsKept, AreNextAddresses}
use Rattle.memory_spec.specs.Prelude.{any_number, objects, ObjectFact, MediumFact, AnyFact, AreDistinct, nowhere}
use Rattle.pur_base.specs.declared.request.Table.TheVariants as table
use Rattle.pur_base.specs.declared.facts.AnyFact.TheVariants as any
use Rattle.object_table.specs.Objects.{number}
use Rattle.object_table.proofs.ObjectLemmas.{by_ids}
use Rattle.command_spec.proofs.CountLemmas.{only, as_one, as_none}
use Rattle.command_spec.proofs.CutFacts.{cut_medium, cut_few, cut_number, cut_distinct}

-- ---- what is known of the facts

-- a visible object is a fact, and its medium is below the next one
pub visible_fact : (k : Kept) → IsKept k → (x : ObjectFact) → Contains k.objects x → Contains (facts k.memory.tables).objects x
visible_fact k h x c = (object_is (facts k.memory.tables) x.object.0 x (h.objects.said x c)).0

pub ids_of : (k : Kept) → IsKept k → (x : ObjectFact) → Contains (facts k.memory.tables).objects x → (x.object.0 < k.memory.next.object) × (x.medium.0 < k.memory.next.medium)
ids_of k h x c = of_each (λ (f : ObjectFact). (f.object.0 < k.memory.next.object) × (f.medium.0 < k.memory.next.medium)) (facts k.memory.tables).objects x h.ids.objects c

-- it is one of the objects that the facts say
pub visible_said : (k : Kept) → IsKept k → (x : ObjectFact) → Contains k.objects x → Contains (objects (facts k.memory.tables) k.memory.next.object) x
visible_said k h x c = in_objects (facts k.memory.tables) k.memory.next.object x.object.0 x (h.objects.said x c) (ids_of k h x (visible_fact k h x c)).0

-- it has sectors
pub visible_size : (k : Kept) → IsKept k → (x : ObjectFact) → Contains k.objects x → 1 ≤ x.sectors
visible_size k h x c = All-contains (λ (f : ObjectFact). 1 ≤ f.sectors) (facts k.memory.tables).objects x h.sizes (visible_fact k h x c)

-- the visible objects are those that the facts say
pub visible_are : (k : Kept) → IsKept k → k.objects ≡ objects (facts k.memory.tables) k.memory.next.object
visible_are k h =
    by_ids (facts k.memory.tables).objects (is_elided (facts k.memory.tables).elisions table.Object) k.memory.next.object k.objects (omega (arith, h.next.object.1))
    (all_contained (λ (f : ObjectFact). f.object.0 < k.memory.next.object) (facts k.memory.tables).objects (λ f c. (ids_of k h f c).0)) h.objects

pub objects_newer : (k : Kept) → IsKept k → All (λ (f : ObjectFact). f.seq.0 < k.memory.next.sequence) (facts k.memory.tables).objects
objects_newer k h = all_contained (λ (f : ObjectFact). f.seq.0 < k.memory.next.sequence) (facts k.memory.tables).objects
    (λ f c. h.numbers.below (any.Object f) (all_objects (facts k.memory.tables) f c))

pub mediums_newer : (k : Kept) → IsKept k → (f : MediumFact) → Contains (facts k.memory.tables).mediums f → f.seq.0 < k.memory.next.sequence
mediums_newer k h f c = h.numbers.below (any.Medium f) (all_mediums (facts k.memory.tables) f c)

pub objects_last : (k : Kept) → IsKept k → All (λ (f : ObjectFact). f.object.0 < k.memory.next.object) k.objects
objects_last k h = all_contained (λ (f : ObjectFact). f.object.0 < k.memory.next.object) k.objects (λ f c. (ids_of k h f (visible_fact k h f c)).0)

same_object : (f g : ObjectFact) → any.Object f ≡ any.Object g → f ≡ g
same_object f g e = cc

pub objects_distinct : (k : Kept) → IsKept k → AreDistinct number (facts k.memory.tables).objects
objects_distinct k h f g c d e = same_object f g (h.numbers.distinct (any.Object f) (any.Object g) (all_objects (facts k.memory.tables) f c) (all_objects (facts k.memory.tables) g d) e)

-- addresses with the next numbers are newer than all
pub given_newest : (k : Kept) (run : List AddressFact) → IsKept k → AreNextAddresses k.memory.next run → AreBelow (λ (f : AddressFact). f.seq.0) (facts k.memory.tables).addresses run
given_newest k run h new = all_below (λ (f : AddressFact). f.seq.0) (facts k.memory.tables).addresses run (λ f g c d.
    let less : f.seq.0 < k.memory.next.sequence = h.numbers.below (any.Address f) (all_addresses (facts k.memory.tables) f c) in
    let at = (new.numbers g d).0 in
    omega (arith, less, at))

-- a run of sectors of a medium that was given has them
pub run_next : (next : NextNumbers) (medium first : ℕ) (ts : List Target) → medium < next.medium → AreNextAddresses next (address_facts medium first next.sequence ts)
run_next next medium first ts given = record {
  mediums = λ f c. (let w = of_run medium first next.sequence ts f c in let at : f.medium.0 ≡ medium = ap (λ (x : AddressFact). x.medium.0) w.is in omega (arith, at, given));
  numbers = λ f c.
      let w = of_run medium first next.sequence ts f c in
      let at : f.seq.0 ≡ next.sequence + w.place = ap (λ (x : AddressFact). x.seq.0) w.is in
      let short : w.place < length ts = slice_get_within ts w.place w.target w.at in
      (omega (arith, at), omega (arith, at, short, run_long medium first next.sequence ts));
  distinct = λ f g c d same. run_distinct medium first next.sequence ts f g c d same;
}

-- ---- what stays kept

-- addresses with the next numbers were added
module _ (o : Objects) (m : Layers MediumFact) (a a2 : Layers AddressFact) (s : Segments) (e : Layers ElisionFact) (el : ElidedRanges) (st : List (List ℕ)) (r : ℕ) (n n2 : NextNumbers)
    (run : List AddressFact) (n2_is : n2 ≡ record n { sequence = n.sequence + length run })
    (more : (f : AddressFact) → Contains (facts_in a2) f ↔ (Contains (facts_in a) f ⊎ Contains run f))
    (new : AreNextAddresses n run) (left : n.sequence + length run < NUMBER_LIMIT) (h : IsKept (kept_of o m a s e el st r n)) where
  abbrev Was : Kept
  Was = kept_of o m a s e el st r n

  abbrev Now : Kept
  Now = kept_of o m a2 s e el st r (record n { sequence = n.sequence + length run })

  abbrev OfRun : AnyFact → Type 0
  OfRun (any.Address f) = Contains run f
  OfRun _ = ⊥

  run_or_old : (x : AnyFact) → Contains (all_of (facts Now.memory.tables)) x → Contains (all_of (facts Was.memory.tables)) x ⊎ OfRun x
  run_or_old = old_or_added (facts Was.memory.tables) (facts Now.memory.tables) OfRun (λ f. inl) (λ f. inl) (λ f. (more f).0) (λ f. inl) (λ f. inl)

  run_below : (x : AnyFact) → OfRun x → IsIdBelow Now.memory.next x
  run_below (any.Address f) c = new.mediums f c
  run_below x c = absurd c

  run_numbers : (x : AnyFact) → OfRun x → (n.sequence ≤ any_number x) × (any_number x < Now.memory.next.sequence)
  run_numbers (any.Address f) c = new.numbers f c
  run_numbers x c = absurd c

  run_apart : (x y : AnyFact) → OfRun x → OfRun y → any_number x ≡ any_number y → x ≡ y
  run_apart (any.Address f) (any.Address g) c d same = ap any.Address (new.distinct f g c d same)
  run_apart x y c d same = grind arith

  given_kept_as : IsKept (kept_of o m a2 s e el st r (record n { sequence = n.sequence + length run }))
  given_kept_as = record {
    objects = h.objects;
    segments = h.segments;
    elided = h.elided;
    next = record { object = h.next.object; medium = h.next.medium; segment = h.next.segment; patch_segment = h.next.patch_segment; sequence = (omega (arith, h.next.sequence), left) };
    ids = ids_more Was.memory Now.memory OfRun run_or_old (grind arith) run_below h.ids;
    numbers = numbered_more Was.memory Now.memory OfRun (omega arith) run_or_old run_numbers run_apart h.numbers;
    sizes = h.sizes;
    ranges = h.ranges;
  }

  pub given_kept : IsKept (kept_of o m a2 s e el st r n2)
  given_kept = rw n2_is given_kept_as

-- no elision has the id that an object is given next
pub free_object : (k : Kept) → IsKept k → is_elided (facts k.memory.tables).elisions table.Object k.memory.next.object ≡ false
free_object k h = not_elided k.memory.next (facts k.memory.tables) table.Object k.memory.next.object h.ids (omega arith)

-- Objects and ranges were added, that have ids that were given or are given now, and the next numbers.
module _ (o o2 : Objects) (m m2 : Layers MediumFact) (a : Layers AddressFact) (s : Segments) (e : Layers ElisionFact) (el : ElidedRanges) (st : List (List ℕ)) (r : ℕ) (n : NextNumbers) (d : Derived)
    (more : (f : ObjectFact) → Contains (facts_in o2.facts) f ↔ (Contains (facts_in o.facts) f ⊎ Contains d.objects f))
    (more_ranges : (f : MediumFact) → Contains (facts_in m2) f ↔ (Contains (facts_in m) f ⊎ Contains d.ranges f))
    (shown : AreVisible (is_elided (facts_in e) table.Object) o2)
    (next : AreNext d.next) (segments_same : d.next.segment ≡ n.segment) (rise : (n.object ≤ d.next.object) × (n.medium ≤ d.next.medium) × (n.sequence ≤ d.next.sequence))
    (objects_fit : (f : ObjectFact) → Contains d.objects f → (f.object.0 < d.next.object) × (f.medium.0 < d.next.medium) × (1 ≤ f.sectors))
    (ranges_fit : (f : MediumFact) → Contains d.ranges f → f.medium.0 < d.next.medium)
    (new_numbers : (f : AnyFact) → IsGiven d f → (n.sequence ≤ any_number f) × (any_number f < d.next.sequence))
    (one_number : (f g : AnyFact) → IsGiven d f → IsGiven d g → any_number f ≡ any_number g → f ≡ g)
    (h : IsKept (kept_of o m a s e el st r n)) where
  abbrev Before : Kept
  Before = kept_of o m a s e el st r n

  abbrev Then : Kept
  Then = kept_of o2 m2 a s e el st r d.next

  given_or_old : (y : AnyFact) → Contains (all_of (facts Then.memory.tables)) y → Contains (all_of (facts Before.memory.tables)) y ⊎ IsGiven d y
  given_or_old = old_or_added (facts Before.memory.tables) (facts Then.memory.tables) (IsGiven d) (λ f. (more f).0) (λ f. (more_ranges f).0) (λ f. inl) (λ f. inl) (λ f. inl)

  given_below : (y : AnyFact) → IsGiven d y → IsIdBelow d.next y
  given_below (any.Object f) c = ((objects_fit f c).0, (objects_fit f c).1)
  given_below (any.Medium f) c = ranges_fit f c
  given_below y c = absurd c

  pub derived_kept : IsKept (kept_of o2 m2 a s e el st r d.next)
  derived_kept = record {
    objects = shown;
    segments = h.segments;
    elided = h.elided;
    next = next;
    ids = ids_more Before.memory Then.memory (IsGiven d) given_or_old (grind (arith, nat_tests)) given_below h.ids;
    numbers = numbered_more Before.memory Then.memory (IsGiven d) rise.2 given_or_old new_numbers one_number h.numbers;
    sizes = all_contained (λ (f : ObjectFact). 1 ≤ f.sectors) (facts_in o2.facts) (λ f c. elim ((more f).0 c) [
      | inl old ↦ All-contains (λ (f : ObjectFact). 1 ≤ f.sectors) (facts_in o.facts) f h.sizes old
      | inr new ↦ (objects_fit f new).2
    ]);
    ranges = h.ranges;
  }

-- ---- one fact more

-- an object
module _ (x : ObjectFact) (n2 : NextNumbers) where
  abbrev pub one_object : Derived
  one_object = record { objects = x ∷ []; ranges = []; next = n2 }

  given_object : (f : AnyFact) → IsGiven (record { objects = x ∷ []; ranges = []; next = n2 }) f → f ≡ any.Object x
  given_object (any.Object f) c = ap any.Object (only x f c)
  given_object (any.Medium f) c = absurd (nowhere f c)
  given_object f c = absurd c

  pub object_kept : (o o2 : Objects) (m : Layers MediumFact) (a : Layers AddressFact) (s : Segments) (e : Layers ElisionFact) (el : ElidedRanges) (st : List (List ℕ)) (r : ℕ) (n : NextNumbers)
      → ((f : ObjectFact) → Contains (facts_in o2.facts) f ↔ (Contains (facts_in o.facts) f ⊎ (f ≡ x))) → AreVisible (is_elided (facts_in e) table.Object) o2
      → AreNext n2 → n2.segment ≡ n.segment → n.object ≤ n2.object → n.medium ≤ n2.medium → n.sequence < n2.sequence
      → x.object.0 < n2.object → x.medium.0 < n2.medium → 1 ≤ x.sectors → x.seq.0 ≡ n.sequence → IsKept (kept_of o m a s e el st r n) → IsKept (kept_of o2 m a s e el st r n2)
  object_kept o o2 m a s e el st r n more shown next segments objects mediums sequence id medium some number h =
      derived_kept o o2 m m a s e el st r n one_object (as_one (facts_in o.facts) (facts_in o2.facts) x more) (as_none (facts_in m)) shown next segments (objects, mediums, omega (arith, sequence))
      (λ f c. rw (only x f c) (id, medium, some)) (λ f c. absurd (nowhere f c))
      (λ f c. rw (given_object f c) (omega (arith, number), omega (arith, number, sequence)))
      (λ f g c b same. given_object f c ∙ sym (given_object g b)) h

-- a range
module _ (x : MediumFact) (n2 : NextNumbers) where
  abbrev pub one_range : Derived
  one_range = record { objects = []; ranges = x ∷ []; next = n2 }

  given_range : (f : AnyFact) → IsGiven (record { objects = []; ranges = x ∷ []; next = n2 }) f → f ≡ any.Medium x
  given_range (any.Object f) c = absurd (nowhere f c)
  given_range (any.Medium f) c = ap any.Medium (only x f c)
  given_range f c = absurd c

  pub range_kept : (o : Objects) (m m2 : Layers MediumFact) (a : Layers AddressFact) (s : Segments) (e : Layers ElisionFact) (el : ElidedRanges) (st : List (List ℕ)) (r : ℕ) (n : NextNumbers)
      → ((f : MediumFact) → Contains (facts_in m2) f ↔ (Contains (facts_in m) f ⊎ Contains (x ∷ []) f))
      → AreNext n2 → n2.segment ≡ n.segment → n.object ≤ n2.object → n.medium ≤ n2.medium → n.sequence < n2.sequence
      → x.medium.0 < n2.medium → x.seq.0 ≡ n.sequence → IsKept (kept_of o m a s e el st r n) → IsKept (kept_of o m2 a s e el st r n2)
  range_kept o m m2 a s e el st r n more next segments objects mediums sequence medium number h =
      derived_kept o o m m2 a s e el st r n one_range (as_none (facts_in o.facts)) more h.objects next segments (objects, mediums, omega (arith, sequence))
      (λ f c. absurd (nowhere f c)) (λ f c. rw (only x f c) medium)
      (λ f c. rw (given_range f c) (omega (arith, number), omega (arith, number, sequence)))
      (λ f g c b same. given_range f c ∙ sym (given_range g b)) h

-- ---- room beside the tables

ranges_with_room : (e : ElidedRanges) (room : ℕ) (t : Table) → ranges_of (record e { object_room = room }) t ≡ ranges_of e t
ranges_with_room e room table.Object = refl
ranges_with_room e room table.Medium = refl
ranges_with_room e room table.Address = refl
ranges_with_room e room table.Segment = refl
ranges_with_room e room table.Elision = refl

-- other room for elided ids and for staged sectors changes nothing of what is kept
pub kept_beside : (o : Objects) (m : Layers MediumFact) (a : Layers AddressFact) (s : Segments) (e : Layers ElisionFact) (el el2 : ElidedRanges) (st st2 : List (List ℕ)) (r r2 : ℕ) (n : NextNumbers)
    → el2 ≡ record el { object_room = el2.object_room } → st2 ≡ st → IsKept (kept_of o m a s e el st r n) → IsKept (kept_of o m a s e el2 st2 r2 n)
kept_beside o m a s e el el2 st st2 r r2 n room same h = grind (arith, nat_tests, ranges_with_room)

-- the front of a range is taken away
module _ (x : MediumFact) (until : ℕ) (n : NextNumbers) where
  abbrev pub cut_away : Derived
  cut_away = record { objects = []; ranges = cut_facts x until n.sequence; next = record n { sequence = n.sequence + length (cut_facts x until n.sequence) } }

  pub cut_numbers : (f : AnyFact) → IsGiven cut_away f → (n.sequence ≤ any_number f) × (any_number f < cut_away.next.sequence)
  cut_numbers (any.Object f) c = absurd (nowhere f c)
  cut_numbers (any.Medium f) c = cut_number x until n.sequence f c
  cut_numbers f c = absurd c

  cuts_differ : (f g : AnyFact) → IsGiven cut_away f → IsGiven cut_away g → any_number f ≡ any_number g → f ≡ g
  cuts_differ (any.Medium f) (any.Medium g) c d e = ap any.Medium (cut_distinct x until n.sequence f g c d e)
  cuts_differ f g c d e = grind (arith, nat_tests, nowhere)

  pub cut_kept : (o : Objects) (m m2 : Layers MediumFact) (a : Layers AddressFact) (s : Segments) (e : Layers ElisionFact) (el : ElidedRanges) (st : List (List ℕ)) (r : ℕ) (n2 : NextNumbers) → n2 ≡ cut_away.next
      → ((f : MediumFact) → Contains (facts_in m2) f ↔ (Contains (facts_in m) f ⊎ Contains (cut_facts x until n.sequence) f))
      → x.medium.0 < n.medium → n.sequence + 2 < NUMBER_LIMIT → IsKept (kept_of o m a s e el st r n) → IsKept (kept_of o m2 a s e el st r n2)
  cut_kept o m m2 a s e el st r n2 is more given left h =
      let short = cut_few x until n.sequence in
      rw is (derived_kept o o m m2 a s e el st r n cut_away (as_none (facts_in o.facts)) more h.objects
      (record { object = h.next.object; medium = h.next.medium; segment = h.next.segment; patch_segment = h.next.patch_segment; sequence = (omega (arith, h.next.sequence), omega (arith, left, short)) })
      refl (omega arith, omega arith, omega arith)
      (λ f c. absurd (nowhere f c)) (λ f c. let of = cut_medium x until n.sequence f c in omega (arith, of, given)) cut_numbers cuts_differ h)
