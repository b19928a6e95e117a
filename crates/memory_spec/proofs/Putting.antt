-- Memory stays sound when targets are put into a span of a volume, and reads as the array with those sectors.
use Rattle.memory_spec.proofs.Prelude.{nat_tests, ◌≡◌, ◌⊎◌, ℕ, suc, ◌+◌, ◌-◌, ◌<◌, ◌≤◌, false, List, [], ◌∷◌, ◌++◌, length, refl, sym, ap, ◌∙◌, arith, inl, inr, subst, Some, is_some, slice_get, Contains, IsSome, length-append, AllZip, slice_get_within, Contains-append_cases, Array, replaced, Facts, any_number, objects, object, address, is_elided, SECTOR_BYTES, OBJECT_SECTORS, Location, Target, Stored, Zero, ObjectFact, MediumFact, AddressFact, AnyFact, NextNumbers, AreNext, NUMBER_LIMIT, IsNext, IsFact, LeadsNowhere, LeadsDown, AreDistinct, facts, all_of, Memory, Contents, PlaceReads, TargetReads, FactsRead, FitsTarget, FitsInMemory, IsThere, IsSound, address_facts, IsOverlaid, IsOwnMedium, AreWithinSize, HasPut, PuttingReads, of_each, zip_left, zip_long, contains_at, same_objects, object_is, of_objects, in_objects, all_objects, all_mediums, all_addresses, numbered_more, IsIdBelow, IsNoLower, as_it_was, old_or_added, fit_more, ids_more, object_kept, range_kept, segment_kept, objects_sound, mediums_sound, range_is, address_is, some_since, overwrite_reads}
use Rattle.pur_base.specs.declared.request.Table.TheVariants as table
use Rattle.pur_base.specs.declared.facts.AnyFact.TheVariants as any
use Rattle.memory_spec.specs.lemmas.Run.{of_run, run_distinct, address_put, overlaid_is}

-- ---- what sound memory says of its facts

same_address : (f g : AddressFact) → any.Address f ≡ any.Address g → f ≡ g
same_address f g e = cc

pub address_numbers : (m : Memory) → IsSound m → AreDistinct (λ (f : AddressFact). f.seq.0) (facts m.tables).addresses
address_numbers m s f g c d e = same_address f g (s.numbers.distinct (any.Address f) (any.Address g) (all_addresses (facts m.tables) f c) (all_addresses (facts m.tables) g d) e)

-- a visible object is a fact
pub object_fits : (m : Memory) → IsSound m → (x : ObjectFact) → Contains (objects (facts m.tables) m.next.object) x → Contains (facts m.tables).objects x × IsFact (any.Object x)
object_fits m s x c =
    let is = object_is (facts m.tables) x.object.0 x (of_objects (facts m.tables) m.next.object x c).0 in
    (is.0, s.fit (any.Object x) (all_objects (facts m.tables) x is.0))

pub within_size : (m : Memory) → IsSound m → AreWithinSize (facts m.tables) m.next.object
within_size m s = record {
  objects = λ x c. (object_fits m s x c).1.lawful.statement.1;
  ranges = λ n start r e.
      let is = range_is (facts m.tables) n start r e in
      let fits : IsFact (any.Medium r) = s.fit (any.Medium r) (all_mediums (facts m.tables) r is.0) in
      ends r fits.lawful.statement;
}
  where
    ends : (r : MediumFact) → LeadsNowhere r ⊎ LeadsDown r → r.target_start + (r.end - r.start) ≤ OBJECT_SECTORS
    ends r (inl h) = omega (arith, h.0, h.2)
    ends r (inr h) = h.target_end

pub run_long : (medium sector number : ℕ) (ts : List Target) → length (address_facts medium sector number ts) ≡ length ts
run_long medium sector number [] = refl
run_long medium sector number (t ∷ ts) = ap suc (run_long medium (sector + 1) (number + 1) ts)

-- ---- the put

module _ (contents : Contents) (was now : Memory) (name : List ℕ) (medium lba : ℕ) (targets : List Target) (sectors more : List (List ℕ))
    (sound : IsSound was) (own : IsOwnMedium (facts was.tables) was.next.object name medium lba (length sectors))
    (given : AllZip (TargetReads contents (was.staged ++ more)) targets sectors) (staged : (at : Location) → Contains targets (Stored at) → at.segment.0 ≡ 0)
    (sized : (sector : List ℕ) → Contains more sector → length sector ≡ SECTOR_BYTES) (left : was.next.sequence + length targets < NUMBER_LIMIT)
    (put : HasPut was now (address_facts medium lba was.next.sequence targets) more) where
  abbrev Old : Facts
  Old = facts was.tables

  abbrev New : Facts
  New = facts now.tables

  abbrev Run : List AddressFact
  Run = address_facts medium lba was.next.sequence targets

  long : length targets ≡ length sectors
  long = zip_long (TargetReads contents (was.staged ++ more)) targets sectors given

  owner_fits : Contains (facts was.tables).objects own.owner × IsFact (any.Object own.owner)
  owner_fits = object_fits was sound own.owner own.there

  small : lba + length targets ≤ OBJECT_SECTORS
  small = let most : own.owner.sectors ≤ OBJECT_SECTORS = owner_fits.1.lawful.statement.1 in omega (arith, most, own.fits, long)

  medium_below : medium < was.next.medium
  medium_below = subst (λ n. n < was.next.medium) own.its (of_each (λ f. (f.object.0 < was.next.object) × (f.medium.0 < was.next.medium)) (facts was.tables).objects own.owner sound.ids.objects owner_fits.0).1

  medium_next : IsNext medium
  medium_next = (subst (λ n. 1 ≤ n) own.its owner_fits.1.lawful.statement.2, (let most = sound.next.medium.1 in omega (arith, medium_below, most)))

  kept : is_elided (facts was.tables).elisions table.Address medium ≡ false
  kept = subst (λ n. is_elided (facts was.tables).elisions table.Address n ≡ false) own.its
      (of_each (λ x. is_elided (facts was.tables).elisions table.Address x.medium.0 ≡ false) (objects (facts was.tables) was.next.object) own.owner sound.objects.address_kept own.there)

  old_number : (f : AddressFact) → Contains (facts was.tables).addresses f → f.seq.0 < was.next.sequence
  old_number f c = sound.numbers.below (any.Address f) (all_addresses (facts was.tables) f c)

  new_number : (f : AddressFact) → Contains Run f → (was.next.sequence ≤ f.seq.0) × (f.seq.0 < was.next.sequence + length targets)
  new_number f c =
      let w = of_run medium lba was.next.sequence targets f c in
      let number : f.seq.0 ≡ was.next.sequence + w.place = ap (λ z. z.seq.0) w.is in
      let within : w.place < length targets = slice_get_within targets w.place w.target w.at in
      (omega (arith, number), omega (arith, number, within))

  over : IsOverlaid (facts was.tables) (facts now.tables) medium lba targets
  over = record {
    addresses = address_put medium lba was.next.sequence targets small (facts was.tables) (facts now.tables) put.elisions kept put.addresses
        (λ f g c d. let a = old_number f c in let b = (new_number g d).0 in omega (arith, a, b)) (address_numbers was sound);
    ranges = range_kept (facts was.tables) (facts now.tables) put.elisions put.mediums;
    objects = object_kept (facts was.tables) (facts now.tables) put.elisions put.objects;
  }

  -- ---- soundness, part by part

  staged_long : length now.staged ≡ length (was.staged ++ more)
  staged_long = ap length put.staged

  not_fewer : length was.staged ≤ length now.staged
  not_fewer = let a = length-append was.staged more in omega (arith, staged_long, a)

  -- a target names a sector that is staged now
  index_staged : (at : Location) (j : ℕ) → slice_get targets j ≡ Some (Stored at) → (at.segment.0 ≡ 0) × (at.index < length now.staged)
  index_staged at j e =
      let none : at.segment.0 ≡ 0 = staged at (contains_at targets j (Stored at) e) in
      let g = zip_left (TargetReads contents (was.staged ++ more)) targets sectors j (Stored at) given e in
      let read : PlaceReads contents (was.staged ++ more) 0 at.index g.0 = subst (λ n. PlaceReads contents (was.staged ++ more) n at.index g.0) none g.2 in
      let within : at.index < length (was.staged ++ more) = slice_get_within (was.staged ++ more) at.index g.0 read in
      (none, omega (arith, within, staged_long))

  target_fits : (t : Target) (j : ℕ) → slice_get targets j ≡ Some t → FitsTarget (length now.staged) t
  target_fits (Stored at) j e = inl (index_staged at j e)
  target_fits Zero j e = tt

  -- the addresses are what was added
  abbrev Added : AnyFact → Type 0
  Added (any.Address f) = Contains Run f
  Added _ = ⊥

  split : (a : AnyFact) → Contains (all_of New) a → Contains (all_of Old) a ⊎ Added a
  split = old_or_added Old New Added (as_it_was _ put.objects) (as_it_was _ put.mediums) (λ f. (put.addresses f).0) (as_it_was _ put.segments) (as_it_was _ put.elisions)

  added_fits : (a : AnyFact) → Added a → FitsInMemory (length now.staged) a
  added_fits (any.Address f) c =
      let w = of_run medium lba was.next.sequence targets f c in
      let within : w.place < length targets = slice_get_within targets w.place w.target w.at in
      rw w.is (medium_next, (omega (arith, sound.next.sequence.0), omega (arith, within, left)), omega (arith, within, small), target_fits w.target w.place w.at)
  added_fits a c = absurd c

  fit : (a : AnyFact) → Contains (all_of New) a → FitsInMemory (length now.staged) a
  fit = fit_more was now Added split not_fewer added_fits sound.fit

  added_below : (a : AnyFact) → Added a → IsIdBelow now.next a
  added_below (any.Address f) c = rw (put.next, (of_run medium lba was.next.sequence targets f c).is) medium_below
  added_below a c = absurd c

  sequence_now : now.next.sequence ≡ was.next.sequence + length targets
  sequence_now = rw (put.next, run_long medium lba was.next.sequence targets) refl

  added_number : (a : AnyFact) → Added a → (was.next.sequence ≤ any_number a) × (any_number a < now.next.sequence)
  added_number (any.Address f) c = rw sequence_now (new_number f c)
  added_number a c = absurd c

  one_added : (a b : AnyFact) → Added a → Added b → any_number a ≡ any_number b → a ≡ b
  one_added (any.Address f) (any.Address g) c d e = ap any.Address (run_distinct medium lba was.next.sequence targets f g c d e)
  one_added a b c d e = grind arith

  later : IsNoLower was.next now.next
  later = let next = put.next in grind (arith, nat_tests)

  next : AreNext now.next
  next = let old = sound.next in let next = put.next in let last = sequence_now in grind (arith, nat_tests)

  objects_next : now.next.object ≡ was.next.object
  objects_next = ap (λ (n : NextNumbers). n.object) put.next

  still_there : (at : Location) → IsThere was at → IsThere now at
  still_there at h = grind (arith, nat_tests, not_fewer, segment_kept)

  there : (m x : ℕ) (at : Location) → address (facts now.tables) m x ≡ Some (Stored at) → IsThere now at
  there m x at e =
      let g = address_is (facts now.tables) m x (Stored at) e in
      let low : g.0.sector < OBJECT_SECTORS = (fit (any.Address g.0) (all_addresses (facts now.tables) g.0 g.1)).2 in
      elim (overlaid_is medium lba targets (address (facts was.tables)) g.0.medium.0 g.0.sector (Stored at) (sym (over.addresses g.0.medium.0 g.0.sector low) ∙ g.3)) [
        | inl o ↦ still_there at (sound.addresses.there g.0.medium.0 g.0.sector at o)
        | inr w ↦ inl (index_staged at (g.0.sector - lba) w.3)
      ]

  within : (id sector : ℕ) (y : ObjectFact) → object (facts now.tables) id ≡ Some y → sector < OBJECT_SECTORS → IsSome (address (facts now.tables) y.medium.0 sector) → sector < y.sectors
  within id sector y e low some =
      let before : object (facts was.tables) id ≡ Some y = sym (over.objects id) ∙ e in
      let is = object_is (facts was.tables) id y before in
      let id_low : y.object.0 < was.next.object = (of_each (λ f. (f.object.0 < was.next.object) × (f.medium.0 < was.next.medium)) (facts was.tables).objects y sound.ids.objects is.0).0 in
      let t = some_since (address (facts now.tables) y.medium.0 sector) some in
      elim (overlaid_is medium lba targets (address (facts was.tables)) y.medium.0 sector t.0 (sym (over.addresses y.medium.0 sector low) ∙ t.1)) [
        | inl o ↦ sound.addresses.within id sector y before low (ap is_some o)
        | inr w ↦
            let its : y ≡ own.owner = own.alone y (in_objects (facts was.tables) was.next.object id y before (omega (arith, id_low, is.1))) w.0 in
            let size : y.sectors ≡ own.owner.sectors = ap (λ z. z.sectors) its in
            omega (arith, w.2, own.fits, long, size)
      ]

  pub put_sound : IsSound now
  put_sound = record {
    next = next;
    fit = fit;
    sectors = λ s c. elim (Contains-append_cases was.staged more s (subst (λ l. Contains l s) put.staged c)) [ inl a ↦ sound.sectors s a | inr b ↦ sized s b ];
    ids = ids_more was now Added split later added_below sound.ids;
    objects = rw objects_next (objects_sound (facts was.tables) (facts now.tables) put.elisions was.next.object (same_objects (facts was.tables) (facts now.tables) over.objects was.next.object) sound.objects);
    mediums = mediums_sound (facts was.tables) (facts now.tables) over.objects over.ranges sound.mediums;
    addresses = record { there = there; within = within };
    elisions = rw put.elisions sound.elisions;
    numbers = numbered_more was now Added later.sequence split added_number one_added sound.numbers;
  }

  pub put_reads : (array : Array) → FactsRead contents was.staged (facts was.tables) was.next.object array → FactsRead contents now.staged (facts now.tables) now.next.object (replaced array name lba sectors)
  put_reads array reads =
      rw (put.staged, objects_next) (overwrite_reads contents was.staged more (facts was.tables) (facts now.tables) was.next.object name medium lba targets sectors array own (within_size was sound) given over reads)

pub putting_reads : PuttingReads
putting_reads contents was now name medium lba targets sectors more array r own given staged sized left put = record {
  sound = put_sound contents was now name medium lba targets sectors more r.sound own given staged sized left put;
  reads = put_reads contents was now name medium lba targets sectors more r.sound own given staged sized left put array r.reads;
}
