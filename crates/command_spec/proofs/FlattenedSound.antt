-- Memory stays sound when the front of a range is flattened.
use Rattle.command_spec.proofs.Prelude.{nat_tests, ◌≡◌, ◌⊎◌, ℕ, ◌+◌, ◌-◌, ◌<◌, ◌≤◌, List, length, refl, sym, ap, ◌∙◌, arith, inl, inr, subst, Option, Some, None, option_map, is_some, Contains, Facts, address_key, never, key_of, address, object, Reads, below, unwritten, Location, Zero, ObjectFact, MediumFact, AnyFact, AreMediumsSound, same_some, said_found, facts, Memory, FitsTarget, FitsInMemory, IsThere, AreAddressesThere, IsSound, of_each, same_objects, all_addresses, IsIdBelow, fit_more, ids_more, object_kept, segment_kept, objects_sound, MayFlatten, HasFlattened}
use Rattle.array_spec.specs.Prelude.{says, is_elided, here, Target, Stored, AddressFact}
use Rattle.pur_base.specs.declared.request.Table.TheVariants as table
use Rattle.pur_base.specs.declared.facts.AnyFact.TheVariants as any
use Rattle.command_spec.proofs.CutFacts.{cut_is, cut_few, cut_medium}
use Rattle.command_spec.proofs.Flattened.{IsAdded, added_or_old, flattened_numbers, given_or_kept, given_small, range_fits, leads_down, range_since, until_small, still_apart}

-- a target that is read is zeros, or an address of some medium
reads_from : (f : Facts) (m x : ℕ) (t : Target) → Reads f m x t → (t ≡ Zero) ⊎ ((n : ℕ) × (s : ℕ) × (address f n s ≡ Some t))
reads_from f m x t (here e) = inr (m, x, e)
reads_from f m x t (below r e over rest) = reads_from f r.target.0 (r.target_start + (x - r.start)) t rest
reads_from f m x t (unwritten e gap) = inl refl

-- a fact has the target
target_of : (f : Facts) (m x : ℕ) (t : Target) → address f m x ≡ Some t → (g : AddressFact) × Contains f.addresses g × (g.target ≡ t)
target_of f m x t e = one (says address_key (λ g. g.seq.0) never f.addresses (is_elided f.elisions table.Address) (key_of m x)) refl e
  where
    one : (o : Option AddressFact) → says address_key (λ g. g.seq.0) never f.addresses (is_elided f.elisions table.Address) (key_of m x) ≡ o → option_map (λ g. g.target) o ≡ Some t
        → (g : AddressFact) × Contains f.addresses g × (g.target ≡ t)
    one None is said = cc
    one (Some g) is said = (g, (said_found address_key (λ h. h.seq.0) never f.addresses (is_elided f.elisions table.Address) (key_of m x) g is).0, same_some (Some g.target) refl said)

module _ (was now : Memory) (r : MediumFact) (until : ℕ) (given : List AddressFact) (sound : IsSound was) (may : MayFlatten was r until given) (has : HasFlattened was now r until given) where
  abbrev Old : Facts
  Old = facts was.tables

  abbrev New : Facts
  New = facts now.tables

  abbrev Behind : ℕ
  Behind = was.next.sequence + length given

  -- ---- what is added is lawful

  given_from : (a : AddressFact) → Contains given a → (a.target ≡ Zero) ⊎ ((n : ℕ) × (s : ℕ) × (address Old n s ≡ Some a.target))
  given_from a c = reads_from Old r.medium.0 a.sector a.target (may.each a c).3.reads.0

  target_fits : (a : AddressFact) → Contains given a → FitsTarget (length was.staged) a.target
  target_fits a c = elim (given_from a c) [
    | inl zero ↦ rw zero tt
    | inr at ↦
        let g = target_of Old at.0 at.1 a.target at.2 in
        rw (sym g.2) (sound.fit (any.Address g.0) (all_addresses Old g.0 g.1)).3
  ]

  added_fits : (a : AnyFact) → IsAdded was r until given a → FitsInMemory (length now.staged) a
  added_fits (any.Medium f) c =
      let down = leads_down was now r until given sound may has in
      let fits = (range_fits was now r until given sound may has).1 in
      let begun = may.some in
      let left = may.left in
      let first = sound.next.sequence.0 in
      let is = cut_is r until Behind f c in
      grind (arith, nat_tests)
  added_fits (any.Address f) c =
      let its = may.each f c in
      let number = may.numbers f c in
      (rw its.0 (range_fits was now r until given sound may has).1.lawful.id, (omega (arith, sound.next.sequence.0, number.0), omega (arith, may.left, number.1)), given_small was now r until given sound may has f c, rw has.staged (target_fits f c))
  added_fits a c = grind arith

  -- ---- ids

  medium_below : r.medium.0 < was.next.medium
  medium_below = of_each (λ f. f.medium.0 < was.next.medium) Old.mediums r sound.ids.mediums (range_fits was now r until given sound may has).0

  added_below : (a : AnyFact) → IsAdded was r until given a → IsIdBelow now.next a
  added_below (any.Medium f) c = rw (has.next, cut_medium r until Behind f c) medium_below
  added_below (any.Address f) c = rw (has.next, (may.each f c).0) medium_below
  added_below a c = absurd c

  -- ---- objects and ranges

  same_object : (id : ℕ) → object New id ≡ object Old id
  same_object = object_kept Old New has.elisions has.objects

  -- the range ends within each object that has its medium
  end_within : (id : ℕ) (y : ObjectFact) → object New id ≡ Some y → y.medium.0 ≡ r.medium.0 → r.end ≤ y.sectors
  end_within id y e medium = grind (arith, nat_tests, until_small, same_object)

  sound_mediums : AreMediumsSound New
  sound_mediums = record {
    disjoint = still_apart was now r until given sound may has;
    within = grind (arith, nat_tests, range_since, until_small, end_within, same_object);
    frozen = grind (arith, nat_tests, range_since, same_object);
  }

  -- ---- addresses

  still_there : (at : Location) → IsThere was at → IsThere now at
  still_there at h = grind (arith, nat_tests, segment_kept)

  sound_addresses : AreAddressesThere now
  sound_addresses = record {
    there = λ m x at e. elim (given_or_kept was now r until given sound may has m x) [
      | inl g ↦
          let is : g.fact.target ≡ Stored at = same_some (address New m x) g.said e in
          elim (given_from g.fact g.among) [
            | inl zero ↦ absurd cc
            | inr from ↦ still_there at (sound.addresses.there from.0 from.1 at (from.2 ∙ ap (λ z. Some z) is))
          ]
      | inr k ↦ still_there at (sound.addresses.there m x at (sym k.said ∙ e))
    ];
    within = λ id x y e low some. elim (given_or_kept was now r until given sound may has y.medium.0 x) [
      | inl g ↦
          let its = may.each g.fact g.among in
          let small = given_small was now r until given sound may has g.fact g.among in
          let end = end_within id y e (omega (arith, g.key, its.0, small, low)) in
          omega (arith, g.key, small, low, its.2, may.within, end)
      | inr k ↦ sound.addresses.within id x y (sym (same_object id) ∙ e) low (ap is_some (sym k.said) ∙ some)
    ];
  }

  pub flattened_sound : IsSound now
  flattened_sound = record {
    next = let few = cut_few r until Behind in let left = may.left in let old = sound.next in grind (arith, nat_tests);
    fit = fit_more was now (IsAdded was r until given) (added_or_old was now r until given sound may has) (rw has.staged (omega arith)) added_fits sound.fit;
    sectors = rw has.staged sound.sectors;
    ids = ids_more was now (IsAdded was r until given) (added_or_old was now r until given sound may has) (let next = has.next in grind (arith, nat_tests)) added_below sound.ids;
    objects = rw has.next (objects_sound Old New has.elisions was.next.object (same_objects Old New same_object was.next.object) sound.objects);
    mediums = sound_mediums;
    addresses = sound_addresses;
    elisions = rw has.elisions sound.elisions;
    numbers = flattened_numbers was now r until given sound may has;
  }
