-- Memory stays sound when objects and ranges are added that fit beside what is there.
use Rattle.command_spec.proofs.Prelude.{nat_tests, ◌≡◌, ◌≢◌, ◌⊎◌, ℕ, ◌+◌, ◌-◌, ◌<◌, ◌≤◌, false, length, refl, sym, ap, ◌∙◌, arith, inl, inr, subst, Some, None, Contains, IsSome, is_some, AllByRecursion, Facts, key_of, objects, object, range, address, IsOver, OBJECT_SECTORS, Location, ObjectFact, MediumFact, AnyFact, IsFact, AreObjectsSound, AreMediumsSound, OwnsMedium, next_id, not_both, same_some, facts, all_of, Memory, FitsInMemory, IsThere, AreAddressesThere, IsSound, each_by_recursion, of_each, object_is, of_objects, in_objects, all_mediums, all_addresses, numbered_more, IsIdBelow, IsNoLower, as_it_was, old_or_added, fit_more, ids_more, segment_kept, range_is, address_is, some_since, not_elided, Derived, HasDerived, IsDerived, IsGiven, WasVisible, IsVisible, MayDerive, DerivingIsSound}
use Rattle.array_spec.specs.Prelude.{is_elided, OBJECTS, Table, AddressFact, NextNumbers}
use Rattle.pur_base.specs.declared.request.Table.TheVariants as table
use Rattle.pur_base.specs.declared.facts.AnyFact.TheVariants as any
use Rattle.command_spec.proofs.Says.{has_or_none, derived_says}
use Rattle.command_spec.proofs.Visible.{objects_apart, objects_few}

module _ (was now : Memory) (d : Derived) (sound : IsSound was) (may : MayDerive was d) (made : HasDerived was now d) where
  abbrev Old : Facts
  Old = facts was.tables

  abbrev New : Facts
  New = facts now.tables

  says : IsDerived Old New d
  says = derived_says was now d sound may made

  -- ---- ids

  object_ids : (y : ObjectFact) → Contains Old.objects y → (y.object.0 < was.next.object) × (y.medium.0 < was.next.medium)
  object_ids y c = of_each (λ f. (f.object.0 < was.next.object) × (f.medium.0 < was.next.medium)) Old.objects y sound.ids.objects c

  range_ids : (y : MediumFact) → Contains Old.mediums y → y.medium.0 < was.next.medium
  range_ids y c = of_each (λ f. f.medium.0 < was.next.medium) Old.mediums y sound.ids.mediums c

  address_ids : (y : AddressFact) → Contains Old.addresses y → y.medium.0 < was.next.medium
  address_ids y c = of_each (λ f. f.medium.0 < was.next.medium) Old.addresses y sound.ids.addresses c

  -- ---- what is visible

  -- a visible object was added, or it was visible and none was added in its place
  abbrev Seen : ℕ → ObjectFact → Type 0
  Seen id x = Contains d.objects x ⊎ ((object Old id ≡ Some x) × ((y : ObjectFact) → Contains d.objects y → y.object.0 ≢ x.object.0))

  seen : (id : ℕ) (x : ObjectFact) → object New id ≡ Some x → Seen id x
  seen id x e = elim (has_or_none id d.objects) [
    | inl found ↦
        let there : object New id ≡ Some found.0 = ap (object New) (sym found.2) ∙ says.given found.0 found.1 in
        inl (subst (λ z. Contains d.objects z) (same_some (object New id) there e) found.1)
    | inr none ↦
        let old = sym (says.kept id none) ∙ e in
        let is = (object_is Old id x old).1 in
        inr (old, λ y c same. none y c (same ∙ is))
  ]

  -- an object that an id had is one of the visible ones
  was_visible : (id : ℕ) (x : ObjectFact) → object Old id ≡ Some x → WasVisible was x
  was_visible id x e =
      let is = object_is Old id x e in
      let low = (object_ids x is.0).0 in
      in_objects Old was.next.object id x e (omega (arith, is.1, low))

  pub now_visible : (id : ℕ) (x : ObjectFact) → object New id ≡ Some x → IsVisible was d x
  now_visible id x e = elim (seen id x e) [ inl given ↦ inl given | inr old ↦ inr (was_visible id x old.0, old.1) ]

  visible_of : (x : ObjectFact) → Contains (objects New now.next.object) x → IsVisible was d x
  visible_of x c = now_visible x.object.0 x (of_objects New now.next.object x c).0

  old_medium : (x : ObjectFact) → WasVisible was x → x.medium.0 < was.next.medium
  old_medium x c = (object_ids x (object_is Old x.object.0 x (of_objects Old was.next.object x c).0).0).1

  -- ---- soundness, part by part

  split : (a : AnyFact) → Contains (all_of New) a → Contains (all_of Old) a ⊎ IsGiven d a
  split = old_or_added Old New (IsGiven d) (λ y. (made.objects y).0) (λ y. (made.mediums y).0) (as_it_was _ made.addresses) (as_it_was _ made.segments) (as_it_was _ made.elisions)

  given_fits : (n : ℕ) (a : AnyFact) → IsGiven d a → FitsInMemory n a
  given_fits n (any.Object f) c = may.lawful (any.Object f) c
  given_fits n (any.Medium f) c = may.lawful (any.Medium f) c
  given_fits n a c = absurd c

  fit : (a : AnyFact) → Contains (all_of New) a → FitsInMemory (length now.staged) a
  fit = fit_more was now (IsGiven d) split (rw made.staged (omega arith)) (given_fits (length now.staged)) sound.fit

  later : IsNoLower was.next now.next
  later = let next = made.next in let rise = may.new_numbers.rise in let same = may.new_numbers.segment in grind (arith, nat_tests)

  given_below : (a : AnyFact) → IsGiven d a → IsIdBelow now.next a
  given_below (any.Object f) c = rw made.next (may.new_numbers.objects f c)
  given_below (any.Medium f) c = rw made.next (may.new_numbers.mediums f c).1
  given_below a c = absurd c

  -- the medium of a visible object isn't elided, if those of the objects before weren't
  kept_medium : (t : Table) → next_id was.next t ≡ was.next.medium → AllByRecursion (λ x. is_elided Old.elisions t x.medium.0 ≡ false) (objects Old was.next.object)
      → (x : ObjectFact) → IsVisible was d x → is_elided New.elisions t x.medium.0 ≡ false
  kept_medium t its kept x v = ap (λ l. is_elided l t x.medium.0) made.elisions ∙ elim v [
    | inl given ↦ elim (may.on_medium x given) [
      | inl new ↦ not_elided was.next Old t x.medium.0 sound.ids (omega (arith, new, its))
      | inr on ↦ ap (λ m. is_elided Old.elisions t m) (sym on.2) ∙ of_each (λ z. is_elided Old.elisions t z.medium.0 ≡ false) (objects Old was.next.object) on.0 kept on.1
    ]
    | inr old ↦ of_each (λ z. is_elided Old.elisions t z.medium.0 ≡ false) (objects Old was.next.object) x kept old.0
  ]

  -- an old id that had no object has none
  none_more : (id : ℕ) → id < was.next.object → object Old id ≡ None → object New id ≡ None
  none_more id low none = says.kept id (λ x c same. elim (may.visible x c) [
    | inl new ↦ omega (arith, new, same, low)
    | inr old ↦
        let there = (of_objects Old was.next.object old.0 old.1).0 in
        not_both (object Old id) (ap (object Old) (sym (old.2 ∙ same)) ∙ there) none
  ]) ∙ none

  few : length (objects New now.next.object) ≤ OBJECTS
  few =
      let last : now.next.object ≡ d.next.object = ap (λ (n : NextNumbers). n.object) made.next in
      let more : now.next.object ≡ was.next.object + (d.next.object - was.next.object) = omega (arith, may.new_numbers.rise.0, last) in
      let long = objects_few Old New was.next.object (d.next.object - was.next.object) none_more in
      let same = ap (λ n. length (objects New n)) more in
      omega (arith, long, same, may.few, may.new_numbers.rise.0)

  sound_objects : AreObjectsSound New now.next.object
  sound_objects = record {
    names = objects_apart New now.next.object (λ x y. x.name ≢ y.name) (λ x y c e ne same. ne (ap (λ z. z.object.0) (may.names x y (visible_of x c) (visible_of y e) same)));
    mediums = objects_apart New now.next.object (λ x y. OwnsMedium x y × OwnsMedium y x) (λ x y c e ne. (
      λ kind same. ne (ap (λ z. z.object.0) (may.own_medium x y (visible_of x c) (visible_of y e) kind same)),
      λ kind same. ne (sym (ap (λ z. z.object.0) (may.own_medium y x (visible_of y e) (visible_of x c) kind same))),
    ));
    range_kept = each_by_recursion (λ x. is_elided New.elisions table.Medium x.medium.0 ≡ false) (objects New now.next.object)
        (λ x c. kept_medium table.Medium refl sound.objects.range_kept x (visible_of x c));
    address_kept = each_by_recursion (λ x. is_elided New.elisions table.Address x.medium.0 ≡ false) (objects New now.next.object)
        (λ x c. kept_medium table.Address refl sound.objects.address_kept x (visible_of x c));
    most = few;
  }

  -- ---- ranges

  -- a range of a medium, found from a start that an object may have
  range_medium : (m start : ℕ) (r : MediumFact) → start < OBJECT_SECTORS → range New m start ≡ Some r → r.medium.0 ≡ m
  range_medium m start r low e =
      let is = range_is New m start r e in
      let fits : IsFact (any.Medium r) = fit (any.Medium r) (all_mediums New r is.0) in
      omega (arith, is.1, fits.fits, low)

  -- a range that is over a sector is one of its medium
  over_medium : (m s : ℕ) (r : MediumFact) → IsOver New m s r → r.medium.0 ≡ m
  over_medium m s r over =
      let key : key_of r.medium.0 r.start ≡ key_of m r.start = (range_is New m r.start r over.there).1 in
      omega (arith, key)

  abbrev OverOne : ℕ → ℕ → MediumFact → Type 0
  OverOne m s r = (Contains d.ranges r × (was.next.medium ≤ m)) ⊎ (IsOver Old m s r × (m < was.next.medium))

  over_one : (m s : ℕ) (r : MediumFact) → IsOver New m s r → OverOne m s r
  over_one m s r over =
      let its = over_medium m s r over in
      elim (says.range_of m r.start r over.there) [
        | inl given ↦ (let low = (may.new_numbers.mediums r given).0 in inl (given, omega (arith, low, its)))
        | inr old ↦ (let low = range_ids r (range_is Old m r.start r old).0 in inr (record { there = old; from_start = over.from_start; below_end = over.below_end }, omega (arith, low, its)))
      ]

  -- a range that was there leads to an older medium
  leads_down : (m start : ℕ) (q : MediumFact) → range Old m start ≡ Some q → q.target.0 < was.next.medium
  leads_down m start q e =
      let is = range_is Old m start q e in
      let fits : IsFact (any.Medium q) = sound.fit (any.Medium q) (all_mediums Old q is.0) in
      let low = range_ids q is.0 in
      elim fits.lawful.statement [ inl h ↦ (let none = h.1 in omega (arith, none, low)) | inr h ↦ (let down = h.down in omega (arith, down, low)) ]

  range_within : (id start : ℕ) (x : ObjectFact) (r : MediumFact) → object New id ≡ Some x → start < OBJECT_SECTORS → range New x.medium.0 start ≡ Some r → r.end ≤ x.sectors
  range_within id start x r e low f =
      let its = range_medium x.medium.0 start r low f in
      elim (says.range_of x.medium.0 start r f) [
        | inl given ↦
            let new = (may.new_numbers.mediums r given).0 in
            elim (seen id x e) [
              | inl c ↦ may.within x r c given its
              | inr old ↦ (let less = old_medium x (was_visible id x old.0) in absurd (omega (arith, new, less, its)))
            ]
        | inr there ↦
            let less = range_ids r (range_is Old x.medium.0 start r there).0 in
            elim (seen id x e) [
              | inl c ↦ elim (may.on_medium x c) [
                | inl new ↦ absurd (omega (arith, new, less, its))
                | inr on ↦
                    let end = sound.mediums.within on.0.object.0 start on.0 r (of_objects Old was.next.object on.0 on.1).0 low (ap (λ m. range Old m start) on.2 ∙ there) in
                    omega (arith, on.3, end)
              ]
              | inr old ↦ sound.mediums.within id start x r old.0 low there
            ]
      ]

  sound_mediums : AreMediumsSound New
  sound_mediums = record {
    disjoint = λ m s r q o p. elim (over_one m s r o) [
      | inl a ↦ elim (over_one m s q p) [
        | inl b ↦ may.apart r q s a.0 b.0 (over_medium m s r o ∙ sym (over_medium m s q p)) o.from_start o.below_end p.from_start p.below_end
        | inr b ↦ absurd (omega (arith, a.1, b.1))
      ]
      | inr a ↦ elim (over_one m s q p) [
        | inl b ↦ absurd (omega (arith, a.1, b.1))
        | inr b ↦ sound.mediums.disjoint m s r q a.0 b.0
      ]
    ];
    within = range_within;
    frozen = λ id m start x r e kind f t. elim (says.range_of m start r f) [
      | inl given ↦ may.frozen x r (now_visible id x e) given kind t
      | inr there ↦ elim (seen id x e) [
        | inl c ↦ (let new = may.new_medium x c kind in let less = leads_down m start r there in omega (arith, new, less, t))
        | inr old ↦ sound.mediums.frozen id m start x r old.0 kind there t
      ]
    ];
  }

  -- ---- addresses

  still_there : (at : Location) → IsThere was at → IsThere now at
  still_there at h = grind (arith, nat_tests, segment_kept)

  address_within : (id sector : ℕ) (x : ObjectFact) → object New id ≡ Some x → sector < OBJECT_SECTORS → IsSome (address New x.medium.0 sector) → sector < x.sectors
  address_within id sector x e low some =
      let before : IsSome (address Old x.medium.0 sector) = sym (ap is_some (says.addresses x.medium.0 sector)) ∙ some in
      elim (seen id x e) [
        | inl c ↦ elim (may.on_medium x c) [
          | inl new ↦
              let t = some_since (address Old x.medium.0 sector) before in
              let g = address_is Old x.medium.0 sector t.0 t.1 in
              let less = address_ids g.0 g.1 in
              let small : g.0.sector < OBJECT_SECTORS = (sound.fit (any.Address g.0) (all_addresses Old g.0 g.1)).2 in
              absurd (omega (arith, g.2, less, small, low, new))
          | inr on ↦
              let end = sound.addresses.within on.0.object.0 sector on.0 (of_objects Old was.next.object on.0 on.1).0 low (ap (λ m. is_some (address Old m sector)) on.2 ∙ before) in
              omega (arith, on.3, end)
        ]
        | inr old ↦ sound.addresses.within id sector x old.0 low before
      ]

  sound_addresses : AreAddressesThere now
  sound_addresses = grind (arith, nat_tests, still_there, address_within)

  pub derived_sound : IsSound now
  derived_sound = record {
    next = rw made.next may.new_numbers.next;
    fit = fit;
    sectors = rw made.staged sound.sectors;
    ids = ids_more was now (IsGiven d) split later given_below sound.ids;
    objects = sound_objects;
    mediums = sound_mediums;
    addresses = sound_addresses;
    elisions = rw made.elisions sound.elisions;
    numbers = numbered_more was now (IsGiven d) later.sequence split (rw made.next may.new_numbers.numbers) may.new_numbers.one_number sound.numbers;
  }

pub deriving_sound : DerivingIsSound
deriving_sound was now d sound may made = derived_sound was now d sound may made
