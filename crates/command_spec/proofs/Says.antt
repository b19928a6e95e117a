-- What the tables say once objects and ranges were added: what was added, and of all else what they said.
use Rattle.command_spec.proofs.Prelude.{nat_tests, ◌≡◌, ◌≢◌, ◌⊎◌, ℕ, ◌^◌, ◌<◌, ◌≤◌, Bool, true, false, List, [], ◌∷◌, refl, sym, ap, ◌∙◌, arith, inl, inr, subst, Option, Some, None, IfSome, Contains, option_and_then, if◌then◌else◌, ne_eqb, cases_eq, Facts, medium_key, never, is_empty_range, key_of, unless_empty, has_key, object, range, OBJECT_SECTORS, ObjectFact, MediumFact, IsFact, AreDistinct, newest_of, newest_found, here, there, either, nowhere, id_of_key, said_whole, whole_said, facts, Memory, IsSound, of_objects, all_objects, all_mediums, address_kept, only_newest, no_newest, newest_kept, newest_given, not_elided, Derived, HasDerived, IsDerived, MayDerive, DerivingSays}
use Rattle.array_spec.specs.Prelude.{object_key, is_elided}
use Rattle.pur_base.specs.declared.request.Table.TheVariants as table
use Rattle.pur_base.specs.declared.facts.AnyFact.TheVariants as any

-- an object of the list has the id, or none has
pub has_or_none : (id : ℕ) (xs : List ObjectFact) → ((x : ObjectFact) × Contains xs x × (x.object.0 ≡ id)) ⊎ ((x : ObjectFact) → Contains xs x → x.object.0 ≢ id)
has_or_none id [] = inr (λ x c e. nowhere x c)
has_or_none id (x ∷ xs) = elim (cases_eq x.object.0 id) [
  | inl same ↦ inl (x, here x xs, same)
  | inr ne ↦ elim (has_or_none id xs) [
    | inl found ↦ inl (found.0, there x found.0 xs found.1, found.2)
    | inr none ↦ inr (λ y c e. elim (either x y xs c) [ inl same ↦ ne (ap (λ z. z.object.0) (sym same) ∙ e) | inr rest ↦ none y rest e ])
  ]
]

same_object : (f g : ObjectFact) → any.Object f ≡ any.Object g → f ≡ g
same_object f g e = cc

same_range : (f g : MediumFact) → any.Medium f ≡ any.Medium g → f ≡ g
same_range f g e = cc

module _ (was now : Memory) (d : Derived) (sound : IsSound was) (may : MayDerive was d) (made : HasDerived was now d) where
  abbrev Old : Facts
  Old = facts was.tables

  abbrev New : Facts
  New = facts now.tables

  -- ---- numbers

  object_numbers : AreDistinct (λ (f : ObjectFact). f.seq.0) Old.objects
  object_numbers f g c e same = same_object f g (sound.numbers.distinct (any.Object f) (any.Object g) (all_objects Old f c) (all_objects Old g e) same)

  range_numbers : AreDistinct (λ (f : MediumFact). f.seq.0) Old.mediums
  range_numbers f g c e same = same_range f g (sound.numbers.distinct (any.Medium f) (any.Medium g) (all_mediums Old f c) (all_mediums Old g e) same)

  given_objects : AreDistinct (λ (f : ObjectFact). f.seq.0) d.objects
  given_objects f g c e same = same_object f g (may.new_numbers.one_number (any.Object f) (any.Object g) c e same)

  given_ranges : AreDistinct (λ (f : MediumFact). f.seq.0) d.ranges
  given_ranges f g c e same = same_range f g (may.new_numbers.one_number (any.Medium f) (any.Medium g) c e same)

  older_objects : (f g : ObjectFact) → Contains Old.objects f → Contains d.objects g → f.seq.0 < g.seq.0
  older_objects f g c e =
      let less : f.seq.0 < was.next.sequence = sound.numbers.below (any.Object f) (all_objects Old f c) in
      let most : was.next.sequence ≤ g.seq.0 = (may.new_numbers.numbers (any.Object g) e).0 in
      omega (arith, less, most)

  older_ranges : (f g : MediumFact) → Contains Old.mediums f → Contains d.ranges g → f.seq.0 < g.seq.0
  older_ranges f g c e =
      let less : f.seq.0 < was.next.sequence = sound.numbers.below (any.Medium f) (all_mediums Old f c) in
      let most : was.next.sequence ≤ g.seq.0 = (may.new_numbers.numbers (any.Medium g) e).0 in
      omega (arith, less, most)

  -- ---- objects

  -- the id of an object that is added isn't elided: it is new, or its object was visible
  there_object : (x : ObjectFact) → Contains d.objects x → is_elided Old.elisions table.Object x.object.0 ≡ false
  there_object x c = elim (may.visible x c) [
    | inl new ↦ not_elided was.next Old table.Object x.object.0 sound.ids new
    | inr old ↦
        let is = (of_objects Old was.next.object old.0 old.1).0 in
        let whole = (said_whole object_key (λ f. f.seq.0) never Old.objects (is_elided Old.elisions table.Object) (key_of old.0.object.0 0) old.0 is).0 in
        subst (λ i. is_elided Old.elisions table.Object i ≡ false) (id_of_key old.0.object.0 0 (omega arith) ∙ old.2) whole
  ]

  pub object_given : (x : ObjectFact) → Contains d.objects x → object New x.object.0 ≡ Some x
  object_given x c =
      let one = only_newest object_key (λ f. f.seq.0) d.objects (key_of x.object.0 0) x c refl (λ f e same.
      let key : key_of f.object.0 0 ≡ key_of x.object.0 0 = same in
      may.new_numbers.one_object f x e c (omega (arith, key))) in
      let newest = newest_given object_key (λ f. f.seq.0) Old.objects New.objects d.objects made.objects older_objects object_numbers given_objects (key_of x.object.0 0) x one in
      whole_said object_key (λ f. f.seq.0) never New.objects (is_elided New.elisions table.Object) (key_of x.object.0 0) x
      (ap (λ i. is_elided New.elisions table.Object i) (id_of_key x.object.0 0 (omega arith)) ∙ ap (λ l. is_elided l table.Object x.object.0) made.elisions ∙ there_object x c)
      (ap (λ o. option_and_then (unless_empty never) o) newest)

  pub object_other : (id : ℕ) → ((x : ObjectFact) → Contains d.objects x → x.object.0 ≢ id) → object New id ≡ object Old id
  object_other id other =
      let none = no_newest object_key (λ f. f.seq.0) d.objects (key_of id 0) (λ f c e. let key : key_of f.object.0 0 ≡ key_of id 0 = e in other f c (omega (arith, key))) in
      let newest = newest_kept object_key (λ f. f.seq.0) Old.objects New.objects d.objects made.objects older_objects object_numbers given_objects (key_of id 0) none in
      rw (made.elisions, newest) refl

  -- ---- ranges

  range_start : (r : MediumFact) → Contains d.ranges r → r.start < 2 ^ 64
  range_start r c = let fact : IsFact (any.Medium r) = may.lawful (any.Medium r) c in fact.fits

  -- the tables say the range at each key of which it is the newest that is added
  range_new : (m start : ℕ) (r : MediumFact) → newest_of medium_key (λ f. f.seq.0) (key_of m start) d.ranges ≡ Some r
      → newest_of medium_key (λ f. f.seq.0) (key_of m start) New.mediums ≡ Some r
  range_new m start r e = newest_given medium_key (λ f. f.seq.0) Old.mediums New.mediums d.ranges made.mediums older_ranges range_numbers given_ranges (key_of m start) r e

  -- and at others what they said
  range_old : (m start : ℕ) → newest_of medium_key (λ f. f.seq.0) (key_of m start) d.ranges ≡ None → range New m start ≡ range Old m start
  range_old m start none =
      let newest = newest_kept medium_key (λ f. f.seq.0) Old.mediums New.mediums d.ranges made.mediums older_ranges range_numbers given_ranges (key_of m start) none in
      rw (made.elisions, newest) refl

  pub range_given : (r : MediumFact) → Contains d.ranges r → range New r.medium.0 r.start ≡ Some r
  range_given r c =
      let some = may.some r c in
      let one = only_newest medium_key (λ f. f.seq.0) d.ranges (key_of r.medium.0 r.start) r c refl (λ f e same.
      let key : key_of f.medium.0 f.start ≡ key_of r.medium.0 r.start = same in
      let small = range_start r c in
      let small_too = range_start f e in
      let start : f.start ≡ r.start = omega (arith, key, small, small_too) in
      let some_too = may.some f e in
      may.apart f r r.start e c (omega (arith, key, start)) (omega (arith, start)) (omega (arith, start, some_too)) (omega arith) some) in
      let there = not_elided was.next Old table.Medium r.medium.0 sound.ids (may.new_numbers.mediums r c).0 in
      whole_said medium_key (λ f. f.seq.0) is_empty_range New.mediums (is_elided New.elisions table.Medium) (key_of r.medium.0 r.start) r
      (ap (λ i. is_elided New.elisions table.Medium i) (id_of_key r.medium.0 r.start (range_start r c)) ∙ ap (λ l. is_elided l table.Medium r.medium.0) made.elisions ∙ there)
      (ap (λ o. option_and_then (unless_empty is_empty_range) o) (range_new r.medium.0 r.start r one)
      ∙ rw (ne_eqb r.end r.start (λ e. omega (arith, e, some))) refl)

  pub range_other : (m start : ℕ) → start < OBJECT_SECTORS → ((r : MediumFact) → Contains d.ranges r → r.medium.0 ≢ m) → range New m start ≡ range Old m start
  range_other m start low other = range_old m start (no_newest medium_key (λ f. f.seq.0) d.ranges (key_of m start) (λ f c e.
      let key : key_of f.medium.0 f.start ≡ key_of m start = e in
      let small = range_start f c in
      other f c (omega (arith, key, small, low))))

  -- a range is one that was added, or was there
  pub range_is_of : (m start : ℕ) (r : MediumFact) → range New m start ≡ Some r → Contains d.ranges r ⊎ (range Old m start ≡ Some r)
  range_is_of m start r e = one (newest_of medium_key (λ f. f.seq.0) (key_of m start) d.ranges) refl (newest_found (λ (f : MediumFact). f.seq.0) (has_key medium_key (key_of m start)) d.ranges)
    where
      whole : option_and_then (unless_empty is_empty_range) (newest_of medium_key (λ f. f.seq.0) (key_of m start) New.mediums) ≡ Some r
      whole = (said_whole medium_key (λ f. f.seq.0) is_empty_range New.mediums (is_elided New.elisions table.Medium) (key_of m start) r e).1

      unless : (b : Bool) (g : MediumFact) → (if b then None else Some g) ≡ Some r → g ≡ r
      unless true g is = cc
      unless false g is = cc

      one : (o : Option MediumFact) → newest_of medium_key (λ f. f.seq.0) (key_of m start) d.ranges ≡ o → IfSome o (λ f. Contains d.ranges f × (has_key medium_key (key_of m start) f ≡ true))
          → Contains d.ranges r ⊎ (range Old m start ≡ Some r)
      one None none h = inr (sym (range_old m start none) ∙ e)
      one (Some g) is h =
          let its : (if is_empty_range g then None else Some g) ≡ Some r = sym (ap (λ o. option_and_then (unless_empty is_empty_range) o) (range_new m start g is)) ∙ whole in
          inl (subst (λ f. Contains d.ranges f) (unless (is_empty_range g) g its) h.0)

  pub derived_says : IsDerived Old New d
  derived_says = grind (arith, nat_tests, object_given, object_other, range_given, range_other, range_is_of, address_kept)

pub deriving_says : DerivingSays
deriving_says was now d sound may made = derived_says was now d sound may made
