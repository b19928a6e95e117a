-- The facts of all tables.
use Rattle.std.proofs.Common.{◌≡◌, ◌⊎◌, ◌<◌, ◌≤◌, List, ◌++◌, map, refl, sym, ap, ◌∙◌, arith, inl, inr, subst, Contains}
use Rattle.std.proofs.lemmas.List.Elements.{Contains-append_left, Contains-append_right, Contains-append_cases}
use Rattle.array_spec.specs.Prelude.{Facts, any_number, ObjectFact, MediumFact, AddressFact, SegmentFact, ElisionFact, AnyFact}
use Rattle.pur_base.specs.declared.facts.AnyFact.TheVariants as any
use Rattle.memory_spec.specs.Tables.{facts, all_of}
use Rattle.memory_spec.specs.Memory.{Memory, AreNumbered}
use Rattle.memory_spec.specs.lemmas.Lists.{in_map, of_map}

abbrev Fourth : Facts → List AnyFact
Fourth f = map any.Segment f.segments ++ map any.Elision f.elisions

abbrev Third : Facts → List AnyFact
Third f = map any.Address f.addresses ++ Fourth f

abbrev Second : Facts → List AnyFact
Second f = map any.Medium f.mediums ++ Third f

module _ (f : Facts) where
  pub all_objects : (x : ObjectFact) → Contains f.objects x → Contains (all_of f) (any.Object x)
  all_objects x c = Contains-append_left (map any.Object f.objects) (Second f) (any.Object x) (in_map any.Object f.objects x c)

  past_objects : (a : AnyFact) → Contains (Second f) a → Contains (all_of f) a
  past_objects a c = Contains-append_right (map any.Object f.objects) (Second f) a c

  pub all_mediums : (x : MediumFact) → Contains f.mediums x → Contains (all_of f) (any.Medium x)
  all_mediums x c = past_objects (any.Medium x) (Contains-append_left (map any.Medium f.mediums) (Third f) (any.Medium x) (in_map any.Medium f.mediums x c))

  past_mediums : (a : AnyFact) → Contains (Third f) a → Contains (all_of f) a
  past_mediums a c = past_objects a (Contains-append_right (map any.Medium f.mediums) (Third f) a c)

  pub all_addresses : (x : AddressFact) → Contains f.addresses x → Contains (all_of f) (any.Address x)
  all_addresses x c = past_mediums (any.Address x) (Contains-append_left (map any.Address f.addresses) (Fourth f) (any.Address x) (in_map any.Address f.addresses x c))

  past_addresses : (a : AnyFact) → Contains (Fourth f) a → Contains (all_of f) a
  past_addresses a c = past_mediums a (Contains-append_right (map any.Address f.addresses) (Fourth f) a c)

  pub all_segments : (x : SegmentFact) → Contains f.segments x → Contains (all_of f) (any.Segment x)
  all_segments x c = past_addresses (any.Segment x) (Contains-append_left (map any.Segment f.segments) (map any.Elision f.elisions) (any.Segment x) (in_map any.Segment f.segments x c))

  pub all_elisions : (x : ElisionFact) → Contains f.elisions x → Contains (all_of f) (any.Elision x)
  all_elisions x c = past_addresses (any.Elision x) (Contains-append_right (map any.Segment f.segments) (map any.Elision f.elisions) (any.Elision x) (in_map any.Elision f.elisions x c))

  -- what holds of the facts of each table holds of all
  pub of_all : (P : AnyFact → Type 0)
      → ((x : ObjectFact) → Contains f.objects x → P (any.Object x)) → ((x : MediumFact) → Contains f.mediums x → P (any.Medium x))
      → ((x : AddressFact) → Contains f.addresses x → P (any.Address x)) → ((x : SegmentFact) → Contains f.segments x → P (any.Segment x))
      → ((x : ElisionFact) → Contains f.elisions x → P (any.Elision x)) → (a : AnyFact) → Contains (all_of f) a → P a
  of_all P o m d s e a c = elim (Contains-append_cases (map any.Object f.objects) (Second f) a c) [
    | inl b ↦ (let w = of_map any.Object f.objects a b in subst P (sym w.2) (o w.0 w.1))
    | inr c2 ↦ elim (Contains-append_cases (map any.Medium f.mediums) (Third f) a c2) [
      | inl b ↦ (let w = of_map any.Medium f.mediums a b in subst P (sym w.2) (m w.0 w.1))
      | inr c3 ↦ elim (Contains-append_cases (map any.Address f.addresses) (Fourth f) a c3) [
        | inl b ↦ (let w = of_map any.Address f.addresses a b in subst P (sym w.2) (d w.0 w.1))
        | inr c4 ↦ elim (Contains-append_cases (map any.Segment f.segments) (map any.Elision f.elisions) a c4) [
          | inl b ↦ (let w = of_map any.Segment f.segments a b in subst P (sym w.2) (s w.0 w.1))
          | inr b ↦ (let w = of_map any.Elision f.elisions a b in subst P (sym w.2) (e w.0 w.1))
        ]
      ]
    ]
  ]

-- facts with new numbers beside the old ones, which may be told otherwise
pub numbered_as : (was now : Memory) (told : AnyFact → AnyFact) (Added : AnyFact → Type 0) → was.next.sequence ≤ now.next.sequence → ((a : AnyFact) → any_number (told a) ≡ any_number a)
    → ((a : AnyFact) → Contains (all_of (facts now.tables)) a → ((b : AnyFact) × Contains (all_of (facts was.tables)) b × (a ≡ told b)) ⊎ Added a)
    → ((a : AnyFact) → Added a → (was.next.sequence ≤ any_number a) × (any_number a < now.next.sequence))
    → ((a b : AnyFact) → Added a → Added b → any_number a ≡ any_number b → a ≡ b)
    → AreNumbered was → AreNumbered now
numbered_as was now told Added more same split between one old = record {
  below = λ a c. elim (split a c) [ inl o ↦ (let less = below_of a o in omega (arith, less, more)) | inr n ↦ (between a n).1 ];
  distinct = λ a b c d e. elim (split a c) [
    | inl o ↦ elim (split b d) [
      | inl p ↦ o.2 ∙ ap told (old.distinct o.0 p.0 o.1 p.1 (sym (number_of a o) ∙ e ∙ number_of b p)) ∙ sym p.2
      | inr p ↦ (let less = below_of a o in (let most = (between b p).0 in absurd (omega (arith, less, most, e))))
    ]
    | inr n ↦ elim (split b d) [
      | inl p ↦ (let less = below_of b p in (let most = (between a n).0 in absurd (omega (arith, less, most, e))))
      | inr p ↦ one a b n p e
    ]
  ];
}
  where
    number_of : (a : AnyFact) (o : (b : AnyFact) × Contains (all_of (facts was.tables)) b × (a ≡ told b)) → any_number a ≡ any_number o.0
    number_of a o = ap any_number o.2 ∙ same o.0

    below_of : (a : AnyFact) → ((b : AnyFact) × Contains (all_of (facts was.tables)) b × (a ≡ told b)) → any_number a < was.next.sequence
    below_of a o = rw (number_of a o) (old.below o.0 o.1)

-- facts with new numbers beside the old ones
pub numbered_more : (was now : Memory) (Added : AnyFact → Type 0) → was.next.sequence ≤ now.next.sequence
    → ((a : AnyFact) → Contains (all_of (facts now.tables)) a → Contains (all_of (facts was.tables)) a ⊎ Added a)
    → ((a : AnyFact) → Added a → (was.next.sequence ≤ any_number a) × (any_number a < now.next.sequence))
    → ((a b : AnyFact) → Added a → Added b → any_number a ≡ any_number b → a ≡ b)
    → AreNumbered was → AreNumbered now
numbered_more was now Added more split = numbered_as was now (λ a. a) Added more (λ a. refl) (λ a c. elim (split a c) [ inl o ↦ inl (a, o, refl) | inr n ↦ inr n ])
