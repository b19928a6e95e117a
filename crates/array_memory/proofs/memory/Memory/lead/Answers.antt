use Rattle.array_memory.proofs.Prelude.{◌≡◌, ◌↔◌, ◌⊎◌, ◌+◌, ◌-◌, [], ◌∷◌, inl, inr, false, refl, sym, ap, ◌∙◌, arith, Contains, vec_len, vec_capacity, is_err, Contains-append_right, medium_key, MediumFact, facts_in, facts_of, all_below, here, only, as_none, no_more_facts, with_one_more, mediums_newer, range_kept, at_ok, taken_behind, ranges_take}
use Rattle.array_memory.proofs.Seen.{seen}
use Rattle.array_memory.proofs.memory.Memory.lead.Goals as goal

pub over-requires-clause-newest : goal.over-requires-clause-newest
over-requires-clause-newest c =
    let number = rw (← c.self.view_is) at c.requires.number in
    all_below (λ (f : MediumFact). f.seq.0) (facts_in c.self.inside.mediums.facts) (c.args.range ∷ []) (λ f g x y.
    let older = mediums_newer _ c.self.invariant f x in
    let is : g.seq.0 ≡ c.args.range.seq.0 = ap (λ (r : MediumFact). r.seq.0) (only c.args.range g y) in
    omega (arith, older, is, number))

fine : (c : goal.After-self-1) → is_err c.over.result ≡ false
fine c = sym c.is_err.ensures.value ∙ c.if-is_err.false

taken : (c : goal.After-self-1) → (f : MediumFact) → Contains c.over.new.self.facts.unflushed f ↔ (Contains c.self.inside.mediums.facts.unflushed f ⊎ Contains (c.args.range ∷ []) f)
taken c = at_ok c.over.result _ (fine c) c.over.ensures.facts

added : (c : goal.After-self-1) → (f : MediumFact) → Contains (facts_in c.over.new.self.facts) f ↔ (Contains (facts_in c.self.inside.mediums.facts) f ⊎ Contains (c.args.range ∷ []) f)
added c = taken_behind c.self.inside.mediums.facts c.over.new.self.facts (λ (f : MediumFact). Contains (c.args.range ∷ []) f) c.over.ensures.patches (taken c)

pub invariant_of-self : goal.invariant_of-self
invariant_of-self c =
    let m = c.self.inside in
    let given = rw (← c.self.view_is) at c.requires.medium in
    let number = rw (← c.self.view_is) at c.requires.number in
    let left = rw (← c.self.view_is) at c.requires.left in
    let next = c.self.invariant.next in
    range_kept c.args.range (record m.next { sequence = m.next.sequence + 1 }) m.objects m.mediums.facts c.over.new.self.facts m.addresses.facts m.segments m.elisions m.elided m.staged.items (vec_capacity m.staged - vec_len m.staged) m.next
    (added c) (record { object = next.object; medium = next.medium; segment = next.segment; patch_segment = next.patch_segment; sequence = (omega arith, left) })
    refl (omega arith) (omega arith) (omega arith) given number c.self.invariant

pub returns-clause-adds : goal.returns-clause-adds
returns-clause-adds c =
    let m = c.self.inside in
    rw (← c.self.view_is) (record {
      derived = record { objects = as_none (facts_in m.objects.facts); mediums = added c; addresses = refl; segments = refl; elisions = refl; staged = refl; next = refl };
      patches = record { objects = refl; mediums = c.over.ensures.patches; addresses = refl; segments = refl; elisions = refl };
      segments = refl;
      elided = refl;
    })

pub returns-clause-room_left : goal.returns-clause-room_left
returns-clause-room_left c =
    let d = c.self.inside.mediums.facts in
    let number = rw (← c.self.view_is) at c.requires.number in
    let few = no_more_facts medium_key (λ (f : MediumFact). f.seq.0) d.unflushed (c.args.range ∷ []) c.over.new.self.facts.unflushed c.layers-2.ensures.ordered (taken c) in
    let many = with_one_more medium_key (λ (f : MediumFact). f.seq.0) d.unflushed c.args.range c.over.new.self.facts.unflushed c.layers.ensures.ordered
    (λ f x. let older = mediums_newer _ c.self.invariant f (Contains-append_right (facts_of d.patches) d.unflushed f x) in omega (arith, older, number))
    (λ f x. (taken c f).1 (elim x [ inl a ↦ inl a | inr e ↦ inr (rw e (here c.args.range [])) ])) in
    rw (← c.self.view_is) (ranges_take (seen c.self.inside) _ 1 refl refl refl refl refl c.over.ensures.room_left (omega (arith, few)) (omega (arith, many, c.over.ensures.room_left)))
