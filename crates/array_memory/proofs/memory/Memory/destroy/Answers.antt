use Rattle.array_memory.proofs.Prelude.{◌≡◌, ◌⊎◌, inl, inr, ◌↔◌, ◌-◌, ◌<◌, [], ◌∷◌, refl, sym, ap, subst, ◌∙◌, arith, Contains, IsTrue, vec_len, vec_capacity, Contains-append_right, elision_key, is_elided, ObjectFact, ElisionFact, facts_in, facts_of, AreBelow, Layers, here, IsElisionOf, above_flushed, above_unflushed, only, no_more_facts, with_one_more, ids_of, visible_fact, at_ok, taken_behind}
use Rattle.pur_base.specs.declared.request.Table.TheVariants as table
use Rattle.command_spec.proofs.RemovedLemmas.{elision_newer, newer_elision, elision_is, removed_kept, elision_takes}
use Rattle.array_memory.proofs.Seen.{seen}
use Rattle.array_memory.proofs.memory.Memory.destroy.Goals as goal

-- the elision is of the object's id
made : (c : goal.After-insert_run-arg-2-1) → IsElisionOf table.Object (λ i. IsTrue (is_elided (facts_in c.self.inside.elisions) table.Object i)) c.self.inside.next.sequence c.object_of-object.result.object.0 c.elision_of-elision.result
made c = elision_is (seen c.self.inside) c.self.invariant c.elide.new.self c.self.inside.next.sequence c.object_of-object.result.object.0 c.elision_of-elision.result
    (at_ok c.elide.result _ (sym c.is_err.ensures.value ∙ c.if-is_err.false) c.elide.ensures.ids) c.elision_of-elision.ensures

newest : (c : goal.After-insert_run-arg-2-1) → AreBelow (λ (f : ElisionFact). f.seq.0) (facts_in c.self.inside.elisions) (c.elision_of-elision.result ∷ [])
newest c = newer_elision (seen c.self.inside) c.self.invariant c.elision_of-elision.result (made c).numbered

pub insert_run-requires-clause-fresh : goal.insert_run-requires-clause-fresh
insert_run-requires-clause-fresh c =
    above_unflushed (λ (f : ElisionFact). f.seq.0) (facts_of c.self.inside.elisions.patches) c.self.inside.elisions.unflushed (c.elision_of-elision.result ∷ []) (newest c)

pub insert_run-requires-clause-rising : goal.insert_run-requires-clause-rising
insert_run-requires-clause-rising c =
    above_flushed (λ (f : ElisionFact). f.seq.0) (facts_of c.self.inside.elisions.patches) c.self.inside.elisions.unflushed (c.elision_of-elision.result ∷ []) (newest c)

-- and so it is at the end
of_id : (c : goal.After-self-1) → IsElisionOf table.Object (λ i. IsTrue (is_elided (facts_in c.self.inside.elisions) table.Object i)) c.self.inside.next.sequence c.object_of-object.result.object.0 c.elision_of-elision.result
of_id c = elision_is (seen c.self.inside) c.self.invariant c.elide.new.self c.self.inside.next.sequence c.object_of-object.result.object.0 c.elision_of-elision.result
    (at_ok c.elide.result _ (sym c.is_err.ensures.value ∙ c.if-is_err.false) c.elide.ensures.ids) c.elision_of-elision.ensures

taken : (c : goal.After-self-1) → (f : ElisionFact) → Contains c.insert_run.new.self.unflushed f ↔ (Contains c.self.inside.elisions.unflushed f ⊎ Contains (c.elision_of-elision.result ∷ []) f)
taken c = at_ok c.insert_run.result _ (sym c.is_err-2.ensures.value ∙ c.if-is_err-2.false) c.insert_run.ensures.facts

added : (c : goal.After-self-1) → (f : ElisionFact) → Contains (facts_in c.insert_run.new.self) f ↔ (Contains (facts_in c.self.inside.elisions) f ⊎ Contains (c.elision_of-elision.result ∷ []) f)
added c = taken_behind c.self.inside.elisions c.insert_run.new.self (λ (f : ElisionFact). Contains (c.elision_of-elision.result ∷ []) f) c.insert_run.ensures.patches (taken c)

pub invariant_of-self : goal.invariant_of-self
invariant_of-self c =
    let m = c.self.inside in
    let left = rw (← c.self.view_is) at c.requires.numbers in
    let w = rw (← c.self.view_is) at c.requires.there in
    let ids = at_ok c.elide.result _ (sym c.is_err.ensures.value ∙ c.if-is_err.false) c.elide.ensures.ids in
    let given = (ids_of _ c.self.invariant w.0 (visible_fact _ c.self.invariant w.0 w.1)).0 in
    let is = rw (← c.self.view_is) at c.object_of-object.ensures.is in
    let same : c.object_of-object.result ≡ w.0 = is w.0 w.1 w.2 in
    removed_kept m.objects c.remove.new.self m.mediums.facts m.addresses.facts m.segments m.elisions c.insert_run.new.self m.elided c.elide.new.self m.staged.items (vec_capacity m.staged - vec_len m.staged) m.next
    c.object_of-object.result.object.0 c.elision_of-elision.result (of_id c) (added c) ids c.elide.ensures.others (c.are_apart.ensures table.Object) c.remove.ensures.facts c.remove.ensures.says
    (subst (λ (x : ObjectFact). x.object.0 < m.next.object) (sym same) given) (omega (arith, left.numbers)) c.self.invariant

pub returns-clause-removed : goal.returns-clause-removed
returns-clause-removed c =
    let m = c.self.inside in
    let is = rw (← c.self.view_is) at c.object_of-object.ensures.is in
    let f = c.elision_of-elision.result in
    rw (← c.self.view_is) (λ x there named. (
      f,
      record {
        is = subst (λ (y : ObjectFact). IsElisionOf table.Object (λ i. IsTrue (is_elided (facts_in m.elisions) table.Object i)) m.next.sequence y.object.0 f) (is x there named) (of_id c);
        objects = ap (λ (l : Layers ObjectFact). facts_in l) c.remove.ensures.facts;
        mediums = refl;
        addresses = refl;
        segments = refl;
        elisions = λ e. (
          λ d. elim ((added c e).0 d) [ inl old ↦ inl old | inr new ↦ inr (only f e new) ],
          λ d. (added c e).1 (elim d [ inl old ↦ inl old | inr same ↦ inr (subst (λ z. Contains (f ∷ []) z) (sym same) (here f [])) ]),
        );
        staged = refl;
        next = refl;
      },
    ))

pub returns-clause-room_left : goal.returns-clause-room_left
returns-clause-room_left c =
    let e = c.self.inside.elisions in
    let f = c.elision_of-elision.result in
    let few = no_more_facts elision_key (λ (g : ElisionFact). g.seq.0) e.unflushed (f ∷ []) c.insert_run.new.self.unflushed c.layers-2.ensures.ordered (taken c) in
    let many = with_one_more elision_key (λ (g : ElisionFact). g.seq.0) e.unflushed f c.insert_run.new.self.unflushed c.layers.ensures.ordered
    (λ g x. let older = elision_newer (seen c.self.inside) c.self.invariant g (Contains-append_right (facts_of e.patches) e.unflushed g x) in let number = (of_id c).numbered in omega (arith, older, number))
    (λ g x. (taken c g).1 (elim x [ inl old ↦ inl old | inr same ↦ inr (subst (λ z. Contains (f ∷ []) z) (sym same) (here f [])) ])) in
    rw (← c.self.view_is) (elision_takes (seen c.self.inside) _ f (ap (λ (l : Layers ObjectFact). record (seen c.self.inside).memory.tables { objects = l; elisions = c.insert_run.new.self }) c.remove.ensures.facts) refl refl
    c.remove.ensures.name_room c.elide.ensures.room_left (of_id c).of_table c.insert_run.ensures.room_left (omega (arith, few)) (omega (arith, many, c.insert_run.ensures.room_left)) (taken c))
