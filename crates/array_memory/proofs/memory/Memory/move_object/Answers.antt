use Rattle.array_memory.proofs.Prelude.{◌≡◌, ◌↔◌, ◌⊎◌, ◌-◌, ◌<◌, false, refl, sym, subst, ◌∙◌, arith, Contains, vec_len, vec_capacity, is_err, All-contains, Contains-append_right, object_key, is_elided, ObjectFact, facts_in, facts_of, moved, next_past_move, as_one, as_none, one_fact_more, with_one_more, moved_is, ids_of, objects_newer, objects_distinct, object_kept, visible_fact, visible_size, at_ok, taken_behind, object_takes}
use Rattle.pur_base.specs.declared.request.Table.TheVariants as table
use Rattle.array_memory.proofs.Seen.{seen}
use Rattle.array_memory.proofs.memory.Memory.move_object.Goals as goal

pub set_medium-requires-clause-newer : goal.set_medium-requires-clause-newer
set_medium-requires-clause-newer c = objects_newer _ c.self.invariant

fine : (c : goal.After-self-1) → is_err c.set_medium.result ≡ false
fine c = sym c.is_err.ensures.value ∙ c.if-is_err.false

abbrev new : goal.After-self-1 → ObjectFact → ObjectFact
new c x = moved x c.self.inside.next.medium c.self.inside.next.sequence

taken : (c : goal.After-self-1) (x : ObjectFact) → Contains c.self.inside.objects.visible x → x.object.0 ≡ c.args.id.0
    → (f : ObjectFact) → Contains c.set_medium.new.self.facts.unflushed f ↔ (Contains c.self.inside.objects.facts.unflushed f ⊎ (f ≡ new c x))
taken c x there same =
    subst (λ (y : ObjectFact). (f : ObjectFact) → Contains c.set_medium.new.self.facts.unflushed f ↔ (Contains c.self.inside.objects.facts.unflushed f ⊎ (f ≡ y)))
    (moved_is c.args.id.0 c.self.inside.next.medium c.self.inside.next.sequence x same) (at_ok c.set_medium.result _ (fine c) c.set_medium.ensures.facts x there same)

added : (c : goal.After-self-1) (x : ObjectFact) → Contains c.self.inside.objects.visible x → x.object.0 ≡ c.args.id.0
    → (f : ObjectFact) → Contains (facts_in c.set_medium.new.self.facts) f ↔ (Contains (facts_in c.self.inside.objects.facts) f ⊎ (f ≡ new c x))
added c x there same = taken_behind c.self.inside.objects.facts c.set_medium.new.self.facts (λ (f : ObjectFact). f ≡ new c x) c.set_medium.ensures.patches (taken c x there same)

pub invariant_of-self : goal.invariant_of-self
invariant_of-self c =
    let m = c.self.inside in
    let w = rw (← c.self.view_is) at c.requires.there in
    let left = rw (← c.self.view_is) at c.requires.left in
    let ids = ids_of _ c.self.invariant w.0 (visible_fact _ c.self.invariant w.0 w.1) in
    let shown = at_ok c.set_medium.result _ (fine c) c.set_medium.ensures.says (is_elided (facts_in m.elisions) table.Object) (objects_distinct _ c.self.invariant) c.self.invariant.objects in
    object_kept (new c w.0) (next_past_move m.next) m.objects c.set_medium.new.self m.mediums.facts m.addresses.facts m.segments m.elisions m.elided m.staged.items (vec_capacity m.staged - vec_len m.staged) m.next
    (added c w.0 w.1 w.2) shown left refl (omega arith) (omega arith) (omega arith) ids.0 (omega arith) (visible_size _ c.self.invariant w.0 w.1) refl c.self.invariant

pub returns-clause-adds : goal.returns-clause-adds
returns-clause-adds c =
    let m = c.self.inside in
    rw (← c.self.view_is) (λ x there same. record {
      derived = record {
        objects = as_one (facts_in m.objects.facts) (facts_in c.set_medium.new.self.facts) (new c x) (added c x there same);
        mediums = as_none (facts_in m.mediums.facts);
        addresses = refl;
        segments = refl;
        elisions = refl;
        staged = refl;
        next = refl;
      };
      patches = record { objects = c.set_medium.ensures.patches; mediums = refl; addresses = refl; segments = refl; elisions = refl };
      segments = refl;
      elided = refl;
    })

pub returns-clause-room_left : goal.returns-clause-room_left
returns-clause-room_left c =
    let o = c.self.inside.objects.facts in
    let w = rw (← c.self.view_is) at c.requires.there in
    let x = new c w.0 in
    let layers = rw c.facts.ensures at c.layers.ensures in
    let layers_then = rw c.facts-2.ensures at c.layers-2.ensures in
    let more = taken c w.0 w.1 w.2 in
    let few = one_fact_more object_key (λ (f : ObjectFact). f.seq.0) o.unflushed x c.set_medium.new.self.facts.unflushed layers_then.ordered more in
    let many = with_one_more object_key (λ (f : ObjectFact). f.seq.0) o.unflushed x c.set_medium.new.self.facts.unflushed layers.ordered
    (λ f d. All-contains (λ (h : ObjectFact). h.seq.0 < c.self.inside.next.sequence) (facts_in o) f (objects_newer _ c.self.invariant) (Contains-append_right (facts_of o.patches) o.unflushed f d)) (λ f d. (more f).1 d) in
    let names = c.set_medium.ensures.name_room_left in
    rw (← c.self.view_is) (object_takes (seen c.self.inside) _ 0 refl refl refl refl c.set_medium.ensures.room_left (omega (arith, names)) (omega (arith, few)) (omega (arith, many, c.set_medium.ensures.room_left)))
