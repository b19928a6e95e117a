use Rattle.array_memory.proofs.Prelude.{nat_tests, ◌≡◌, ◌↔◌, ◌⊎◌, ◌+◌, ◌-◌, ◌<◌, ◌≤◌, ℕ, max, false, refl, sym, ap, subst, ◌∙◌, arith, All, Contains, vec_len, vec_capacity, is_err, nat_lt, if◌then◌else◌, All-contains, Contains-append_right, object_key, is_elided, ObjectFact, NextNumbers, facts_in, facts_of, next_past_object, as_one, as_none, one_fact_more, with_one_more, objects_newer, objects_last, objects_distinct, free_object, object_kept, at_ok, taken_behind, object_takes}
use Rattle.pur_base.specs.declared.request.Table.TheVariants as table
use Rattle.array_memory.proofs.Seen.{seen}
use Rattle.array_memory.proofs.memory.Memory.add.Goals as goal

-- ---- what is given next

medium_is : (n m : ℕ) → m ≤ n → ◌≡◌ {A = ℕ} (max n (m + 1)) (if nat_lt m n then n else n + 1)
medium_is n m most = grind (arith, nat_tests)

module _ (n : NextNumbers) (x : ObjectFact) (most : x.medium.0 ≤ n.medium) where
  no_less : n.medium ≤ (next_past_object n x).medium
  no_less = grind (arith, nat_tests)

  its_medium : x.medium.0 < (next_past_object n x).medium
  its_medium = grind (arith, nat_tests)

pub add-requires-clause-newer : goal.add-requires-clause-newer
add-requires-clause-newer c =
    let next = rw (← c.self.view_is) at c.requires.next in
    subst (λ (i : ℕ). All (λ (f : ObjectFact). f.seq.0 < i) (facts_in c.self.inside.objects.facts)) (sym next.number) (objects_newer _ c.self.invariant)

pub add-requires-clause-last : goal.add-requires-clause-last
add-requires-clause-last c =
    let next = rw (← c.self.view_is) at c.requires.next in
    subst (λ (i : ℕ). All (λ (f : ObjectFact). f.object.0 < i) c.self.inside.objects.visible) (sym next.object) (objects_last _ c.self.invariant)

fine : (c : goal.After-self-1) → is_err c.add.result ≡ false
fine c = sym c.is_err.ensures.value ∙ c.if-is_err.false

added : (c : goal.After-self-1) → (f : ObjectFact) → Contains (facts_in c.add.new.self.facts) f ↔ (Contains (facts_in c.self.inside.objects.facts) f ⊎ (f ≡ c.args.object))
added c = taken_behind c.self.inside.objects.facts c.add.new.self.facts (λ (f : ObjectFact). f ≡ c.args.object) c.add.ensures.patches (at_ok c.add.result _ (fine c) c.add.ensures.facts)

-- the numbers that are given next then
then_is : (c : goal.After-self-1) → record c.self.inside.next { object = c.self.inside.next.object + 1; medium = c.max.result; sequence = c.self.inside.next.sequence + 1 } ≡ next_past_object c.self.inside.next c.args.object
then_is c =
    let next = rw (← c.self.view_is) at c.requires.next in
    ap (λ (i : ℕ). record c.self.inside.next { object = c.self.inside.next.object + 1; medium = i; sequence = c.self.inside.next.sequence + 1 })
    (c.max.ensures ∙ medium_is c.self.inside.next.medium c.args.object.medium.0 next.medium)

pub invariant_of-self : goal.invariant_of-self
invariant_of-self c =
    let m = c.self.inside in
    let x = c.args.object in
    let next = rw (← c.self.view_is) at c.requires.next in
    let left = rw (← c.self.view_is) at c.requires.left in
    let free : is_elided (facts_in m.elisions) table.Object x.object.0 ≡ false = ap (λ (i : ℕ). is_elided (facts_in m.elisions) table.Object i) next.object ∙ free_object _ c.self.invariant in
    let shown = at_ok c.add.result _ (fine c) c.add.ensures.says (is_elided (facts_in m.elisions) table.Object) (objects_distinct _ c.self.invariant) free c.self.invariant.objects in
    rw (then_is c) (object_kept x (next_past_object m.next x) m.objects c.add.new.self m.mediums.facts m.addresses.facts m.segments m.elisions m.elided m.staged.items (vec_capacity m.staged - vec_len m.staged) m.next
    (added c) shown left refl (omega arith) (no_less m.next x next.medium) (omega arith) (omega (arith, next.object)) (its_medium m.next x next.medium) next.some next.number c.self.invariant)

pub returns-clause-adds : goal.returns-clause-adds
returns-clause-adds c =
    let m = c.self.inside in
    rw (← c.self.view_is) (record {
      derived = record {
        objects = as_one (facts_in m.objects.facts) (facts_in c.add.new.self.facts) c.args.object (added c);
        mediums = as_none (facts_in m.mediums.facts);
        addresses = refl;
        segments = refl;
        elisions = refl;
        staged = refl;
        next = then_is c;
      };
      patches = record { objects = c.add.ensures.patches; mediums = refl; addresses = refl; segments = refl; elisions = refl };
      segments = refl;
      elided = refl;
    })

pub returns-clause-room_left : goal.returns-clause-room_left
returns-clause-room_left c =
    let o = c.self.inside.objects.facts in
    let next = rw (← c.self.view_is) at c.requires.next in
    let layers = rw c.facts.ensures at c.layers.ensures in
    let layers_then = rw c.facts-2.ensures at c.layers-2.ensures in
    let taken = at_ok c.add.result _ (fine c) c.add.ensures.facts in
    let few = one_fact_more object_key (λ (f : ObjectFact). f.seq.0) o.unflushed c.args.object c.add.new.self.facts.unflushed layers_then.ordered taken in
    let many = with_one_more object_key (λ (f : ObjectFact). f.seq.0) o.unflushed c.args.object c.add.new.self.facts.unflushed layers.ordered
    (λ f x. let older = All-contains (λ (h : ObjectFact). h.seq.0 < c.self.inside.next.sequence) (facts_in o) f (objects_newer _ c.self.invariant) (Contains-append_right (facts_of o.patches) o.unflushed f x) in omega (arith, older, next.number)) (λ f x. (taken f).1 x) in
    rw (← c.self.view_is) (object_takes (seen c.self.inside) _ 1 refl refl refl refl c.add.ensures.room_left c.add.ensures.name_room_left (omega (arith, few)) (omega (arith, many, c.add.ensures.room_left)))
