use Rattle.array_memory.proofs.Prelude.{refl, sym, subst, ◌∙◌, arith, Contains, Contains-append_left, ObjectFact, snapshot_of, AddsOnly, Kept, IsKept, a_volume, no_volume, snapped, snapped_one, snapshot_alone, AddsObject, visible_size}
use Rattle.array_memory.proofs.memory.Memory.snapshot.Goals as goal

pub add-requires-clause-next : goal.add-requires-clause-next
add-requires-clause-next c =
    let s = c.requires.derivable in
    let x = c.object_of-object.result in
    let there : Contains c.args.self.now.objects x = subst (Contains c.args.self.now.objects) (sym (c.object_of-object.ensures.is s.source s.there s.named)) s.there in
    let some = visible_size c.args.self.now (subst IsKept c.self.view_is c.self.invariant) x there in
    let medium = rw (← c.self.view_is) at c.object_of-object.ensures.medium in
    rw (← c.self.view_is) (record { object = refl; number = refl; medium = omega (arith, medium); some = some })

pub freeze-requires-clause-there : goal.freeze-requires-clause-there
freeze-requires-clause-there c =
    let s = c.requires.derivable in
    let there : Contains c.args.self.now.objects c.object_of-object.result = subst (Contains c.args.self.now.objects) (sym (c.object_of-object.ensures.is s.source s.there s.named)) s.there in
    rw c.add.ensures.visible (Contains-append_left c.args.self.now.objects _ c.object_of-object.result there)

pub returns-then-eq-clause-adds : goal.returns-then-eq-clause-adds
returns-then-eq-clause-adds c = λ x there named.
    let was = c.args.self.now in
    let kind = a_volume c.object_of-object.result.kind (sym c.eq.ensures ∙ c.if-eq.true) in
    subst (λ (y : ObjectFact). AddsOnly was c.freeze.new.self (snapshot_of was.memory.next y c.args.new)) (c.object_of-object.ensures.is x there named)
    (snapped was c.add.new.self c.freeze.new.self c.object_of-object.result c.args.new kind c.object_of-object.ensures.medium
    (subst (λ (k : Kept). AddsObject was c.add.new.self (snapshot_alone k.memory.next c.object_of-object.result c.args.new)) c.self.view_is c.add.ensures.adds) c.freeze.ensures.adds)

pub returns-else-eq-clause-adds : goal.returns-else-eq-clause-adds
returns-else-eq-clause-adds c = λ x there named.
    let was = c.args.self.now in
    let kind = no_volume c.object_of-object.result.kind (sym c.eq.ensures ∙ c.if-eq.false) in
    subst (λ (y : ObjectFact). AddsOnly was c.add.new.self (snapshot_of was.memory.next y c.args.new)) (c.object_of-object.ensures.is x there named)
    (snapped_one was c.add.new.self c.object_of-object.result c.args.new kind c.object_of-object.ensures.medium
    (subst (λ (k : Kept). AddsObject was c.add.new.self (snapshot_alone k.memory.next c.object_of-object.result c.args.new)) c.self.view_is c.add.ensures.adds))
