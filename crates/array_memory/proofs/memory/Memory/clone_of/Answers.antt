use Rattle.array_memory.proofs.Prelude.{◌≡◌, ◌≢◌, ◌∷◌, [], List, refl, sym, ap, subst, ◌∙◌, arith, All, Contains, ObjectFact, MediumFact, clone_of, whole, AddsOnly, Kept, IsKept, a_volume, no_volume, clone_alone, clone_led, cloned, cloned_one, cloned_snapshot, frozen, still_fresh, AddsObject, AddsRanges, visible_size}
use Rattle.array_memory.proofs.memory.Memory.clone_of.Goals.{then-eq, else-eq}
use Rattle.array_memory.proofs.memory.Memory.clone_of.Goals as goal

pub freeze-requires-clause-there : goal.freeze-requires-clause-there
freeze-requires-clause-there c =
    let s = c.requires.derivable in
    subst (Contains c.args.self.now.objects) (sym (c.object_of-object.ensures.is s.source s.there s.named)) s.there

pub add-requires-clause-next : goal.add-requires-clause-next
add-requires-clause-next c =
    let s = c.requires.derivable in
    let x = c.object_of-object.result in
    let there : Contains c.args.self.now.objects x = subst (Contains c.args.self.now.objects) (sym (c.object_of-object.ensures.is s.source s.there s.named)) s.there in
    let some = visible_size c.args.self.now (subst IsKept c.self.view_is c.self.invariant) x there in
    rw (← c.self-2.view_is) (record { object = refl; number = refl; medium = omega arith; some = some })

pub add-requires-clause-name : goal.add-requires-clause-name
add-requires-clause-name c =
    let n = c.args.self.now.memory.next in
    let fresh : List ObjectFact → Type 0 = λ l. All (λ (x : ObjectFact). x.name ≢ c.args.new) l in
    elim c.if-eq.branch [
      | then-eq w ↦ subst (λ (k : Kept). fresh k.objects) (sym w.self-is)
          (subst fresh (sym w.freeze.ensures.visible) (still_fresh c.object_of-object.result.object.0 n.medium n.sequence c.args.new c.args.self.now.objects c.requires.derivable.fresh))
      | else-eq w ↦ subst (λ (k : Kept). fresh k.objects) (sym w.self-is) c.requires.derivable.fresh
    ]

pub lead-requires-clause-some : goal.lead-requires-clause-some
lead-requires-clause-some c =
    let s = c.requires.derivable in
    let x = c.object_of-object.result in
    let there : Contains c.args.self.now.objects x = subst (Contains c.args.self.now.objects) (sym (c.object_of-object.ensures.is s.source s.there s.named)) s.there in
    let some = visible_size c.args.self.now (subst IsKept c.self.view_is c.self.invariant) x there in
    let start = ap (λ (r : MediumFact). r.start) c.whole.ensures in
    let end = ap (λ (r : MediumFact). r.end) c.whole.ensures in
    omega (arith, some, start, end)

pub returns-clause-adds : goal.returns-clause-adds
returns-clause-adds c = λ y there named.
    let was = c.args.self.now in
    let mid = c.if-eq.self in
    let now = c.lead.new.self in
    let x = c.object_of-object.result in
    let range : c.whole.result ≡ whole mid.memory.next.medium x c.add.new.self.memory.next.sequence =
    c.whole.ensures ∙ ap (λ (k : Kept). whole k.memory.next.medium x c.self-3.inside.next.sequence) c.self-2.view_is ∙ ap (λ (k : Kept). whole mid.memory.next.medium x k.memory.next.sequence) c.self-3.view_is in
    let led : AddsOnly mid now (clone_led mid.memory.next x c.args.new) =
    cloned_one mid c.add.new.self now x c.args.new (subst (λ (k : Kept). AddsObject mid c.add.new.self (clone_alone k.memory.next x c.args.new)) c.self-2.view_is c.add.ensures.adds)
    (subst (λ (r : MediumFact). AddsRanges c.add.new.self now (r ∷ []) 1) range c.lead.ensures.adds) in
    subst (λ (z : ObjectFact). AddsOnly was now (clone_of was.memory.next z c.args.new)) (c.object_of-object.ensures.is y there named) (elim c.if-eq.branch [
      | then-eq w ↦ cloned was mid now x c.args.new (a_volume x.kind (sym c.eq.ensures ∙ w.if-eq.true)) (subst (λ (k : Kept). AddsOnly was k (frozen was.memory.next x)) (sym w.self-is) w.freeze.ensures.adds) led
      | else-eq w ↦ cloned_snapshot was now x c.args.new (no_volume x.kind (sym c.eq.ensures ∙ w.if-eq.false)) (subst (λ (k : Kept). AddsOnly k now (clone_led k.memory.next x c.args.new)) w.self-is led)
    ])
