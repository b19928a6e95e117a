use Rattle.array_memory.proofs.Prelude.{rules, ◌≡◌, ◌+◌, ◌≤◌, ℕ, false, refl, sym, ap, subst, ◌∙◌, arith, Contains, bytes_eq, ObjectFact, NextNumbers, ranges_beside, around, copy_of, moves_both, AddsOnly, Kept, TakesOnly, NOTHING, a_volume, no_volume, both_move, one_moves, snapshot_stays, copied_alone, copied_both, copied_one, copied_to, frozen, other_id, still_there, AddsRanges, takes_none, takes_then}
use Rattle.array_spec.specs.Base.{is_snapshot}
use Rattle.array_memory.proofs.memory.Memory.copy.Goals.{then-eq+then-ne, else-eq, else-eq-via-then-eq+else-ne, else-eq-via-else-eq}
use Rattle.array_memory.proofs.memory.Memory.copy.Goals as goal

pub freeze-requires-clause-there : goal.freeze-requires-clause-there
freeze-requires-clause-there c =
    let s = c.requires.copy in
    subst (Contains c.args.self.now.objects) (sym (c.object_of-source.ensures.is s.source s.source_there s.source_named)) s.source_there

-- the object that is copied to is there still
target_there : (c : goal.After-move_object-arg-2-1) → Contains c.if-eq.self.objects c.object_of-target.result
target_there c =
    let s = c.requires.copy in
    let was = c.args.self.now in
    let n = was.memory.next in
    let x = c.object_of-source.result in
    let y = c.object_of-target.result in
    let source : Contains was.objects x = subst (Contains was.objects) (sym (c.object_of-source.ensures.is s.source s.source_there s.source_named)) s.source_there in
    let target : Contains was.objects y = subst (Contains was.objects) (sym (c.object_of-target.ensures.is s.target s.target_there s.target_named)) s.target_there in
    elim c.if-eq.branch [
      | then-eq+then-ne w ↦ subst (λ (k : Kept). Contains k.objects y) (sym w.self-is) (rw w.freeze.ensures.visible
          (still_there x.object.0 n.medium n.sequence y was.objects (other_id was c.kept.ensures x y source target (sym w.ne.ensures ∙ w.if-ne.true)) target))
      | else-eq w ↦ subst (λ (k : Kept). Contains k.objects y) (sym w.self-is) target
    ]

pub move_object-medium-requires-clause-there : goal.move_object-medium-requires-clause-there
move_object-medium-requires-clause-there c = (c.object_of-target.result, target_there c, refl)

pub lead_around-requires-clause-medium : goal.lead_around-requires-clause-medium
lead_around-requires-clause-medium c =
    let next = ap (λ (n : NextNumbers). n.medium) (c.move_object-medium.ensures.adds c.object_of-target.result (target_there c.before.before.before.before) refl).derived.next in
    let medium = c.move_object-medium.ensures.medium in
    omega (arith, next, medium)

pub lead_around-requires-clause-within : goal.lead_around-requires-clause-within
lead_around-requires-clause-within c =
    let s = c.requires.copy in
    let size = ap (λ (x : ObjectFact). x.sectors) (c.object_of-source.ensures.is s.source s.source_there s.source_named) in
    omega (arith, size, s.within)

pub lead_around-requires-clause-to_within : goal.lead_around-requires-clause-to_within
lead_around-requires-clause-to_within c =
    let s = c.requires.copy in
    let size = ap (λ (x : ObjectFact). x.sectors) (c.object_of-target.ensures.is s.target s.target_there s.target_named) in
    omega (arith, size, s.to_within)

pub lead_around-requires-clause-left : goal.lead_around-requires-clause-left
lead_around-requires-clause-left c =
    let next = ap (λ (n : NextNumbers). n.sequence) (c.move_object-medium.ensures.adds c.object_of-target.result (target_there c.before.before.before.before) refl).derived.next in
    let left = c.requires.numbers.numbers in
    let most : c.if-eq.self.memory.next.sequence ≤ c.args.self.now.memory.next.sequence + 2 = elim c.if-eq.branch [
      | then-eq+then-ne w ↦ (let is = ap (λ (k : Kept). k.memory.next.sequence) w.self-is in let more = ap (λ (n : NextNumbers). n.sequence) w.freeze.ensures.adds.derived.next in omega (arith, is, more))
      | else-eq w ↦ (let is = ap (λ (k : Kept). k.memory.next.sequence) w.self-is in omega (arith, is))
    ] in
    omega (arith, next, left, most)

pub returns-clause-adds : goal.returns-clause-adds
returns-clause-adds c = λ a b there named other_there other_named.
    let was = c.args.self.now in
    let mid = c.if-eq.self in
    let now = c.lead_around.new.self in
    let x = c.object_of-source.result in
    let y = c.object_of-target.result in
    let lba = c.args.lba in
    let to = c.args.to in
    let count = c.args.count in
    let led = subst (λ (m : ℕ). AddsRanges c.move_object-medium.new.self now (around m c.move_object-medium.new.self.memory.next.sequence x lba y to count) (ranges_beside y.sectors to count)) c.move_object-medium.ensures.medium c.lead_around.ensures.adds in
    let copied = copied_one mid c.move_object-medium.new.self now x lba y to count (c.move_object-medium.ensures.adds y (target_there c.before.before.before.before.before) refl) led in
    let alone : mid ≡ was → moves_both x y ≡ false → AddsOnly was now (copy_of was.memory.next x lba y to count) =
    λ same one. copied_alone was now x lba y to count one (subst (λ (k : Kept). AddsOnly k now (copied_to k.memory.next x lba y to count)) same copied) in
    subst (λ (z : ObjectFact). AddsOnly was now (copy_of was.memory.next z lba b to count)) (c.object_of-source.ensures.is a there named)
    (subst (λ (z : ObjectFact). AddsOnly was now (copy_of was.memory.next x lba z to count)) (c.object_of-target.ensures.is b other_there other_named) (elim c.if-eq.branch [
      | then-eq+then-ne w ↦ copied_both was mid now x lba y to count (both_move (is_snapshot x.kind) (bytes_eq x.name y.name) (a_volume x.kind (sym c.eq.ensures ∙ w.if-eq.true)) (sym w.ne.ensures ∙ w.if-ne.true))
          (subst (λ (k : Kept). AddsOnly was k (frozen was.memory.next x)) (sym w.self-is) w.freeze.ensures.adds) copied
      | else-eq w ↦ elim w.else-eq.branch [
        | else-eq-via-then-eq+else-ne v ↦ alone w.self-is (one_moves (is_snapshot x.kind) (bytes_eq x.name y.name) (sym v.ne.ensures ∙ v.if-ne.false))
        | else-eq-via-else-eq v ↦ alone w.self-is (snapshot_stays (is_snapshot x.kind) (bytes_eq x.name y.name) (no_volume x.kind (sym c.eq.ensures ∙ v.if-eq.false)))
      ]
    ]))

pub returns-clause-room_left : goal.returns-clause-room_left
returns-clause-room_left c =
    let was = c.args.self.now in
    let mid = c.if-eq.self in
    let frozen_room : TakesOnly was mid (record NOTHING { objects = 1; mediums = 1 }) = elim c.if-eq.branch [
      | then-eq+then-ne w ↦ subst (λ (k : Kept). TakesOnly was k (record NOTHING { objects = 1; mediums = 1 })) (sym w.self-is) w.freeze.ensures.room_left
      | else-eq w ↦ subst (λ (k : Kept). TakesOnly was k (record NOTHING { objects = 1; mediums = 1 })) (sym w.self-is) (takes_none was (record NOTHING { objects = 1; mediums = 1 }))
    ] in
    takes_then was c.move_object-medium.new.self c.lead_around.new.self (record NOTHING { objects = 2; mediums = 1 }) (record NOTHING { mediums = 3 }) (record NOTHING { objects = 2; mediums = 4 }) (search rules)
    (takes_then was mid c.move_object-medium.new.self (record NOTHING { objects = 1; mediums = 1 }) (record NOTHING { objects = 1 }) (record NOTHING { objects = 2; mediums = 1 }) (search rules) frozen_room c.move_object-medium.ensures.room_left)
    c.lead_around.ensures.room_left
