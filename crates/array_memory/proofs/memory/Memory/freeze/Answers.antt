use Rattle.array_memory.proofs.Prelude.{◌≡◌, ◌∷◌, [], ℕ, refl, ap, subst, ◌∙◌, arith, MediumFact, NextNumbers, here, moved, whole, next_past_move, Kept, IsKept, AddsRanges, added_size, froze}
use Rattle.array_memory.proofs.memory.Memory.freeze.Goals as goal

-- the range that is taken in
range_is : (c : goal.After-whole) → c.whole.result ≡ whole c.args.self.now.memory.next.medium c.args.volume.now c.move_object-medium.new.self.memory.next.sequence
range_is c =
    c.whole.ensures ∙ ap (λ (i : ℕ). whole i c.args.volume.now c.self.inside.next.sequence) c.move_object-medium.ensures.medium
    ∙ ap (λ (k : Kept). whole c.args.self.now.memory.next.medium c.args.volume.now k.memory.next.sequence) c.self.view_is

pub lead-requires-clause-medium : goal.lead-requires-clause-medium
lead-requires-clause-medium c =
    let next = (c.move_object-medium.ensures.adds c.args.volume.now c.requires.there refl).derived.next in
    let more = ap (λ (n : NextNumbers). n.medium) next in
    let is = ap (λ (r : MediumFact). r.medium.0) (range_is c) in
    omega (arith, more, is)

pub lead-requires-clause-some : goal.lead-requires-clause-some
lead-requires-clause-some c =
    let was = c.args.self.now in
    let mid = c.move_object-medium.new.self in
    let x = moved c.args.volume.now was.memory.next.medium was.memory.next.sequence in
    let size = added_size was mid (record { objects = x ∷ []; ranges = []; next = next_past_move was.memory.next }) (subst IsKept c.self.view_is c.self.invariant) (c.move_object-medium.ensures.adds c.args.volume.now c.requires.there refl) x (here x []) in
    let start = ap (λ (r : MediumFact). r.start) (range_is c) in
    let end = ap (λ (r : MediumFact). r.end) (range_is c) in
    omega (arith, size, start, end)

pub lead-requires-clause-left : goal.lead-requires-clause-left
lead-requires-clause-left c =
    let next = (c.move_object-medium.ensures.adds c.args.volume.now c.requires.there refl).derived.next in
    let more = ap (λ (n : NextNumbers). n.sequence) next in
    let left = c.requires.left.sequence.1 in
    omega (arith, more, left)

pub returns-clause-adds : goal.returns-clause-adds
returns-clause-adds c =
    froze c.args.self.now c.move_object-medium.new.self c.lead.new.self c.args.volume.now (c.move_object-medium.ensures.adds c.args.volume.now c.requires.there refl)
    (subst (λ (r : MediumFact). AddsRanges c.move_object-medium.new.self c.lead.new.self (r ∷ []) 1) (range_is c.before) c.lead.ensures.adds)
