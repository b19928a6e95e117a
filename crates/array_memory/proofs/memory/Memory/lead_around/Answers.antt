use Rattle.array_memory.proofs.Prelude.{rules, ◌+◌, ◌==◌, ◌∷◌, [], ℕ, subst, arith, if◌then◌else◌, MediumFact, leading, Kept, TakesOnly, NOTHING, AddsRanges, led_around, no_back, no_front, with_back, with_front, takes_none, takes_then}
use Rattle.array_memory.proofs.memory.Memory.lead_around.Goals.{After-lead-3, then-to-gt0, else-to-gt0}
use Rattle.array_memory.proofs.memory.Memory.lead_around.Goals as goal

front : (c : goal.After-lead-3) → AddsRanges c.args.self.now c.if-to-gt0.self (if c.args.to == 0 then [] else leading c.args.medium.0 0 c.args.to c.args.target.now.medium.0 0 c.args.self.now.memory.next.sequence ∷ []) (if c.args.to == 0 then 0 else 1)
front c =
    let range : ℕ → MediumFact = λ i. leading c.args.medium.0 0 c.args.to c.args.target.now.medium.0 0 i in
    let was = c.args.self.now in
    elim c.if-to-gt0.branch [
      | then-to-gt0 w ↦ rw w.self-is (with_front was w.lead-then-to-gt0.new.self c.args.to (range was.memory.next.sequence) w.if-to-gt0.true
          (subst (λ (k : Kept). AddsRanges was w.lead-then-to-gt0.new.self (range k.memory.next.sequence ∷ []) 1) w.lead.view_is w.lead-then-to-gt0.ensures.adds))
      | else-to-gt0 w ↦ rw w.self-is (no_front was c.args.to (range was.memory.next.sequence) w.if-to-gt0.false)
    ]

copied : (c : goal.After-lead-3) → AddsRanges c.if-to-gt0.self c.lead-3.new.self (leading c.args.medium.0 c.args.to (c.args.to + c.args.count) c.args.source.now.medium.0 c.args.lba c.if-to-gt0.self.memory.next.sequence ∷ []) 1
copied c =
    subst (λ (k : Kept). AddsRanges c.if-to-gt0.self c.lead-3.new.self (leading c.args.medium.0 c.args.to (c.args.to + c.args.count) c.args.source.now.medium.0 c.args.lba k.memory.next.sequence ∷ []) 1) c.lead-2.view_is c.lead-3.ensures.adds

pub returns-then-to-count-clause-adds : goal.returns-then-to-count-clause-adds
returns-then-to-count-clause-adds c =
    let was = c.args.self.now in
    let mid2 = c.lead-3.new.self in
    let now = c.lead-then-to-count-2.new.self in
    let y = c.args.target.now in
    let end = c.args.to + c.args.count in
    let range : ℕ → ℕ → MediumFact = λ size i. leading c.args.medium.0 end size y.medium.0 end i in
    let last = subst (λ (k : Kept). AddsRanges mid2 now (range c.from-size.result k.memory.next.sequence ∷ []) 1) c.lead-then-to-count.view_is c.lead-then-to-count-2.ensures.adds in
    let size = c.from-size.ensures in
    let more = c.if-to-count.true in
    led_around was c.if-to-gt0.self mid2 now c.args.medium.0 c.args.lba c.args.to c.args.count c.args.source.now y (front c.before.before.before.before.before) (copied c.before.before.before.before.before)
    (with_back mid2 now end y.sectors (range y.sectors mid2.memory.next.sequence) (omega (arith, size, more))
    (subst (λ (n : ℕ). AddsRanges mid2 now (range n mid2.memory.next.sequence ∷ []) 1) size last))

pub returns-else-to-count-clause-adds : goal.returns-else-to-count-clause-adds
returns-else-to-count-clause-adds c =
    let y = c.args.target.now in
    let end = c.args.to + c.args.count in
    let mid2 = c.lead-3.new.self in
    let size = c.from-size.ensures in
    let less = c.if-to-count.false in
    led_around c.args.self.now c.if-to-gt0.self mid2 mid2 c.args.medium.0 c.args.lba c.args.to c.args.count c.args.source.now y (front c.before) (copied c.before)
    (no_back mid2 end y.sectors (leading c.args.medium.0 end y.sectors y.medium.0 end mid2.memory.next.sequence) (omega (arith, size, less)))

front_room : (c : goal.After-lead-3) → TakesOnly c.args.self.now c.if-to-gt0.self (record NOTHING { mediums = 1 })
front_room c = elim c.if-to-gt0.branch [
  | then-to-gt0 w ↦ rw w.self-is w.lead-then-to-gt0.ensures.room_left
  | else-to-gt0 w ↦ rw w.self-is (takes_none c.args.self.now (record NOTHING { mediums = 1 }))
]

pub returns-then-to-count-clause-room_left : goal.returns-then-to-count-clause-room_left
returns-then-to-count-clause-room_left c =
    takes_then c.args.self.now c.lead-3.new.self c.lead-then-to-count-2.new.self (record NOTHING { mediums = 2 }) (record NOTHING { mediums = 1 }) (record NOTHING { mediums = 3 }) (search rules)
    (takes_then c.args.self.now c.if-to-gt0.self c.lead-3.new.self (record NOTHING { mediums = 1 }) (record NOTHING { mediums = 1 }) (record NOTHING { mediums = 2 }) (search rules) (front_room c.before.before.before.before.before) c.lead-3.ensures.room_left)
    c.lead-then-to-count-2.ensures.room_left
