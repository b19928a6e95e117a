use Rattle.array_memory.proofs.Prelude.{nat_tests, ◌≡◌, ◌↔◌, ◌⊎◌, ℕ, ◌+◌, ◌-◌, ◌<◌, length, refl, sym, ap, ◌∙◌, arith, Contains, Result, Ok, Err, IsOk, is_err, true, vec_len, vec_capacity, Contains-append_right, medium_key, MediumFact, facts_in, facts_of, all_contained, cut_facts, no_fewer_facts, no_more_facts, range_given, cut_kept, mediums_newer, at_ok, taken_behind, ranges_take}
use Rattle.command_spec.proofs.CutFacts.{cut_ascends, cut_number}
use Rattle.array_memory.proofs.ResolveLemmas.{seen_lowest}
use Rattle.array_memory.proofs.Seen.{seen}
use Rattle.array_memory.proofs.memory.Memory.cut.Goals as goal
use Rattle.array_memory.proofs.memory.Memory.cut.Goals.{then-from-range, else-from-range}

pub cut_front-requires-clause-lowest : goal.cut_front-requires-clause-lowest
cut_front-requires-clause-lowest c =
    let range = c.args.range.now in
    let low = seen_lowest (seen c.self.inside) c.self.invariant c.ranges-elided.result.now c.ranges-elided.ensures.value range.medium.0 range (rw (← c.self.view_is) at c.requires.lowest) in
    (range, record { lowest = low; behind_start = c.requires.some; within_end = c.requires.within }, c.requires.fits)

pub cut_front-requires-clause-newest : goal.cut_front-requires-clause-newest
cut_front-requires-clause-newest c = all_contained (λ (f : MediumFact). f.seq.0 < c.self.inside.next.sequence) (facts_in c.self.inside.mediums.facts) (λ f i. mediums_newer (seen c.self.inside) c.self.invariant f i)

not_both : {T E : Type 0} (r : Result T E) → IsOk r → is_err r ≡ true → ⊥
not_both (Ok x) ok failed = cc failed
not_both (Err e) ok failed = cc ok

-- there is room
pub unreachable-requires : goal.unreachable-requires
unreachable-requires c =
    let range = c.args.range.now in
    let low = seen_lowest (seen c.self.inside) c.self.invariant c.ranges-elided.result.now c.ranges-elided.ensures.value range.medium.0 range (rw (← c.self.view_is) at c.requires.lowest) in
    not_both c.cut_front.result (c.cut_front.ensures.room range low (rw (← c.self.view_is) at c.requires.room)) (sym c.is_err.ensures.value ∙ c.if-is_err.true)

count_is : (c : goal.After-self-1) → c.if-from-range.self ≡ length (cut_facts c.args.range.now c.args.until c.self.inside.next.sequence)
count_is c = elim c.if-from-range.branch [
  | then-from-range w ↦ (let less = w.if-from-range.true in let of = c.from.ensures in let two = w.self-is in grind (arith, nat_tests))
  | else-from-range w ↦ (let most = w.if-from-range.false in let of = c.from.ensures in let one = w.self-is in grind (arith, nat_tests))
]

-- what was taken in
taken : (c : goal.After-self-1) → (f : MediumFact) → Contains c.cut_front.new.self.facts.unflushed f ↔ (Contains c.self.inside.mediums.facts.unflushed f ⊎ Contains (cut_facts c.args.range.now c.args.until c.self.inside.next.sequence) f)
taken c =
    let range = c.args.range.now in
    let low = seen_lowest (seen c.self.inside) c.self.invariant c.ranges-elided.result.now c.ranges-elided.ensures.value range.medium.0 range (rw (← c.self.view_is) at c.requires.lowest) in
    at_ok c.cut_front.result _ (sym c.is_err.ensures.value ∙ c.if-is_err.false) (c.cut_front.ensures.facts range low)

added : (c : goal.After-self-1) → (f : MediumFact) → Contains (facts_in c.cut_front.new.self.facts) f ↔ (Contains (facts_in c.self.inside.mediums.facts) f ⊎ Contains (cut_facts c.args.range.now c.args.until c.self.inside.next.sequence) f)
added c = taken_behind c.self.inside.mediums.facts c.cut_front.new.self.facts (λ (f : MediumFact). Contains (cut_facts c.args.range.now c.args.until c.self.inside.next.sequence) f) c.cut_front.ensures.patches (taken c)

pub invariant_of-self : goal.invariant_of-self
invariant_of-self c =
    let m = c.self.inside in
    let low = rw (← c.self.view_is) at c.requires.lowest in
    let given = range_given (seen m).memory c.args.range.now.medium.0 c.args.range.now.start c.args.range.now c.self.invariant.ids low.there in
    cut_kept c.args.range.now c.args.until m.next m.objects m.mediums.facts c.cut_front.new.self.facts m.addresses.facts m.segments m.elisions m.elided m.staged.items (vec_capacity m.staged - vec_len m.staged) _
    (ap (λ (n : ℕ). record m.next { sequence = m.next.sequence + n }) (count_is c)) (added c) given (rw (← c.self.view_is) at c.requires.left) c.self.invariant

pub returns-clause-mediums : goal.returns-clause-mediums
returns-clause-mediums c = rw (← c.self.view_is) (added c)

pub returns-clause-room_left : goal.returns-clause-room_left
returns-clause-room_left c =
    let m = c.self.inside.mediums.facts in
    let range = c.args.range.now in
    let cut = cut_facts range c.args.until c.self.inside.next.sequence in
    let low = seen_lowest (seen c.self.inside) c.self.invariant c.ranges-elided.result.now c.ranges-elided.ensures.value range.medium.0 range (rw (← c.self.view_is) at c.requires.lowest) in
    let few = no_more_facts medium_key (λ (f : MediumFact). f.seq.0) m.unflushed cut c.cut_front.new.self.facts.unflushed c.layers-2.ensures.ordered (taken c) in
    let k = seen c.self.inside in
    let many = no_fewer_facts medium_key (λ (f : MediumFact). f.seq.0) m.unflushed cut c.cut_front.new.self.facts.unflushed c.layers.ensures.ordered (cut_ascends range c.args.until c.self.inside.next.sequence c.requires.some)
    (λ f g x y. let old = mediums_newer k c.self.invariant f (Contains-append_right (facts_of m.patches) m.unflushed f x) in let new = (cut_number range c.args.until c.self.inside.next.sequence g y).0 in omega (arith, old, new)) (λ f x. (taken c f).1 x) in
    let left = c.cut_front.ensures.room_left range low in
    rw (← c.self.view_is) (ranges_take k _ (length cut) refl refl refl refl refl left (omega (arith, few)) (omega (arith, many, left)))
