use Rattle.array_memory.proofs.Prelude.{◌↔◌, ◌⊎◌, ◌-◌, length, refl, sym, ◌∙◌, arith, Contains, vec_len, vec_capacity, Contains-append_right, address_key, AddressFact, facts_in, facts_of, AreBelow, below_at, no_fewer_facts, no_more_facts, given_newest, given_kept, at_ok, taken_behind, put_takes}
use Rattle.array_memory.proofs.Seen.{seen}
use Rattle.array_memory.proofs.memory.Memory.give.Goals as goal

pub put_run-requires-clause-newest : goal.put_run-requires-clause-newest
put_run-requires-clause-newest c = given_newest _ c.args.given.now c.self.invariant (rw (← c.self.view_is) at c.requires.next)

-- what was taken in
taken : (c : goal.After-self-1) → (f : AddressFact) → Contains c.put_run.new.self.facts.unflushed f ↔ (Contains c.self.inside.addresses.facts.unflushed f ⊎ Contains c.args.given.now f)
taken c = at_ok c.put_run.result _ (sym c.is_err.ensures.value ∙ c.if-is_err.false) c.put_run.ensures.facts

added : (c : goal.After-self-1) → (f : AddressFact) → Contains (facts_in c.put_run.new.self.facts) f ↔ (Contains (facts_in c.self.inside.addresses.facts) f ⊎ Contains c.args.given.now f)
added c = taken_behind c.self.inside.addresses.facts c.put_run.new.self.facts (λ (f : AddressFact). Contains c.args.given.now f) c.put_run.ensures.patches (taken c)

pub invariant_of-self : goal.invariant_of-self
invariant_of-self c =
    let m = c.self.inside in
    given_kept m.objects m.mediums.facts m.addresses.facts c.put_run.new.self.facts m.segments m.elisions m.elided m.staged.items (vec_capacity m.staged - vec_len m.staged)
    m.next _ c.args.given.now refl (added c) (rw (← c.self.view_is) at c.requires.next) (rw (← c.self.view_is) at c.requires.left) c.self.invariant

pub returns-clause-addresses : goal.returns-clause-addresses
returns-clause-addresses c = rw (← c.self.view_is) (added c)

pub returns-clause-room_left : goal.returns-clause-room_left
returns-clause-room_left c =
    let a = c.self.inside.addresses.facts in
    let given = c.args.given.now in
    let few = no_more_facts address_key (λ (f : AddressFact). f.seq.0) a.unflushed given c.put_run.new.self.facts.unflushed c.layers-2.ensures.ordered (taken c) in
    let below : AreBelow (λ (f : AddressFact). f.seq.0) (facts_in a) given = given_newest _ given c.self.invariant (rw (← c.self.view_is) at c.requires.next) in
    let many = no_fewer_facts address_key (λ (f : AddressFact). f.seq.0) a.unflushed given c.put_run.new.self.facts.unflushed c.layers.ensures.ordered c.requires.ascends
    (λ f g x y. below_at (λ (h : AddressFact). h.seq.0) (facts_in a) given f g below (Contains-append_right (facts_of a.patches) a.unflushed f x) y) (λ f x. (taken c f).1 x) in
    let k = seen c.self.inside in
    rw (← c.self.view_is) (put_takes k _ c.put_run.new.self.facts (length given) refl c.put_run.ensures.room_left few (omega (arith, many, c.put_run.ensures.room_left)))
