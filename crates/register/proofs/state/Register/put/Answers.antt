use Rattle.register.proofs.Prelude.{rules, arith, ◌≡◌, ◌+◌, ◌<◌, List, Bool, ◌++◌, refl, length, drop, subst, IsOk, IsMember, set_count, put_back, fewer_count, from_ok}
use Rattle.register.proofs.Made.{drops_put}
use Rattle.register.proofs.Rounds.{cut_left}
use Rattle.register.proofs.state.Register.put.Goals as goal

pub returns-in-Ok-clause-shown : goal.returns-in-Ok-clause-shown
returns-in-Ok-clause-shown g c h i m =
    let all : length c.store-stored.new.members ≡ c.args.self.now.record.slots = search rules in
    let cut = put_back c.args.self.now.record.slots c.store-stored.new.members (drop c.args.self.now.record.slots c.args.self.now.drives) all in
    let is : IsOk c.store-stored.result = search rules in
    let shown = rw (c.slot_for-slot.ensures, c.deref.ensures.value) at (from_ok c.store-stored.result (c.store-stored.ensures.shown h) is) in
    shown i (subst (λ (l : List Bool). IsMember l i) cut m)

pub returns-in-Ok-clause-again : goal.returns-in-Ok-clause-again
returns-in-Ok-clause-again g c h = rw (c.slot_for-slot.ensures, c.deref.ensures.value) at (c.store-stored.ensures.again h)

pub returns-in-Err-clause-again : goal.returns-in-Err-clause-again
returns-in-Err-clause-again g c h = rw (c.slot_for-slot.ensures, c.deref.ensures.value) at (c.store-stored.ensures.again h)

pub returns-in-Ok-clause-stored : goal.returns-in-Ok-clause-stored
returns-in-Ok-clause-stored g c h =
    let all : length c.store-stored.new.members ≡ c.args.self.now.record.slots = search rules in
    let cut = put_back c.args.self.now.record.slots c.store-stored.new.members (drop c.args.self.now.record.slots c.args.self.now.drives) all in
    let is : IsOk c.store-stored.result = search rules in
    rw cut (rw (c.slot_for-slot.ensures, c.deref.ensures.value) at (from_ok c.store-stored.result (c.store-stored.ensures.stored h) is))

pub returns-in-Ok-clause-stored_on : goal.returns-in-Ok-clause-stored_on
returns-in-Ok-clause-stored_on g c h =
    let all : length c.store-stored.new.members ≡ c.args.self.now.record.slots = search rules in
    let cut = put_back c.args.self.now.record.slots c.store-stored.new.members (drop c.args.self.now.record.slots c.args.self.now.drives) all in
    let is : IsOk c.store-stored.result = search rules in
    rw cut (rw (c.slot_for-slot.ensures, c.deref.ensures.value) at (from_ok c.store-stored.result (c.store-stored.ensures.stored_on h) is))

pub returns-in-Ok-clause-left : goal.returns-in-Ok-clause-left
returns-in-Ok-clause-left g c =
    let all : length c.store-stored.new.members ≡ c.args.self.now.record.slots = search rules in
    let flags : length c.args.self.now.drives ≡ 24 = search rules in
    drops_put c.store-stored.new.members c.store-stored.ensures.ran.on.continues c.requires.is_of refl refl all flags c.store-stored.ensures.members

pub returns-in-Err-clause-left : goal.returns-in-Err-clause-left
returns-in-Err-clause-left g c =
    let all : length c.store-stored.new.members ≡ c.args.self.now.record.slots = search rules in
    let flags : length c.args.self.now.drives ≡ 24 = search rules in
    drops_put c.store-stored.new.members c.store-stored.ensures.ran.on.continues c.requires.is_of refl refl all flags c.store-stored.ensures.members

pub returns-in-Err-clause-made : goal.returns-in-Err-clause-made
returns-in-Err-clause-made g c =
    let all : length c.store-stored.new.members ≡ c.args.self.now.record.slots = search rules in
    let few : set_count c.store-stored.new.members + 2 < length c.store-stored.new.members = search rules in
    let left = fewer_count (c.store-stored.new.members ++ drop c.args.self.now.record.slots c.args.self.now.drives) c.store-stored.new.members
    (λ i m. cut_left c.requires.is_of c.store-stored.new.members i all m) in
    let low : set_count (c.store-stored.new.members ++ drop c.args.self.now.record.slots c.args.self.now.drives) + 2 < c.args.self.now.record.slots = omega (arith, few, left, all) in
    record { kept = refl; enough = tt; too_few = low; fault = (refl, low) }
