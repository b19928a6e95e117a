use Rattle.boot_region.proofs.Prelude.{rules, ℕ, List, ap, ◌∙◌, Some, Array, BootRecord, Conditions, drive, LeavesOnly, Ran, continues_trans, then_run, weaker, ran_then, ran_more, IsMember, IsOneOf, LosesOnlyFailed, OnSlot, slot_in, AreEnough, IsFirmOn, StandsAgain, StandsNow}
use Rattle.boot_region.proofs.Stored.{IsUnopened, body_stands, loses_closed, loses_then, loses_written, on_fewer, on_gates, on_bodies, on_opened, in_store, unopened_first, unopened_second, in_third, again_first, again_second, again_third, is_stored, is_stored_on, for_ok}
use Rattle.boot_region.proofs.storing.store.Given as given
use Rattle.boot_region.proofs.storing.store.Goals as goal
use Rattle.boot_region.proofs.storing.store.Goals.{After-close_gates, After-write_bodies}

-- ---- gates are closed

loses_first : (g : given.Over) (c : After-close_gates g) → LosesOnlyFailed (g.S.Shelf.shelf c.args.shelf.now) (g.S.Shelf.shelf c.close_gates.new.shelf) c.args.members.now c.close_gates.new.members
loses_first g c = loses_closed _ _ _ _ c.close_gates.auto.members c.close_gates.ensures.outcome

ran_first : (g : given.Over) (c : After-close_gates g) → Ran g.S.Shelf.shelf g.S.Shelf.shelf_rest (IsOneOf c.args.members.now) (OnSlot c.args.members.now (slot_in c.args.slot)) c.args.shelf.now c.close_gates.new.shelf
ran_first g c =
    ran_more (λ k is. is) (on_gates c.args.members.now (slot_in c.args.slot) (g.S.Shelf.shelf c.args.shelf.now) (λ k. ((g.S.Shelf.shelf c.close_gates.new.shelf).disk k).faults)) c.close_gates.ensures.ran

first : (g : given.Over) (c : After-close_gates g) → (g.S.Shelf.shelf c.args.shelf.now).honest
    → LeavesOnly (g.S.Shelf.shelf c.args.shelf.now) (g.S.Shelf.shelf c.close_gates.new.shelf) (IsUnopened (g.S.Shelf.shelf c.args.shelf.now) c.args.members.now (slot_in c.args.slot))
first g c h = weaker (unopened_first (g.S.Shelf.shelf c.args.shelf.now) c.args.members.now (slot_in c.args.slot) c.args.body.now (g.met.S.Shelf.is_shelf c.args.shelf.now) h) (c.close_gates.ensures.moments h)

first_again : (g : given.Over) (c : After-close_gates g) → (g.S.Shelf.shelf c.args.shelf.now).honest → (missing : Conditions) (held : BootRecord) (arrays : List Array)
    → IsFirmOn (g.S.Shelf.shelf c.args.shelf.now) c.args.members.now missing (slot_in c.args.slot) held → StandsNow (g.S.Shelf.shelf c.args.shelf.now) missing arrays
    → LeavesOnly (g.S.Shelf.shelf c.args.shelf.now) (g.S.Shelf.shelf c.close_gates.new.shelf) (StandsAgain (g.S.Shelf.shelf c.args.shelf.now) missing arrays)
first_again g c h missing held arrays firm stand =
    weaker (again_first (g.S.Shelf.shelf c.args.shelf.now) c.args.members.now (slot_in c.args.slot) c.args.body.now (g.met.S.Shelf.is_shelf c.args.shelf.now) h missing held arrays firm stand) (c.close_gates.ensures.moments h)

-- it may end there
pub returns-in_err-check_enough-clause-members : goal.returns-in_err-check_enough-clause-members
returns-in_err-check_enough-clause-members g c = loses_first g (goal.at.returns-in_err-check_enough-clause-members g c).After-close_gates

pub returns-in_err-check_enough-clause-ran : goal.returns-in_err-check_enough-clause-ran
returns-in_err-check_enough-clause-ran g c = ran_first g (goal.at.returns-in_err-check_enough-clause-ran g c).After-close_gates

pub returns-in_err-check_enough-clause-moments : goal.returns-in_err-check_enough-clause-moments
returns-in_err-check_enough-clause-moments g c h = weaker (λ stop. in_store c.args.body.now) (first g (goal.at.returns-in_err-check_enough-clause-moments g c).After-close_gates h)

pub returns-in_err-check_enough-clause-again : goal.returns-in_err-check_enough-clause-again
returns-in_err-check_enough-clause-again g c h missing held boot arrays spells firm follow =
    first_again g (goal.at.returns-in_err-check_enough-clause-again g c).After-close_gates h missing held arrays firm follow.stands

-- ---- bodies are written

loses_second : (g : given.Over) (c : After-write_bodies g) → LosesOnlyFailed (g.S.Shelf.shelf c.close_gates.new.shelf) (g.S.Shelf.shelf c.write_bodies.new.shelf) c.close_gates.new.members c.write_bodies.new.members
loses_second g c = loses_written _ _ _ _ c.write_bodies.auto.members c.write_bodies.ensures.outcome

second : (g : given.Over) (c : After-write_bodies g) → (g.S.Shelf.shelf c.args.shelf.now).honest
    → LeavesOnly (g.S.Shelf.shelf c.close_gates.new.shelf) (g.S.Shelf.shelf c.write_bodies.new.shelf) (IsUnopened (g.S.Shelf.shelf c.args.shelf.now) c.args.members.now (slot_in c.args.slot))
second g c h =
    let ab = c.close_gates.ensures.ran.on.continues in
    weaker (unopened_second (g.S.Shelf.shelf c.args.shelf.now) c.args.members.now (slot_in c.args.slot) c.args.body.now (g.met.S.Shelf.is_shelf c.args.shelf.now) h
    (g.S.Shelf.shelf c.close_gates.new.shelf) c.close_gates.new.members (g.met.S.Shelf.is_shelf c.close_gates.new.shelf) ab c.close_gates.auto.members c.close_gates.ensures.outcome (c.close_gates.ensures.moments h)) (c.write_bodies.ensures.ran.on.writes (ab.honest h)).any_moment

second_again : (g : given.Over) (c : After-write_bodies g) → (g.S.Shelf.shelf c.args.shelf.now).honest → (missing : Conditions) (held : BootRecord) (arrays : List Array)
    → IsFirmOn (g.S.Shelf.shelf c.args.shelf.now) c.args.members.now missing (slot_in c.args.slot) held → StandsNow (g.S.Shelf.shelf c.args.shelf.now) missing arrays
    → LeavesOnly (g.S.Shelf.shelf c.close_gates.new.shelf) (g.S.Shelf.shelf c.write_bodies.new.shelf) (StandsAgain (g.S.Shelf.shelf c.args.shelf.now) missing arrays)
second_again g c h missing held arrays firm stand =
    let ab = c.close_gates.ensures.ran.on.continues in
    weaker (again_second (g.S.Shelf.shelf c.args.shelf.now) c.args.members.now (slot_in c.args.slot) c.args.body.now (g.met.S.Shelf.is_shelf c.args.shelf.now) h
    (g.S.Shelf.shelf c.close_gates.new.shelf) c.close_gates.new.members (g.met.S.Shelf.is_shelf c.close_gates.new.shelf) ab c.close_gates.auto.members c.close_gates.ensures.outcome (c.close_gates.ensures.moments h) missing held arrays firm stand) (c.write_bodies.ensures.ran.on.writes (ab.honest h)).any_moment

-- it may end there
pub returns-in_err-check_enough-2-clause-members : goal.returns-in_err-check_enough-2-clause-members
returns-in_err-check_enough-2-clause-members g c =
    let k = goal.at.returns-in_err-check_enough-2-clause-members g c in
    loses_then _ _ _ _ _ _ c.close_gates.ensures.ran.on.continues c.write_bodies.ensures.ran.on.continues (loses_first g k.After-close_gates) (loses_second g k.After-write_bodies)

pub returns-in_err-check_enough-2-clause-ran : goal.returns-in_err-check_enough-2-clause-ran
returns-in_err-check_enough-2-clause-ran g c =
    let m0 = c.args.members.now in
    let m1 = c.close_gates.new.members in
    let k = (goal.at.returns-in_err-check_enough-2-clause-ran g c).After-close_gates in
    let fewer = (loses_first g k).fewer in
    ran_then g.met.S.Shelf.shelf_rest_stays (ran_first g k) (ran_more (on_fewer m0 m1 fewer) (on_bodies m0 m1 (slot_in c.args.slot) fewer) c.write_bodies.ensures.ran)

pub returns-in_err-check_enough-2-clause-moments : goal.returns-in_err-check_enough-2-clause-moments
returns-in_err-check_enough-2-clause-moments g c h =
    let k = goal.at.returns-in_err-check_enough-2-clause-moments g c in
    weaker (λ stop. in_store c.args.body.now) (then_run c.close_gates.ensures.ran.on.continues (first g k.After-close_gates h) (second g k.After-write_bodies h))

pub returns-in_err-check_enough-2-clause-again : goal.returns-in_err-check_enough-2-clause-again
returns-in_err-check_enough-2-clause-again g c h missing held boot arrays spells firm follow =
    let k = goal.at.returns-in_err-check_enough-2-clause-again g c in
    then_run c.close_gates.ensures.ran.on.continues (first_again g k.After-close_gates h missing held arrays firm follow.stands) (second_again g k.After-write_bodies h missing held arrays firm follow.stands)

-- ---- gates are opened

pub returns-clause-members : goal.returns-clause-members
returns-clause-members g c =
    let k = goal.at.returns-clause-members g c in
    let bd = c.write_bodies.ensures.ran.on.continues in
    let de = c.open_gates.ensures.ran.on.continues in
    loses_then _ _ _ _ _ _ c.close_gates.ensures.ran.on.continues (continues_trans bd de) (loses_first g k.After-close_gates) (loses_then _ _ _ _ _ _ bd de (loses_second g k.After-write_bodies) c.open_gates.ensures.members)

pub returns-clause-shown : goal.returns-clause-shown
returns-clause-shown g c h =
    let a = g.S.Shelf.shelf c.args.shelf.now in
    let ab = c.close_gates.ensures.ran.on.continues in
    let bd = c.write_bodies.ensures.ran.on.continues in
    let hd = bd.honest (ab.honest h) in
    for_ok c.check_enough-3.result (λ i is. record {
      clean = c.open_gates.ensures.clean hd i is;
      shown = c.open_gates.ensures.shown hd i is ∙ ap (λ (x : List ℕ). Some x)
          (body_stands a c.args.members.now (slot_in c.args.slot) c.args.body.now (g.met.S.Shelf.is_shelf c.args.shelf.now) h _ c.close_gates.new.members (g.met.S.Shelf.is_shelf c.close_gates.new.shelf) ab c.close_gates.auto.members c.close_gates.ensures.outcome (c.close_gates.ensures.moments h)
          _ c.write_bodies.new.members (g.met.S.Shelf.is_shelf c.write_bodies.new.shelf) bd c.requires.members c.requires.size c.write_bodies.auto.members c.write_bodies.ensures.outcome (c.write_bodies.ensures.ran.on.writes (ab.honest h)).any_moment i (c.open_gates.ensures.members.fewer i is));
    })

pub returns-clause-ran : goal.returns-clause-ran
returns-clause-ran g c =
    let m0 = c.args.members.now in
    let m1 = c.close_gates.new.members in
    let m2 = c.write_bodies.new.members in
    let at = slot_in c.args.slot in
    let stays = g.met.S.Shelf.shelf_rest_stays in
    let k = goal.at.returns-clause-ran g c in
    let fewer = (loses_first g k.After-close_gates).fewer in
    let fewest : (i : ℕ) → IsMember m2 i → IsMember m0 i = λ i m. fewer i ((loses_second g k.After-write_bodies).fewer i m) in
    ran_then stays (ran_first g k.After-close_gates)
    (ran_then stays (ran_more (on_fewer m0 m1 fewer) (on_bodies m0 m1 at fewer) c.write_bodies.ensures.ran) (ran_more (on_fewer m0 m2 fewest) (on_opened m0 m2 at fewest) c.open_gates.ensures.ran))

pub returns-clause-moments : goal.returns-clause-moments
returns-clause-moments g c h =
    let k = goal.at.returns-clause-moments g c in
    let ab = c.close_gates.ensures.ran.on.continues in
    let bd = c.write_bodies.ensures.ran.on.continues in
    let hb = ab.honest h in
    then_run (continues_trans ab bd) (weaker (λ stop. in_store c.args.body.now) (then_run ab (first g k.After-close_gates h) (second g k.After-write_bodies h)))
    (weaker (in_third (g.S.Shelf.shelf c.args.shelf.now) c.args.members.now (slot_in c.args.slot) c.args.body.now (g.met.S.Shelf.is_shelf c.args.shelf.now) h
    _ c.close_gates.new.members (g.met.S.Shelf.is_shelf c.close_gates.new.shelf) ab c.close_gates.auto.members c.close_gates.ensures.outcome (c.close_gates.ensures.moments h)
    _ c.write_bodies.new.members (g.met.S.Shelf.is_shelf c.write_bodies.new.shelf) bd c.requires.members c.requires.size c.write_bodies.auto.members c.write_bodies.ensures.outcome (c.write_bodies.ensures.ran.on.writes hb).any_moment (λ i. (c.close_gates.ensures.ran.on.writes h).device (drive i))) (c.open_gates.ensures.ran.on.writes (bd.honest hb)).any_moment)

pub returns-clause-again : goal.returns-clause-again
returns-clause-again g c h missing held boot arrays spells firm follow =
    let k = goal.at.returns-clause-again g c in
    let ab = c.close_gates.ensures.ran.on.continues in
    let bd = c.write_bodies.ensures.ran.on.continues in
    let hb = ab.honest h in
    let enough : AreEnough c.write_bodies.new.members = search rules in
    then_run (continues_trans ab bd) (then_run ab (first_again g k.After-close_gates h missing held arrays firm follow.stands) (second_again g k.After-write_bodies h missing held arrays firm follow.stands))
    (weaker (again_third (g.S.Shelf.shelf c.args.shelf.now) c.args.members.now (slot_in c.args.slot) c.args.body.now (g.met.S.Shelf.is_shelf c.args.shelf.now) h
    _ c.close_gates.new.members (g.met.S.Shelf.is_shelf c.close_gates.new.shelf) ab c.close_gates.auto.members c.close_gates.ensures.outcome (c.close_gates.ensures.moments h)
    _ c.write_bodies.new.members (g.met.S.Shelf.is_shelf c.write_bodies.new.shelf) bd c.requires.members c.requires.size c.write_bodies.auto.members c.write_bodies.ensures.outcome (c.write_bodies.ensures.ran.on.writes hb).any_moment missing held boot arrays spells enough firm follow) (c.open_gates.ensures.ran.on.writes (bd.honest hb)).any_moment)

pub returns-clause-stored : goal.returns-clause-stored
returns-clause-stored g c h =
    let a = g.S.Shelf.shelf c.args.shelf.now in
    let ab = c.close_gates.ensures.ran.on.continues in
    let bd = c.write_bodies.ensures.ran.on.continues in
    let hb = ab.honest h in
    let hd = bd.honest hb in
    for_ok c.check_enough-3.result (λ missing held boot arrays spells newer force follow.
    is_stored a c.args.members.now (slot_in c.args.slot) c.args.body.now (g.met.S.Shelf.is_shelf c.args.shelf.now) h
    _ c.close_gates.new.members (g.met.S.Shelf.is_shelf c.close_gates.new.shelf) ab c.close_gates.auto.members c.close_gates.ensures.outcome (c.close_gates.ensures.moments h)
    _ c.write_bodies.new.members (g.met.S.Shelf.is_shelf c.write_bodies.new.shelf) bd c.requires.members c.requires.size c.write_bodies.auto.members c.write_bodies.ensures.outcome (c.write_bodies.ensures.ran.on.writes hb).any_moment
    _ missing held boot arrays spells force follow
    c.open_gates.new.members (g.met.S.Shelf.is_shelf c.open_gates.new.shelf) c.open_gates.ensures.ran.on.continues newer c.open_gates.ensures.members.fewer c.open_gates.ensures.members.dropped (c.open_gates.ensures.clean hd) (c.open_gates.ensures.shown hd)
    (c.close_gates.ensures.ran.on.writes h).device (c.write_bodies.ensures.ran.on.writes hb).device (c.open_gates.ensures.ran.on.writes hd).device
    (weaker (λ stop at. at.stands missing held boot arrays spells force follow) (returns-clause-moments g c h)))

pub returns-clause-stored_on : goal.returns-clause-stored_on
returns-clause-stored_on g c h =
    let a = g.S.Shelf.shelf c.args.shelf.now in
    let ab = c.close_gates.ensures.ran.on.continues in
    let bd = c.write_bodies.ensures.ran.on.continues in
    let hb = ab.honest h in
    let hd = bd.honest hb in
    for_ok c.check_enough-3.result (λ missing held boot arrays spells newer firm follow.
    is_stored_on a c.args.members.now (slot_in c.args.slot) c.args.body.now (g.met.S.Shelf.is_shelf c.args.shelf.now) h
    _ c.close_gates.new.members (g.met.S.Shelf.is_shelf c.close_gates.new.shelf) ab c.close_gates.auto.members c.close_gates.ensures.outcome (c.close_gates.ensures.moments h)
    _ c.write_bodies.new.members (g.met.S.Shelf.is_shelf c.write_bodies.new.shelf) bd c.requires.members c.requires.size c.write_bodies.auto.members c.write_bodies.ensures.outcome (c.write_bodies.ensures.ran.on.writes hb).any_moment
    _ missing held boot arrays spells firm.in_force follow
    c.open_gates.new.members (g.met.S.Shelf.is_shelf c.open_gates.new.shelf) c.open_gates.ensures.ran.on.continues newer c.open_gates.ensures.members.fewer c.open_gates.ensures.members.dropped (c.open_gates.ensures.clean hd) (c.open_gates.ensures.shown hd)
    (c.close_gates.ensures.ran.on.writes h).device (c.write_bodies.ensures.ran.on.writes hb).device (c.open_gates.ensures.ran.on.writes hd).device
    firm (c.open_gates.ensures.ran.on.writes hd).any_moment)
