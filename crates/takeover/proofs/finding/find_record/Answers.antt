use Rattle.takeover.proofs.Prelude.{ℕ, List, ◌-◌, ◌^◌, ◌<◌, arith, sym, subst, ◌∙◌, Err, fault_of, Geometry, Conditions, IsBearable, IsWithin, drive, Array, BootRecord, IsRecordOf, geometry_of, continues_refl, ran_then, ran_more, Enters, failed_since, IsLoadOf, IsLawfulLoad, IsMember, slot_in, IsFoundBy, IsFoundOn, IsSeenBy, StandsWhileFinding, fewer_borne}
use Rattle.takeover.proofs.Answered.{told}
use Rattle.takeover.proofs.FirmlyFound.{settled_firmly}
use Rattle.takeover.proofs.FoundLemmas.{lacking}
use Rattle.takeover.proofs.NoFault.{not_loaded}
use Rattle.array_core.proofs.Holders.{is_drive}
use Rattle.takeover.proofs.Running.{on_gates}
use Rattle.takeover.proofs.Showing.{shown_in, shown_on, seen_in, seen_not_loaded, seen_too_few}
use Rattle.takeover.proofs.Settled.{found_settled, while_loading, while_settling}
use Rattle.takeover.proofs.finding.find_record.Given as given
use Rattle.takeover.proofs.finding.find_record.Goals as goal
use Rattle.takeover.proofs.finding.find_record.Goals.{After-settle_loaded}
use Rattle.register.proofs.Rounds.{same_shelf}

pub returns-in_err-loaded-clause-stands : goal.returns-in_err-loaded-clause-stands
returns-in_err-loaded-clause-stands g c h =
    while_loading (g.S.Shelf.shelf c.args.shelf.now) (g.S.Shelf.shelf c.load.new.shelf) (g.met.S.Shelf.is_shelf c.args.shelf.now) h (c.load.ensures.same h) (c.load.ensures.ran.on.writes h)

pub returns-in_err-loaded-clause-found : goal.returns-in_err-loaded-clause-found
returns-in_err-loaded-clause-found g c h missing arrays enters later since bears_later =
    let a = g.S.Shelf.shelf c.args.shelf.now in
    let b = g.S.Shelf.shelf c.load.new.shelf in
    let e = c.in_err-loaded.field-0.0 in
    let by : IsLoadOf a b (Err e) = subst (λ r. IsLoadOf a b r) c.in_err-loaded.was (c.load.ensures.loads h) in
    let bears = fewer_borne (geometry_of a) (failed_since a b missing) later since bears_later in
    told (IsFoundBy b later arrays) c.from_residual.result (fault_of e) c.from_residual.ensures.1
    (not_loaded a b missing arrays (g.met.S.Shelf.is_shelf c.load.new.shelf) h enters c.load.ensures.ran.on.continues (c.load.ensures.same h) bears later e by)

pub returns-in_err-loaded-clause-ran : goal.returns-in_err-loaded-clause-ran
returns-in_err-loaded-clause-ran g c = ran_more (λ d is. is) (λ d i none. absurd none) c.load.ensures.ran

pub returns-in_err-loaded-clause-seen : goal.returns-in_err-loaded-clause-seen
returns-in_err-loaded-clause-seen g c h =
    let a = g.S.Shelf.shelf c.args.shelf.now in
    let b = g.S.Shelf.shelf c.load.new.shelf in
    let e = c.in_err-loaded.field-0.0 in
    let by : IsLoadOf a b (Err e) = subst (λ r. IsLoadOf a b r) c.in_err-loaded.was (c.load.ensures.loads h) in
    told (IsSeenBy a b) c.from_residual.result (fault_of e) c.from_residual.ensures.1 (seen_not_loaded a b (continues_refl b) (c.load.ensures.ran.on.writes h) e by)

-- ---- the record was settled on the drives that hold it

stands : (g : given.Over) (c : After-settle_loaded g) → (g.S.Shelf.shelf c.args.shelf.now).honest → StandsWhileFinding (g.S.Shelf.shelf c.args.shelf.now) (g.S.Shelf.shelf c.settle_loaded.new.shelf)
stands g c h =
    let on = c.load.ensures.ran.on.continues in
    let h_b = on.honest h in
    while_settling (g.S.Shelf.shelf c.args.shelf.now) (g.S.Shelf.shelf c.load.new.shelf) (g.met.S.Shelf.is_shelf c.args.shelf.now) h (c.load.ensures.same h) (c.load.ensures.ran.on.writes h)
    (g.met.S.Shelf.is_shelf c.load.new.shelf) on c.in_ok-loaded.loaded (c.in_ok-loaded.ensures.loads h) (c.in_ok-loaded.ensures.found h)
    (g.S.Shelf.shelf c.settle_loaded.new.shelf) (c.settle_loaded.ensures.ran.on.writes h_b) (c.settle_loaded.ensures.clean h_b)

found : (g : given.Over) (c : After-settle_loaded g) → (g.S.Shelf.shelf c.args.shelf.now).honest → (missing : Conditions) (arrays : List Array) → Enters (g.S.Shelf.shelf c.args.shelf.now) missing arrays
    → (later : Conditions) → IsWithin (failed_since (g.S.Shelf.shelf c.args.shelf.now) (g.S.Shelf.shelf c.settle_loaded.new.shelf) missing) later → IsBearable (geometry_of (g.S.Shelf.shelf c.args.shelf.now)) later
    → IsFoundOn (g.S.Shelf.shelf c.settle_loaded.new.shelf) c.settle_loaded.new.loaded later arrays
found g c h =
    let on = c.load.ensures.ran.on.continues in
    let h_b = on.honest h in
    found_settled (g.S.Shelf.shelf c.args.shelf.now) (g.S.Shelf.shelf c.load.new.shelf) (g.met.S.Shelf.is_shelf c.args.shelf.now) h (c.load.ensures.same h) (c.load.ensures.ran.on.writes h)
    (g.met.S.Shelf.is_shelf c.load.new.shelf) on c.in_ok-loaded.loaded (c.in_ok-loaded.ensures.loads h) (c.in_ok-loaded.ensures.found h)
    (g.S.Shelf.shelf c.settle_loaded.new.shelf) (c.settle_loaded.ensures.ran.on.writes h_b) (g.met.S.Shelf.is_shelf c.settle_loaded.new.shelf) c.settle_loaded.ensures.ran.on.continues
    c.settle_loaded.new.loaded c.settle_loaded.ensures.record.0 c.settle_loaded.ensures.record.1 c.settle_loaded.ensures.fewer (c.settle_loaded.ensures.settled h_b)

pub returns-then-count_set-drives-clause-ran : goal.returns-then-count_set-drives-clause-ran
returns-then-count_set-drives-clause-ran g c =
    let drives = c.in_ok-loaded.loaded.drives in
    ran_then g.met.S.Shelf.shelf_rest_stays (ran_more (λ d is. is) (λ d i none. absurd none) c.load.ensures.ran)
    (ran_more (is_drive drives) (on_gates drives (g.S.Shelf.shelf c.load.new.shelf) (slot_in c.in_ok-loaded.loaded.slot)) c.settle_loaded.ensures.ran)

pub returns-then-count_set-drives-clause-seen : goal.returns-then-count_set-drives-clause-seen
returns-then-count_set-drives-clause-seen g c h =
    let a = g.S.Shelf.shelf c.args.shelf.now in
    let b = g.S.Shelf.shelf c.load.new.shelf in
    let n = g.S.Shelf.shelf c.settle_loaded.new.shelf in
    let x = c.in_ok-loaded.loaded in
    seen_too_few a b n x c.load.ensures.ran.on.continues c.settle_loaded.ensures.ran.on.continues (c.load.ensures.same h) (c.in_ok-loaded.ensures.loads h) (c.load.ensures.ran.on.writes h) (c.settle_loaded.ensures.ran.on.writes (c.load.ensures.ran.on.continues.honest h))
    c.settle_loaded.new.loaded.drives (λ i lt. (c.settle_loaded.ensures.outcome i lt).dropped)
    (omega (arith, c.count_set.ensures.value, c.if-count_set-drives.true, c.drives.ensures, c.settle_loaded.ensures.ran.on.continues.drives, c.load.ensures.ran.on.continues.drives))

pub returns-then-count_set-drives-clause-stands : goal.returns-then-count_set-drives-clause-stands
returns-then-count_set-drives-clause-stands g c = stands g (goal.at.returns-then-count_set-drives-clause-stands g c).After-settle_loaded

pub returns-then-count_set-drives-clause-found : goal.returns-then-count_set-drives-clause-found
returns-then-count_set-drives-clause-found g c h missing arrays enters later since bears_later =
    let a = g.S.Shelf.shelf c.args.shelf.now in
    let n = g.S.Shelf.shelf c.settle_loaded.new.shelf in
    let is = found g (goal.at.returns-then-count_set-drives-clause-found g c).After-settle_loaded h missing arrays enters later since bears_later in
    let count = lacking a n later c.settle_loaded.new.loaded.drives bears_later (c.settle_loaded.ensures.ran.on.continues.drives ∙ c.load.ensures.ran.on.continues.drives) is.in_force.sound in
    absurd (omega (arith, count, c.count_set.ensures.value, c.if-count_set-drives.true, c.drives.ensures, c.settle_loaded.ensures.ran.on.continues.drives, c.load.ensures.ran.on.continues.drives))

pub returns-clause-ran : goal.returns-clause-ran
returns-clause-ran g c =
    let drives = c.in_ok-loaded.loaded.drives in
    ran_then g.met.S.Shelf.shelf_rest_stays (ran_more (λ d is. is) (λ d i none. absurd none) c.load.ensures.ran)
    (ran_more (is_drive drives) (on_gates drives (g.S.Shelf.shelf c.load.new.shelf) (slot_in c.in_ok-loaded.loaded.slot)) c.settle_loaded.ensures.ran)

pub returns-clause-seen : goal.returns-clause-seen
returns-clause-seen g c h =
    let a = g.S.Shelf.shelf c.args.shelf.now in
    let b = g.S.Shelf.shelf c.load.new.shelf in
    let n = g.S.Shelf.shelf c.settle_loaded.new.shelf in
    let x = c.in_ok-loaded.loaded in
    seen_in a b n x c.load.ensures.ran.on.continues c.settle_loaded.ensures.ran.on.continues (c.load.ensures.same h) (c.in_ok-loaded.ensures.loads h) (c.load.ensures.ran.on.writes h) (c.settle_loaded.ensures.ran.on.writes (c.load.ensures.ran.on.continues.honest h))
    c.settle_loaded.new.loaded.drives (λ i lt. (c.settle_loaded.ensures.outcome i lt).dropped) c.settle_loaded.new.loaded.record c.settle_loaded.new.loaded.slot c.settle_loaded.ensures.record.0 c.settle_loaded.ensures.record.1 c.settle_loaded.ensures.fewer

pub returns-clause-stands : goal.returns-clause-stands
returns-clause-stands g c = stands g (goal.at.returns-clause-stands g c).After-settle_loaded

pub returns-clause-found : goal.returns-clause-found
returns-clause-found g c = found g (goal.at.returns-clause-found g c).After-settle_loaded

pub returns-clause-loaded : goal.returns-clause-loaded
returns-clause-loaded g c =
    let a = g.S.Shelf.shelf c.args.shelf.now in
    let b = g.S.Shelf.shelf c.load.new.shelf in
    let n = g.S.Shelf.shelf c.settle_loaded.new.shelf in
    let x = c.in_ok-loaded.loaded in
    let y = c.settle_loaded.new.loaded in
    let is : IsLawfulLoad (geometry_of b) x = c.in_ok-loaded.ensures.lawful in
    let on = c.load.ensures.ran.on.continues in
    let after = c.settle_loaded.ensures.ran.on.continues in
    let same_record = c.settle_loaded.ensures.record.0 in
    let same_slot = c.settle_loaded.ensures.record.1 in
    let fewer : (i : ℕ) → IsMember y.drives i → IsMember x.drives i = c.settle_loaded.ensures.fewer in
    record {
      lawful = record {
        lawful = subst (λ (k : BootRecord). IsRecordOf (geometry_of n) k) (sym same_record) (subst (λ (s : Geometry). IsRecordOf s x.record) (same_shelf after) is.lawful);
        room = subst (λ (k : BootRecord). k.generation < 2 ^ 48 - 8) (sym same_record) is.room;
        named = λ i m. subst (λ (k : BootRecord). IsMember k.members.drives i) (sym same_record) (is.named i (fewer i m));
      };
      enough = omega (arith, c.count_set.ensures.value, c.if-count_set-drives.false, c.drives.ensures);
      unlost = λ i lt m. (c.settle_loaded.ensures.outcome i (omega (arith, lt, after.drives))).unlost m ∙ c.load.ensures.looks (drive i);
      shown = λ h.
          shown_in a b n x on after (c.load.ensures.same h) (c.in_ok-loaded.ensures.loads h) (c.load.ensures.ran.on.writes h) (c.settle_loaded.ensures.ran.on.writes (on.honest h)) y.drives (λ i lt. (c.settle_loaded.ensures.outcome i lt).dropped)
          y.record y.slot same_record same_slot (λ i lt m. (c.settle_loaded.ensures.outcome i lt).opened (on.honest h) m) fewer;
      firmly = λ h missing next boot arrays enters entry.
          let h_b = on.honest h in
          let shows = shown_on a b n x on after (c.load.ensures.same h) (c.in_ok-loaded.ensures.loads h) (c.load.ensures.ran.on.writes h) (c.settle_loaded.ensures.ran.on.writes h_b) y.drives (λ i lt. (c.settle_loaded.ensures.outcome i lt).dropped)
          (λ i lt m. (c.settle_loaded.ensures.outcome i lt).opened h_b m) fewer in
          settled_firmly a b missing arrays x enters on (g.met.S.Shelf.is_shelf c.args.shelf.now) (g.met.S.Shelf.is_shelf c.load.new.shelf) h (c.load.ensures.same h) (c.in_ok-loaded.ensures.loads h) (c.in_ok-loaded.ensures.found h) next boot entry
          n y.drives after (g.met.S.Shelf.is_shelf c.settle_loaded.new.shelf) fewer (c.settle_loaded.ensures.ran.on.writes h_b) shows (λ i lt m clean. (c.settle_loaded.ensures.outcome i lt).clean h_b m clean) y.record y.slot same_record same_slot;
    }
