use Rattle.boot_region.proofs.Prelude.{◌<◌, ℕ, length, arith, refl, ap, ◌∙◌, ◌%◌, SECTOR_BYTES, weaker, slot_in, gate_low, gate_aligned}
use Rattle.boot_region.proofs.OnEach.{disk_here, was_member, not_member, each_more, each_past}
use Rattle.boot_region.proofs.GateCalls.{closing_next, closing_next_moments, closed_of, closed_apart}
use Rattle.boot_region.proofs.Phases.{closes_gates}
use Rattle.boot_region.proofs.gates.close_gates.Goals as goal
use Rattle.boot_region.proofs.gates.close_gates.Goals.{then-members-drive, else-members-drive}

pub close_gate-answer-requires : goal.close_gate-answer-requires
close_gate-answer-requires g c =
    record {
      is_there = omega (arith, c.requires, c.loop-drive.invariant.ran.on.continues.drives);
      fits = omega (arith, c.gate-at.ensures, gate_low (slot_in c.args.slot), (g.met.S.Shelf.is_shelf c.loop-drive.shelf).units.0);
      aligned = (ap (λ (n : ℕ). n % SECTOR_BYTES) c.gate-at.ensures ∙ gate_aligned (slot_in c.args.slot), refl);
    }

pub loop-drive-preserved : goal.loop-drive-preserved
loop-drive-preserved g c =
    let inv = c.loop-drive.invariant in
    let slot = c.loop-drive.drive in
    elim c.if-members-drive.branch [
      | then-members-drive w ↦
          let x = w.close_gate-answer in
          let member = was_member inv.each w.if-members-drive.true in
          let disk = disk_here inv.each in
          let lt : slot < length c.loop-drive.members = omega arith in
          rw (w.shelf-is, w.members-is) (record {
            ran = closing_next c.args.members.now c.gate-at.result slot member disk g.met.S.Shelf.shelf_rest_stays inv.ran x.ensures.ran;
            moments = λ h. closing_next_moments c.args.members.now c.gate-at.result slot _ _ _ member disk inv.ran.on.continues x.ensures.ran.on.continues (inv.ran.on.writes h) (inv.moments h) (x.ensures.any_moment (inv.ran.on.continues.honest h));
            each = each_more inv.each _ w.is_ok.ensures.value lt x.ensures.ran.on.others
                (closed_of x.result _ _ c.gate-at.result _ _ member (λ h. x.ensures.closed (inv.ran.on.continues.honest h)) (λ h. x.ensures.clean (inv.ran.on.continues.honest h)) x.ensures.counts x.ensures.unlost);
          })
      | else-members-drive w ↦ rw (w.shelf-is, w.members-is) (record { ran = inv.ran; moments = inv.moments; each = each_past inv.each (closed_apart (not_member inv.each w.if-members-drive.false)) })
    ]

pub returns-clause-outcome : goal.returns-clause-outcome
returns-clause-outcome g c d lt = rw c.gate-at.ensures at (c.loop-drive.invariant.each.passed d (omega (arith, lt)))

pub returns-clause-ran : goal.returns-clause-ran
returns-clause-ran g c = rw c.gate-at.ensures at c.loop-drive.invariant.ran

pub returns-clause-moments : goal.returns-clause-moments
returns-clause-moments g c h = rw c.gate-at.ensures at (c.loop-drive.invariant.moments h)

pub returns-clause-any_moment : goal.returns-clause-any_moment
returns-clause-any_moment g c h missing held clean =
    weaker (λ stop left. closes_gates c.args.members.now (g.S.Shelf.shelf c.args.shelf.now) stop missing (slot_in c.args.slot) held (g.met.S.Shelf.is_shelf c.args.shelf.now) h left clean) (returns-clause-moments g c h)
