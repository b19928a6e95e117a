use Rattle.boot_region.proofs.Prelude.{rules, ◌≡◌, ◌<◌, ℕ, length, arith, refl, ap, ◌∙◌, ◌%◌, SECTOR_BYTES, Disk, weaker, ran_then, ran_more, slot_in, gate_low, gate_aligned}
use Rattle.boot_region.proofs.OnEach.{only_member, disk_here, was_member, not_member, each_more, each_past}
use Rattle.boot_region.proofs.Settled.{closed_on_members, opened_of, opened_apart, gives_no_more, still_given, stands_while_settling, is_settled}
use Rattle.boot_region.proofs.settling.settle.Goals as goal
use Rattle.boot_region.proofs.settling.settle.Goals.{then-members-drive, else-members-drive}

pub open_gate-answer-requires : goal.open_gate-answer-requires
open_gate-answer-requires g c =
    record {
      is_there = omega (arith, c.requires, c.loop-drive.invariant.ran.on.continues.drives);
      fits = omega (arith, c.gate-at.ensures, gate_low (slot_in c.args.slot), (g.met.S.Shelf.is_shelf c.loop-drive.shelf).units.0);
      aligned = (ap (λ (n : ℕ). n % SECTOR_BYTES) c.gate-at.ensures ∙ gate_aligned (slot_in c.args.slot), refl);
    }

pub loop-drive-preserved : goal.loop-drive-preserved
loop-drive-preserved g c =
    let inv = c.loop-drive.invariant in
    let slot = c.loop-drive.drive in
    elim c.if-members-drive.branch [
      | then-members-drive w ↦
          let x = w.open_gate-answer in
          let member = was_member inv.each w.if-members-drive.true in
          let lt : slot < length c.loop-drive.members = omega arith in
          rw (w.shelf-is, w.members-is) (record {
            ran = ran_then g.met.S.Shelf.shelf_rest_stays inv.ran (ran_more (only_member c.args.members.now slot member) (closed_on_members c.args.members.now (g.S.Shelf.shelf c.args.shelf.now) slot c.gate-at.result member _ (ap (λ (k : Disk). k.bytes) (disk_here inv.each))) x.ensures.ran);
            each = each_more inv.each _ w.is_ok.ensures.value lt x.ensures.ran.on.others
                (opened_of x.result _ _ c.gate-at.result _ _ member (λ h. x.ensures.opened (inv.ran.on.continues.honest h)) (λ h. x.ensures.clean (inv.ran.on.continues.honest h)) x.ensures.counts x.ensures.unlost);
          })
      | else-members-drive w ↦ rw (w.shelf-is, w.members-is) (record { ran = inv.ran; each = each_past inv.each (opened_apart (not_member inv.each w.if-members-drive.false)) })
    ]

pub returns-clause-outcome : goal.returns-clause-outcome
returns-clause-outcome g c d lt = rw c.gate-at.ensures at (c.loop-drive.invariant.each.passed d (omega (arith, lt)))

pub returns-clause-ran : goal.returns-clause-ran
returns-clause-ran g c = rw c.gate-at.ensures at c.loop-drive.invariant.ran

pub returns-clause-any_moment : goal.returns-clause-any_moment
returns-clause-any_moment g c h missing boot arrays loaded =
    weaker (λ stop left. stands_while_settling c.args.members.now (g.S.Shelf.shelf c.args.shelf.now) stop (slot_in c.args.slot) boot missing arrays (g.met.S.Shelf.is_shelf c.args.shelf.now) h left loaded)
    ((returns-clause-ran g c).on.writes h).any_moment

pub returns-clause-gives : goal.returns-clause-gives
returns-clause-gives g c h missing boot arrays loaded =
    weaker (λ stop left. gives_no_more c.args.members.now (g.S.Shelf.shelf c.args.shelf.now) stop (slot_in c.args.slot) boot missing arrays (g.met.S.Shelf.is_shelf c.args.shelf.now) h left loaded)
    ((returns-clause-ran g c).on.writes h).any_moment

pub returns-clause-still : goal.returns-clause-still
returns-clause-still g c h missing boot arrays loaded =
    weaker (λ stop left. still_given c.args.members.now (g.S.Shelf.shelf c.args.shelf.now) stop (slot_in c.args.slot) boot missing arrays (g.met.S.Shelf.is_shelf c.args.shelf.now) h left loaded)
    ((returns-clause-ran g c).on.writes h).any_moment

pub returns-clause-settled : goal.returns-clause-settled
returns-clause-settled g c h missing boot arrays loaded found later tells =
    let as_many : length c.loop-drive.members ≡ length c.args.members.now = search rules in
    is_settled (g.S.Shelf.shelf c.args.shelf.now) (g.S.Shelf.shelf c.loop-drive.shelf) c.args.members.now c.loop-drive.members (slot_in c.args.slot) boot missing later arrays
    (g.met.S.Shelf.is_shelf c.args.shelf.now) (g.met.S.Shelf.is_shelf c.loop-drive.shelf) h c.loop-drive.invariant.ran.on.continues as_many (returns-clause-outcome g c) ((returns-clause-ran g c).on.writes h) loaded found tells
