use Rattle.shelf_init.proofs.Prelude.{◌≢◌, length, arith, sym, ◌∙◌, below_more, subst, ran_then, ran_more, Disk, Written, drives_apart, drive, IsMember}
use Rattle.boot_region.proofs.OnEach.{only_member, range_on_members}
use Rattle.shelf_init.proofs.CallLemmas.{one_ok, one_clean, none_then}
use Rattle.shelf_init.proofs.calls.write_chosen.Goals as goal

pub returns-in_err-write_synced-clause-ran : goal.returns-in_err-write_synced-clause-ran
returns-in_err-write_synced-clause-ran g c =
    let slot = c.loop-drive.drive in
    let member = c.if-not-chosen-drive.false in
    ran_then g.met.S.Shelf.shelf_rest_stays c.loop-drive.invariant.ran (ran_more (only_member c.args.chosen.now slot member) (range_on_members c.args.chosen.now slot c.args.at (length c.args.from.now) member) c.write_synced.ensures.ran)

pub loop-drive-preserved : goal.loop-drive-preserved
loop-drive-preserved g c =
    let inv = c.loop-drive.invariant in
    let slot = c.loop-drive.drive in
    let a = g.S.Shelf.shelf c.args.shelf.now in
    let b = g.S.Shelf.shelf c.loop-drive.shelf in
    let n = g.S.Shelf.shelf c.write_synced.new.shelf in
    let x = c.write_synced.ensures in
    let y = c.in_ok-write_synced.ensures in
    record {
      ran = ran_then g.met.S.Shelf.shelf_rest_stays inv.ran (ran_more (only_member c.args.chosen.now slot c.if-not-chosen-drive.false) (range_on_members c.args.chosen.now slot c.args.at (length c.args.from.now) c.if-not-chosen-drive.false) x.ran);
      written = λ h. below_more (λ i. IsMember c.args.chosen.now i → Written c.args.at c.args.from.now (a.disk (drive i)).bytes (n.disk (drive i)).bytes) slot
          (λ i lt member. let ne : i ≢ slot = omega arith in subst (λ (d : Disk). Written c.args.at c.args.from.now (a.disk (drive i)).bytes d.bytes) (sym (x.ran.on.others (drive i) (drives_apart i slot ne))) (inv.written h i lt member))
          (λ member. subst (λ (d : Disk). Written c.args.at c.args.from.now d.bytes (n.disk (drive slot)).bytes) (inv.ahead slot (omega arith)) (y.written (inv.ran.on.continues.honest h)));
      clean = λ h was. one_clean b n (drive slot) x.ran.on.others (y.clean (inv.ran.on.continues.honest h)) (inv.clean h was);
      counts = none_then a b n inv.ran.on.continues inv.counts (one_ok b n (drive slot) x.ran.on.others (record { faults = y.counts.faults; write_faults = y.counts.write_faults }));
      ahead = λ i le. x.ran.on.others (drive i) (drives_apart i slot (omega arith)) ∙ inv.ahead i (omega arith);
    }
