use Rattle.world_clients.proofs.Prelude.{◌≢◌, ◌<◌, length, arith, sym, ◌∙◌, below_more, get_or-set_other, get_or-set_same, continues_trans, writes_then, writes_more, drives_apart, drive, IsMember}
use Rattle.world_clients.proofs.OnEach.{range_on_members, outcome_of}
use Rattle.world_clients.proofs.members.write_members.Goals as goal
use Rattle.world_clients.proofs.members.write_members.Goals.{then-members-slot, else-members-slot}

pub loop-slot-preserved : goal.loop-slot-preserved
loop-slot-preserved g c =
    let inv = c.loop-slot.invariant in
    let slot = c.loop-slot.slot in
    elim c.if-members-slot.branch [
      | then-members-slot w ↦
          let x = w.write_synced-answer in
          let member : IsMember c.args.members.now slot = sym (inv.same_ahead slot (omega arith)) ∙ w.if-members-slot.true in
          rw (w.shelf-is, w.members-is) (record {
            continues = continues_trans inv.continues x.ensures.continues;
            rest = g.met.S.Shelf.shelf_rest_stays.transitive _ _ _ inv.rest x.ensures.rest;
            writes = λ h. writes_then inv.continues (inv.writes h) (writes_more (range_on_members c.args.members.now slot c.args.at (length c.args.from.now) member) (x.ensures.writes (inv.continues.honest h)));
            passed = below_more _ _
                (λ d lt. let ne : d ≢ slot = omega arith in rw (get_or-set_other, x.ensures.others (drive d) (drives_apart d slot ne)) (inv.passed d lt))
                (let lt : slot < length c.loop-slot.members = omega arith in
                rw (get_or-set_same, w.is_ok.ensures.value, ← inv.disk_ahead slot (omega arith))
                (outcome_of x.result _ _ c.args.at c.args.from.now _ _ member (λ h. x.ensures.written (inv.continues.honest h)) (λ h. x.ensures.clean (inv.continues.honest h)) x.ensures.counts));
            same_ahead = λ d le. let ne : d ≢ slot = omega arith in rw get_or-set_other (inv.same_ahead d (omega arith));
            disk_ahead = λ d le. x.ensures.others (drive d) (drives_apart d slot (omega arith)) ∙ inv.disk_ahead d (omega arith);
          })
      | else-members-slot w ↦
          let shut : IsMember c.args.members.now slot → ⊥ = λ m. absurd (cc (inv.same_ahead slot (omega arith), w.if-members-slot.false, m)) in
          rw (w.shelf-is, w.members-is) (record {
            continues = inv.continues;
            rest = inv.rest;
            writes = inv.writes;
            passed = below_more _ _ inv.passed (record {
              before = λ is. absurd (cc (is, w.if-members-slot.false));
              written = λ h is. absurd (cc (is, w.if-members-slot.false));
              clean = λ h is. absurd (cc (is, w.if-members-slot.false));
              dropped = λ was. absurd (shut was);
              others = λ none. inv.disk_ahead slot (omega arith);
            });
            same_ahead = λ d le. inv.same_ahead d (omega arith);
            disk_ahead = λ d le. inv.disk_ahead d (omega arith);
          })
    ]
