use Rattle.nvram_log.proofs.Prelude.{rules, ◌≡◌, ◌<◌, ℕ, List, length, arith, sym, subst, refl, below_more, nvram, Disk, started, then_run, weaker, ran_none, ran_then, ran_more, SeenSlots, IsMember, IsToSettle, SettlesBy, SettleBy}
use Rattle.nvram_log.proofs.OnEach.{only_member, nvrams_apart, disk_here, was_member, each_more, each_past}
use Rattle.nvram_log.proofs.Settled.{where_ok}
use Rattle.nvram_log.proofs.SettledEach.{both_leave, nothing_settled, but_elsewhere, on_members, each_settles, settles_with, seen_at}
use Rattle.nvram_log.proofs.settle.settle_each.Goals as goal
use Rattle.nvram_log.proofs.settle.settle_each.Goals.{then-members-device, else-members-device}

pub loop-device-init : goal.loop-device-init
loop-device-init g c =
    let a = g.S.Shelf.shelf c.args.shelf.now in
    let shelf = g.met.S.Shelf.is_shelf c.args.shelf.now in
    record {
      ran = ran_none g.met.S.Shelf.shelf_rest_stays c.args.shelf.now shelf;
      each = record { passed = λ d lt. absurd (omega (arith, lt)); flag_ahead = λ d le. refl; disk_ahead = λ d le. refl };
      later = λ d lt. absurd (omega (arith, lt));
      any_moment = λ h flushed commands long are. started a (SettleBy a c.args.members.now flushed commands) shelf
          (λ stop may n lt is. nothing_settled (a.disk (nvram n)) flushed commands (stop.image (nvram n)) (shelf.sizes h (nvram n) lt) (may.device (nvram n)));
    }

pub loop-device-preserved : goal.loop-device-preserved
loop-device-preserved g c =
    let inv = c.loop-device.invariant in
    let slot = c.loop-device.device in
    let a = g.S.Shelf.shelf c.args.shelf.now in
    let b = g.S.Shelf.shelf c.loop-device.shelf in
    let seen : List SeenSlots = c.args.seen.now in
    elim c.if-members-device.branch [
      | then-members-device w ↦
          let x = w.settle_on-answer in
          let member = was_member inv.each w.if-members-device.true in
          let here = disk_here inv.each in
          let lt : slot < length c.loop-device.members = omega arith in
          let two : slot < 2 = omega arith in
          let there : length seen ≡ 2 = search rules in
          rw (w.shelf-is, w.members-is) (record {
            ran = ran_then g.met.S.Shelf.shelf_rest_stays inv.ran (ran_more (only_member c.args.members.now slot member) (on_members c.args.members.now slot member) x.ensures.ran);
            each = each_more inv.each x.result _ w.is_ok.ensures.value lt w.if-members-device.true x.ensures.ran.on.others
                (λ h. where_ok _ _ x.result (x.ensures.settled (inv.ran.on.continues.honest h)) (λ f flushed commands s long at is. f flushed commands long (seen_at (b.disk (nvram slot)).bytes seen slot s flushed c.args.records.now commands at is)))
                (λ h. x.ensures.clean (inv.ran.on.continues.honest h)) x.ensures.counts;
            later = below_more _ _
                (λ d less. rw (x.ensures.ran.on.others (nvram d) (nvrams_apart d slot (omega (arith, less)))) (inv.later d less))
                (record {
                  later = λ h was flushed commands s long at is bytes may.
                      subst (λ (disk : Disk). SettlesBy disk flushed commands bytes) here
                      (x.ensures.later (inv.ran.on.continues.honest h) flushed commands long
                      (seen_at (b.disk (nvram slot)).bytes seen slot s flushed c.args.records.now commands at (subst (λ (disk : Disk). IsToSettle disk.bytes flushed s c.args.records.now commands) (sym here) is)) bytes may);
                });
            any_moment = λ h flushed commands long are.
                let some = settles_with seen slot (omega (arith, two, there)) in
                let mine = are slot some.0 two member some.1 in
                let mine_now = seen_at (b.disk (nvram slot)).bytes seen slot some.0 flushed c.args.records.now commands some.1 (subst (λ (disk : Disk). IsToSettle disk.bytes flushed some.0 c.args.records.now commands) (sym here) mine) in
                then_run inv.ran.on.continues (inv.any_moment h flushed commands long are)
                (weaker (λ stop both n lt is. each_settles n slot lt two
                (λ e. subst (λ (k : ℕ). SettlesBy (a.disk (nvram k)) flushed commands (stop.image (nvram k))) (sym e) (subst (λ (disk : Disk). SettlesBy disk flushed commands (stop.image (nvram slot))) here both.0))
                (λ below.
                let other = settles_with seen n (omega (arith, lt, there)) in
                (inv.later n below).later h is flushed commands other.0 long other.1 (are n other.0 lt is other.1) (stop.image (nvram n))
                (but_elsewhere (nvram slot) (nvram n) (b.disk (nvram n)) (stop.image (nvram n)) (nvrams_apart n slot (omega (arith, below))) (both.1.bytes (nvram n))))
                (λ above. subst (λ (disk : Disk). SettlesBy disk flushed commands (stop.image (nvram n))) (inv.each.disk_ahead n (omega (arith, above)))
                (nothing_settled (b.disk (nvram n)) flushed commands (stop.image (nvram n)) ((g.met.S.Shelf.is_shelf c.loop-device.shelf).sizes (inv.ran.on.continues.honest h) (nvram n) lt)
                (but_elsewhere (nvram slot) (nvram n) (b.disk (nvram n)) (stop.image (nvram n)) (nvrams_apart n slot (omega (arith, above))) (both.1.bytes (nvram n))))))
                (both_leave (x.ensures.any_moment (inv.ran.on.continues.honest h) flushed commands long mine_now) (x.ensures.ran.on.writes (inv.ran.on.continues.honest h)).any_moment));
          })
      | else-members-device w ↦
          let gone : IsMember c.args.members.now slot → ⊥ = λ m. absurd (cc (inv.each.flag_ahead slot (omega arith), w.if-members-device.false, m)) in
          rw (w.shelf-is, w.members-is) (record {
            ran = inv.ran;
            each = each_past inv.each w.if-members-device.false;
            later = below_more _ _ inv.later (record { later = λ h was. absurd (gone was) });
            any_moment = inv.any_moment;
          })
    ]

pub returns-clause-holds : goal.returns-clause-holds
returns-clause-holds g c h flushed commands long are =
    let inv = c.loop-device.invariant in
    let there : length c.args.seen.now ≡ 2 = search rules in
    let passed : (n : ℕ) → n < 2 → n < c.loop-device.device = λ n lt. omega (arith, lt, c.loop-device-test.false, c.requires.members) in
    record {
      log = λ n lt is.
          let some = settles_with c.args.seen.now n (omega (arith, lt, there)) in
          let o = inv.each.passed n (passed n lt) in
          o.written h is flushed commands some.0 long some.1 (are n some.0 lt (o.before is) some.1);
      clean = λ n lt is. (inv.each.passed n (passed n lt)).clean h is;
    }

pub returns-clause-clean : goal.returns-clause-clean
returns-clause-clean g c h n lt is = (c.loop-device.invariant.each.passed n (omega (arith, lt, c.loop-device-test.false, c.requires.members))).clean h is
