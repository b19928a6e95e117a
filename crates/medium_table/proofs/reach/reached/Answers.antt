use Rattle.medium_table.proofs.Prelude.{Contains}
use Rattle.medium_table.proofs.ReachLemmas.{all_reached}
use Rattle.medium_table.proofs.reach.reached.Goals as goal

pub follow-requires-clause-marked : goal.follow-requires-clause-marked
follow-requires-clause-marked c = rw (c.deref_mut.ensures.value, c.in_ok-found.ensures.items) c.in_ok-marks.ensures.marked

pub returns-clause-mediums : goal.returns-clause-mediums
returns-clause-mediums c = λ m.
    let same = c.put_in_order.ensures.ids m in
    let all = all_reached (Contains c.args.ranges.now) c.args.from.now c.follow.new.found.items (rw c.in_ok-found.ensures.items at c.in_ok-follow.ensures.kept) c.in_ok-follow.ensures.closed
    (rw c.in_ok-found.ensures.items at c.in_ok-follow.ensures.sound) m in
    ((λ h. all.0 (same.0 h)), (λ r. same.1 (all.1 r)))
