use Rattle.elision.proofs.RangeLemmas.{within_with, keeps_apart}
use Rattle.elision.proofs.ranges.Ranges.insert.Goals as goal

pub invariant_of-self-2 : goal.invariant_of-self-2
invariant_of-self-2 c =
    rw (c.put_range.ensures.value, c.reserve.ensures.items) (keeps_apart c.args.first c.args.last c.self.inside.ranges.items c.requires c.self.invariant)

pub returns-clause-ids : goal.returns-clause-ids
returns-clause-ids c = rw (c.put_range.ensures.value, c.reserve.ensures.items, ← c.self.view_is) (λ id. within_with c.args.first c.args.last c.self.inside.ranges.items id c.requires c.self.invariant)
