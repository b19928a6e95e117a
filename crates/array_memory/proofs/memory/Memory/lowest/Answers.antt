use Rattle.std.proofs.lemmas.Option.{IfSome_then}
use Rattle.array_memory.proofs.Seen.{seen}
use Rattle.array_memory.proofs.OwedLemmas.{lowest_seen, none_seen}
use Rattle.array_memory.proofs.memory.Memory.lowest.Goals as goal

pub returns-clause-some : goal.returns-clause-some
returns-clause-some c =
    rw (← c.self.view_is) (IfSome_then c.lowest.result (rw c.ranges-2.ensures.value at c.lowest.ensures.found) (lowest_seen (seen c.self.inside) c.self.invariant c.args.medium.0))

pub returns-clause-none : goal.returns-clause-none
returns-clause-none c = rw (← c.self.view_is) (none_seen (seen c.self.inside) c.self.invariant c.args.medium.0 c.lowest.result (rw c.ranges-2.ensures.value at c.lowest.ensures.absent))
