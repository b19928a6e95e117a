use Rattle.address_table.proofs.Prelude.{◌≡◌, ◌++◌, filter, take, is_within, facts_in, is_pointing}
use Rattle.address_table.proofs.table.AddressTable.push_pointing.Given as goal

abbrev pub invariant-loop-fact : goal.invariant-loop-fact
invariant-loop-fact l = l.found.items ≡ l.initial.found.items ++ filter (is_pointing (facts_in l.self.facts) (is_within l.elided) l.segment.0) (take l.fact-index l.facts)
