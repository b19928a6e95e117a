use Rattle.address_table.proofs.Prelude.{◌≡◌, filter, take, is_within, facts_in, facts_of, is_pointing}
use Rattle.address_table.proofs.table.AddressTable.flushed_pointing.Given as goal

abbrev pub invariant-loop-patch : goal.invariant-loop-patch
invariant-loop-patch l = l.found.items ≡ filter (is_pointing (facts_in l.fn.self.facts) (is_within l.elided) l.segment.0) (facts_of (take l.patch-index l.fn.self.facts.patches))
