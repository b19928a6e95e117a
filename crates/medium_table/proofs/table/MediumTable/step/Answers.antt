use Rattle.medium_table.proofs.Prelude.{◌^◌, ◌<◌, arith, medium_key, key_of, is_within, IsLastSaid, facts_in, said}
use Rattle.medium_table.proofs.RangeLemmas.{none_over}
use Rattle.medium_table.proofs.table.MediumTable.step.Goals as goal

pub returns-else-from-range-clause-absent : goal.returns-else-from-range-clause-absent
returns-else-from-range-clause-absent c = λ r.
    let start : c.in-Some.range.start < 2 ^ 64 = omega arith in
    let last : IsLastSaid medium_key (said (facts_in c.args.self.now.facts) (is_within c.args.elided.now)) (key_of c.args.medium.0 0) (key_of c.args.medium.0 c.args.sector) c.in-Some.range =
    rw (c.key_of-from.ensures, c.key_of-to.ensures, c.from.ensures) at c.in-Some.ensures.found in
    none_over (facts_in c.args.self.now.facts) (is_within c.args.elided.now) c.args.medium.0 c.args.sector c.in-Some.range r c.requires.disjoint last start (omega arith) (omega (arith, c.if-from-range.false, c.from-in-Some.ensures))
