use Rattle.table_soundness.proofs.Prelude.{subst, facts_of, AreNewest}
use Rattle.table_soundness.specs.Held.{newest_facts}
use Rattle.table_soundness.proofs.NewestLemmas.{newest_of_both}
use Rattle.table_soundness.proofs.shown.+newest_of_each.Goals as goal

pub returns-then-are_covered : goal.returns-then-are_covered
returns-then-are_covered g t c =
    let is = rw (c.facts-2.ensures, c.facts-3.ensures) at c.are_covered.ensures c.if-are_covered.true in
    subst (λ l. AreNewest g.F.Fact.key g.F.Fact.number (facts_of c.args.patches.now) l) is
    (newest_of_both g.F.Fact.key g.F.Fact.number c.args.patches.now c.split_at.result.0.now c.split_at.result.1.now (newest_facts c.in_ok-older.older) (newest_facts c.in_ok-newer.newer)
    c.split_at.ensures.by_index.0 c.in_ok-older.ensures c.in_ok-newer.ensures)

pub returns : goal.returns
returns g t c =
    let is = rw (c.facts-4.ensures, c.facts-5.ensures) at c.in_ok-both.ensures in
    rw is (newest_of_both g.F.Fact.key g.F.Fact.number c.args.patches.now c.split_at.result.0.now c.split_at.result.1.now (newest_facts c.in_ok-older.older) (newest_facts c.in_ok-newer.newer)
    c.split_at.ensures.by_index.0 c.in_ok-older.ensures c.in_ok-newer.ensures)
