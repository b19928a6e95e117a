use Rattle.medium_table.proofs.Prelude.{◌≡◌, ◌++◌, length, take, drop, take_all, arith, take_more}
use Rattle.std.proofs.lemmas.Grind.{common_steps}
use Rattle.medium_table.proofs.marks.marks_of.Goals as goal

pub loop-medium-preserved : goal.loop-medium-preserved
loop-medium-preserved c =
    let marks = c.loop-medium.marks in
    let i = c.loop-medium.medium-index in
    let all : take marks.len (c.mark.new.marks ++ drop (length c.mark.new.marks) marks.items) ≡ c.mark.new.marks = grind (arith, common_steps) in
    rw (all, take_more c.args.mediums.now i (record { 0 = 0 }) c.loop-medium-test.true)
    (record { each = c.mark.ensures.each; marked = c.mark.ensures.marked (take i c.args.mediums.now) (rw c.deref_mut.ensures.value c.loop-medium.invariant.marked) })

pub returns-clause-marked : goal.returns-clause-marked
returns-clause-marked c = rw (take_all c.loop-medium.medium-index c.args.mediums.now c.loop-medium-test.false) at c.loop-medium.invariant.marked
