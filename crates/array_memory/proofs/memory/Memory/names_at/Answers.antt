use Rattle.array_memory.proofs.Prelude.{ap, ◌∙◌, is_said_in, names_at}
use Rattle.array_memory.proofs.memory.Memory.names_at.Goals as goal

pub returns-in-Some : goal.returns-in-Some
unfolding names_at
returns-in-Some c =
    let told = rw c.ranges-hidden.ensures.value at c.in-Some.ensures in
    rw (← c.self.view_is) (c.stands_in.ensures ∙ ap (is_said_in c.args.segment) told)

pub returns-in-None : goal.returns-in-None
unfolding names_at
returns-in-None c =
    let told = rw c.ranges-hidden.ensures.value at c.in-None.ensures in
    rw (← c.self.view_is) (ap (is_said_in c.args.segment) told)
