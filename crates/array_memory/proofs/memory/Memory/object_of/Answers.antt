use Rattle.array_memory.proofs.Prelude.{sym, ◌∙◌, visible_fact, ids_of, one_named}
use Rattle.array_memory.proofs.memory.Memory.object_of.Goals as goal

pub returns-clause-is : goal.returns-clause-is
returns-clause-is c = rw (← c.self.view_is) (λ x there named. one_named c.self.inside.objects.visible c.in-Some.object x c.len-len.ensures.distinct c.in-Some.ensures.some.0 there (c.in-Some.ensures.some.1 ∙ sym named))

pub returns-clause-medium : goal.returns-clause-medium
returns-clause-medium c = rw (← c.self.view_is) ((ids_of _ c.self.invariant c.in-Some.object (visible_fact _ c.self.invariant c.in-Some.object c.in-Some.ensures.some.0)).1)
