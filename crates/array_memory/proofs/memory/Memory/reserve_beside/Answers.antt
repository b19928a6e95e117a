use Rattle.array_memory.proofs.Prelude.{refl, kept_beside}
use Rattle.array_memory.proofs.memory.Memory.reserve_beside.Goals as goal

pub invariant_of-self : goal.invariant_of-self
invariant_of-self c = kept_beside _ _ _ _ _ _ _ _ _ _ _ _ c.reserve_objects.ensures.rest refl c.self.invariant

pub invariant_of-self-in_err-reserve : goal.invariant_of-self-in_err-reserve
invariant_of-self-in_err-reserve c = kept_beside _ _ _ _ _ _ _ _ _ _ _ _ c.reserve_objects.ensures.rest c.reserve.ensures.items c.self.invariant

pub invariant_of-self-2 : goal.invariant_of-self-2
invariant_of-self-2 c = kept_beside _ _ _ _ _ _ _ _ _ _ _ _ c.reserve_objects.ensures.rest c.reserve.ensures.items c.self.invariant
