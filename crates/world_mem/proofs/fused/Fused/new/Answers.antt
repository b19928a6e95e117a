use Rattle.world_mem.proofs.Blowing.{unused}
use Rattle.world_mem.proofs.fused.Fused.new.Goals as goal

pub invariant_of-result : goal.invariant_of-result
invariant_of-result g c = record { whole = λ sound d. unused 24 2 d; blown_out = λ blown. absurd (cc) }
