-- Which facts lie in which is transitive.
use Rattle.std.proofs.Common.{arith}
use Rattle.std.proofs.lemmas.Grind.{common_steps}
use Rattle.pur_base.specs.Keys.{IsTransitive}
use Rattle.pur_base.specs.Facts.{apart, is_narrower}

-- where no fact lies in another
pub apart_is_transitive : {F : Type 0} → IsTransitive {F = F} apart
apart_is_transitive f g h x y = x

-- of elisions
pub narrower_is_transitive : IsTransitive is_narrower
narrower_is_transitive f g h x y = grind (arith, common_steps)
