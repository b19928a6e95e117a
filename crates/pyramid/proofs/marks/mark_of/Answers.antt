use Rattle.pyramid.proofs.Prelude.{refl}
use Rattle.pyramid.specs.Marks.{mark_of}
use Rattle.pyramid.proofs.marks.mark_of.Goals as goal

pub returns-clause-value : goal.returns-clause-value
unfolding mark_of
returns-clause-value c = refl
