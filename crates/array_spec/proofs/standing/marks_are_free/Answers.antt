use Rattle.array_spec.proofs.Marks.{marks_are_free}
use Rattle.array_spec.proofs.standing.marks_are_free.Goals as goal

pub returns : goal.returns
returns c = marks_are_free
