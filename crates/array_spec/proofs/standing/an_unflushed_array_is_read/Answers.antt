use Rattle.array_spec.proofs.Prelude.{unflushed_holds_nothing, unflushed_is_read}
use Rattle.array_spec.proofs.standing.an_unflushed_array_is_read.Goals as goal

pub returns-clause-read : goal.returns-clause-read
returns-clause-read c = unflushed_is_read

pub returns-clause-nothing : goal.returns-clause-nothing
returns-clause-nothing c = unflushed_holds_nothing
