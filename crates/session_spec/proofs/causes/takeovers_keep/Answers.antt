use Rattle.session_spec.proofs.Taken.{takeover_keeps, takeover_bears}
use Rattle.session_spec.proofs.causes.takeovers_keep.Goals as goal

pub returns-clause-keeps : goal.returns-clause-keeps
returns-clause-keeps c = takeover_keeps

pub returns-clause-bears : goal.returns-clause-bears
returns-clause-bears c = takeover_bears
