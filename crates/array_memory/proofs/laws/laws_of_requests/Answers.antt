use Rattle.command_spec.proofs.AllowedLemmas.{allowed, accepted}
use Rattle.array_memory.proofs.laws.laws_of_requests.Goals as goal

pub returns-clause-allowed : goal.returns-clause-allowed
returns-clause-allowed c = λ contents k array r sectors kept reads lawful fine. allowed contents k array kept reads r sectors lawful fine

pub returns-clause-accepted : goal.returns-clause-accepted
returns-clause-accepted c = λ contents k array r sectors kept reads may. accepted contents k array kept reads r sectors may
