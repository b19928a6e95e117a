-- Which calls failed, as the counts of the devices tell.
use Rattle.std.specs.Prelude.{Result, Ok, Err}
use Rattle.session_spec.specs.Prelude.{Failed, Shelved, NoneFailed, OneFailed}

-- an error is told exactly where a call failed
abbrev pub TellsFailed : {T : Type 0} → Result T Failed → Shelved → Shelved → Type 0
TellsFailed (Ok _) old new = NoneFailed old new
TellsFailed (Err _) old new = OneFailed old new
