-- How a session ends.
use Rattle.session_spec.specs.Prelude.{Status}
use Rattle.pur_base.specs.declared.reply.Status.TheVariants as status
use Rattle.array_server.specs.Sessions.{IsSessionEnd}

-- the ways in which `serve` ends
abbrev pub IsServeStatus : Status → Type 0
IsServeStatus status.Memory = Unit {0}
IsServeStatus status.NoArray = Unit {0}
IsServeStatus s = IsSessionEnd s

-- the ways in which it ends that no session has which was opened
abbrev pub IsNeverOpened : Status → Type 0
IsNeverOpened status.Memory = Unit {0}
IsNeverOpened status.NoArray = Unit {0}
IsNeverOpened _ = ⊥
