-- What each answer of the making tells.
use Rattle.std.specs.Prelude.{◌≡◌, Result, Ok, Err, ⊤}
use Rattle.session_spec.specs.Prelude.{Device, Shelved, AreSame, GivesBody, IsBlank, NoneFailed, OneFailed}
use Rattle.shelf_init.specs.declared.making.InitFault.{InitFault}
use Rattle.shelf_init.specs.declared.making.InitFault.TheVariants as fault

-- a device fault is told exactly where a call failed
abbrev pub IsCounted : Result (Unit {0}) InitFault → Shelved → Shelved → Type 0
IsCounted (Ok _) old new = NoneFailed old new
IsCounted (Err (fault.Memory m)) old new = NoneFailed old new
IsCounted (Err fault.Device) old new = OneFailed old new
IsCounted (Err fault.NotBlank) old new = NoneFailed old new

-- a record is in force, or none is
abbrev pub IsJudged : Result (Unit {0}) InitFault → Shelved → Shelved → Type 0
IsJudged (Ok _) old new = IsBlank old
IsJudged (Err (fault.Memory m)) old new = ⊤
IsJudged (Err fault.Device) old new = ⊤
IsJudged (Err fault.NotBlank) old new = GivesBody old × AreSame old new

-- without memory no call is made
abbrev pub IsUntouched : Result (Unit {0}) InitFault → Shelved → Shelved → Type 0
IsUntouched (Err (fault.Memory m)) old new = (d : Device) → new.disk d ≡ old.disk d
IsUntouched result old new = ⊤
