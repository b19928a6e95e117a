-- A session can go on with one array while units are written that its tables leave free.
use Rattle.std.specs.Prelude.{Bool, List, [], ◌∷◌}
use Rattle.session_spec.specs.Prelude.{Shelved, LeavesOnly}
use Rattle.register.specs.declared.state.Register.{Register}
use Rattle.register.specs.Prelude.{Content, IsOpen, array_of}
use Rattle.array_core.specs.Free.{WritesFree}
use Rattle.array_core.specs.Performing.{IsKeptAt}

-- While free units are written, a session can go on with the array of before at every moment.
abbrev pub FreeWritesGoOn : Shelved → Shelved → Type 0
FreeWritesGoOn start now = start.honest → (r : Register) (members : List Bool) (held : Content)
    → IsOpen start r members held → WritesFree r held start now → LeavesOnly start now (IsKeptAt start r.record (array_of held ∷ []))
