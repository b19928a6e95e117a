-- An array goes on as another one, or is to halt.
use Rattle.std.specs.Prelude.{◌≡◌, false, List}
use Rattle.session_spec.specs.Prelude.{Command, AllAccepted, after_all, Device, Conditions, Sound, IsBearable, geometry_of, Shelved, LeavesOnly, Contents, ReadsAs, facts}
use Rattle.pur_base.specs.Plain as plain
use Rattle.register.specs.Prelude.{Content, array_of}
use Rattle.array_core.specs.declared.array.Array.{Array}
use Rattle.array_core.specs.Drives.{SegmentsHold}
use Rattle.array_core.specs.Ready.{IsArrayOf, IsReady}
use Rattle.array_core.specs.Holding.{IsHolder}
use Rattle.array_core.specs.Losing.{lost_since}
use Rattle.array_core.specs.Going.{Calls, Causes, GoesOnAt, HandsOn}

-- memory reads as that array, for sectors in segments that the drives hold where they held those of before
pub record ReadsOn (old new : Shelved) (a b : Array) (contents : Contents) (y : plain.Array) : Type 0 where
  pub more : Contents
  pub reads : ReadsAs more b.memory.memory y
  pub hold : old.honest → SegmentsHold contents old a.register (facts a.memory.memory.tables) → SegmentsHold more new b.register (facts b.memory.memory.tables)

-- the devices hold the plain array, by this record, its tables and its log
pub record Holds (shelf : Shelved) (a : Array) (x : plain.Array) : Type 0 where
  pub held : Content
  pub ready : IsReady shelf a held
  pub is : x ≡ array_of held

-- at every moment a session can go on with an array on the way, where honest devices held the one before it
abbrev pub GoesOnMeanwhile : Causes → Shelved → Shelved → Array → List Command → Type 0
GoesOnMeanwhile why old new a commands = old.honest → (x : plain.Array) → Holds old a x → LeavesOnly old new (GoesOnAt why old a.register.record x commands)

-- The array has gone on as another one, by these commands, each of which the plain array accepts in its turn; with none it's the same plain array.
-- Memory reads as the plain array after them, the devices hold that where they held the one before, and at every moment a session can go on with one on the way.
pub record Goes (why : Causes) (old new : Shelved) (a b : Array) (commands : List Command) : Type 0 where
  pub ran : Calls old new
  pub is_of : IsArrayOf (geometry_of new) b
  pub hands_on : HandsOn why old new a b
  pub accepted : (contents : Contents) (x : plain.Array) → ReadsAs contents a.memory.memory x → AllAccepted x commands
  pub reads : (contents : Contents) (x : plain.Array) → ReadsAs contents a.memory.memory x → ReadsOn old new a b contents (after_all x commands)
  pub holds : old.honest → (x : plain.Array) → Holds old a x → Holds new b (after_all x commands)
  pub any_moment : GoesOnMeanwhile why old new a commands

-- ---- it doesn't go on

-- More devices lost a write than are borne: no conditions are in which each sound device holds the array, where those are missing. The commands are undecided.
pub record Halts (why : Causes) (old new : Shelved) (a : Array) (commands : List Command) : Type 0 where
  pub ran : Calls old new
  pub unborne : (now : Conditions) → ((d : Device) → now d ≡ Sound → IsHolder a d × (why.gone d ≡ false)) → ¬ (IsBearable (geometry_of old) (lost_since old new now))
  pub any_moment : GoesOnMeanwhile why old new a commands
