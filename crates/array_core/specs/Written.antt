-- What a checkpoint or a merge writes into units that the tables leave free.
use Rattle.std.specs.Prelude.{◌≡◌, ◌/◌, ◌<◌, ℕ, Bool, true, List}
use Rattle.session_spec.specs.Prelude.{Device, Drive, Nv, UNIT_BYTES, names, IsFree, Facts, facts, Shelved, Contents}
use Rattle.register.specs.declared.tables.Tables.{Tables}
use Rattle.register.specs.Prelude.{Content}
use Rattle.array_core.specs.declared.array.Array.{Array}
use Rattle.array_core.specs.Drives.{SegmentsHold}
use Rattle.array_core.specs.Ready.{IsReady}
use Rattle.array_core.specs.Switching.{AreLost, HoldOnLeft, MaySwitch}

-- the bytes of units that memory's tables leave free, on drives that the record names
abbrev pub OnUnused : Array → Device → ℕ → Type 0
OnUnused a (Drive d) i = (d.0 < a.register.record.slots) × (names a.register.record (Drive d) ≡ true) × IsFree a.register.record (facts a.memory.memory.tables) d.0 (i / UNIT_BYTES)
OnUnused a (Nv n) i = ⊥

-- Each drive of the record that is called lost lost a write. On the others stand the next tables, by which the array may go on with the next content, and what segments held and are to hold by these facts.
pub record HasWritten (old new : Shelved) (a : Array) (lost : List Bool) (tables : Tables) (next : Content → Content) (more : Contents → Contents) (fs : Facts) : Type 0 where
  pub cause : AreLost old new a.register lost
  pub may : old.honest → (held : Content) → IsReady old a held → MaySwitch old new a.register a.log lost tables held (next held)
  pub contents : old.honest → (contents : Contents) → SegmentsHold contents old a.register (facts a.memory.memory.tables) → HoldOnLeft new a.register lost (more contents) fs
