-- The array that is served, at a point, and what answering an item makes of it.
use Rattle.std.specs.Prelude.{◌≡◌, ◌⊎◌, Bool, true, false, List, [], ◌∷◌, Contains, if◌then◌else◌}
use Rattle.session_spec.specs.Prelude.{Device, Geometry, IsBearable, Item, Asked, Answer, names, IsAnswer, AcceptsNext, geometry_of, Shelved, Stop, Contents, ReadsAs, facts, IsStanding, Point, Answers, named_sound, told_of}
use Rattle.pur_base.specs.Plain as plain
use Rattle.register.specs.Prelude.{Content, array_of}
use Rattle.array_core.specs.declared.array.Array.{Array}
use Rattle.array_core.specs.Prelude.{NamesHolders, HasEnough, SegmentsHold, IsArrayOf, IsReady, lost_by}
use Rattle.array_checkpoint.specs.Prelude.{IsRoomOf, MayDo}
use Rattle.array_engine.specs.declared.said.Said.{Said}
use Rattle.array_engine.specs.declared.engine.Engine.{Engine}
use Rattle.array_engine.specs.Appending.{failed_in, lost_in}
use Rattle.array_engine.specs.Saying.{Says}

-- ---- where it stands

-- unless it is halted its array is one of a shelf of this size, and what room that leaves is known
abbrev pub IsOf : Geometry → Engine → Type 0
IsOf shelf e = e.halted ≡ false → IsArrayOf shelf e.array × IsRoomOf e.array e.room

-- The array's memory reads as the point's array, for sectors in segments of which the drives hold those that were placed, where that is told.
-- Its record names just the devices that hold it. Enough drives do, and those that it leaves out are no more than is borne.
pub record StandsAt (told : Bool) (shelf : Shelved) (a : Array) (p : Point) : Type 0 where
  pub logged : p.logged ≡ a.log.count
  pub boot : p.boot ≡ a.register.record
  pub memory : p.memory ≡ told_of a.memory.memory
  pub background : p.background ≡ a.background.facts
  pub contents : Contents
  pub reads : ReadsAs contents a.memory.memory p.array
  pub hold : told ≡ true → SegmentsHold contents shelf a.register (facts a.memory.memory.tables)
  pub names_holders : NamesHolders a
  pub enough : HasEnough a.register
  pub borne : IsBearable (geometry_of shelf) (named_sound a.register.record)

-- The engine stands at the point. Once it's halted only that is told.
pub record IsAt (told : Bool) (shelf : Shelved) (e : Engine) (p : Point) : Type 0 where
  pub halted : p.halted ≡ e.halted
  pub stands : e.halted ≡ false → StandsAt told shelf e.array p

-- ---- what an answer makes of it

-- the point behind an answer, with that array: a halted engine goes on with what it had
abbrev pub point_after : Engine → plain.Array → Stop → Point → Point
point_after e array stop from = record {
  array = array;
  logged = if e.halted then from.logged else e.array.log.count;
  boot = if e.halted then from.boot else e.array.register.record;
  memory = if e.halted then from.memory else told_of e.array.memory.memory;
  background = if e.halted then from.background else e.array.background.facts;
  halted = e.halted;
  stop = stop;
}

-- An item was answered at a point: the answer is whole and has its cause, and the engine stands behind it then. No write or sync failed on a device that its record names, unless it's halted. Where honest devices held the point's array they hold that behind it, unless it's halted.
pub record IsAnsweredAt (told : Bool) (old new : Shelved) (e f : Engine) (item : Item) (said : Said) (from : Point) : Type 0 where
  pub reply : Answer
  pub says : Says f.array.memory.memory f.buffers.reply.items said reply
  pub whole : IsAnswer reply
  pub array : plain.Array
  pub answers : (stop : Stop) → Answers told (geometry_of old) (failed_in old new) (lost_in old new) from item reply (point_after f array stop from)
  pub at : (stop : Stop) → IsAt told new f (point_after f array stop from)
  pub unlost : f.halted ≡ false → (d : Device) → names f.array.register.record d ≡ true → (new.disk d).write_faults ≡ (old.disk d).write_faults
  pub ready : old.honest → f.halted ≡ false → (held : Content) → IsReady old e.array held → from.array ≡ array_of held → (more : Content) × IsReady new f.array more × (array ≡ array_of more)

-- there is room for the item, which is a logged request
abbrev pub MayDoItem : Item → Array → Type 0
MayDoItem (Asked r sectors) a = MayDo r a
MayDoItem _ a = ⊥

-- the item may be done: the array accepts it, and there is room for it
pub record MayBeDone (a : Array) (was : plain.Array) (item : Item) (array : plain.Array) : Type 0 where
  pub accepts : AcceptsNext was (item ∷ []) array
  pub room : MayDoItem item a

-- at a stop while the item is answered a session can go on, from the array without it or with it, as long as what has lost writes by then is borne
abbrev pub IsKeptBy : Shelved → Array → plain.Array → Item → Stop → Type 0
IsKeptBy old a was item stop = IsBearable (geometry_of old) (lost_by old stop (named_sound a.register.record))
    → (arrays : List plain.Array) × ((array : plain.Array) → Contains arrays array → (array ≡ was) ⊎ MayBeDone a was item array)
    × IsStanding (geometry_of old) stop.image (lost_by old stop (named_sound a.register.record)) arrays
