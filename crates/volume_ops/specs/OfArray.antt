-- What is said of the plain array that memory reads as.
use Rattle.std.specs.Prelude.{◌≡◌, ℕ, true, false, List, length, Option, Some, None}
use Rattle.memory_spec.specs.Prelude.{Entry, Array, Request, has, sectors_of, is_snapshot, ObjectFact, Memory, Contents, ReadsAs}
use Rattle.array_spec.specs.Base.{is_snapshot as is_snapshot_kind}
use Rattle.pur_base.specs.declared.request.Request.TheVariants as request
use Rattle.array_memory.specs.Prelude.{HasObject as IsThere}
use Rattle.volume_ops.specs.declared.listing.ObjectEntry.{ObjectEntry}

-- it holds of each plain array that memory reads as, whatever the segments hold
abbrev pub OfArray : Memory → (Array → Type 0) → Type 0
OfArray m P = (contents : Contents) (array : Array) → ReadsAs contents m array → P array

-- the array has the object under this name
pub record HasObject (array : Array) (name : List ℕ) (x : ObjectFact) : Type 0 where
  pub there : has array name ≡ true
  pub kind : is_snapshot array name ≡ is_snapshot_kind x.kind
  pub size : length (sectors_of array name) ≡ x.sectors

-- the array has this object under the name, or none
abbrev pub HasFound : Array → List ℕ → Option ObjectFact → Type 0
HasFound array name (Some x) = HasObject array name x
HasFound array name None = has array name ≡ false

-- the line of the list of names
abbrev pub line_of : Entry → ObjectEntry
line_of e = record { name = e.name; snapshot = e.snapshot; sectors = length e.sectors }

-- the object is visible that a step in the background is to work on
abbrev pub HasItsObject : List ObjectFact → Request → Type 0
HasItsObject objects (request.Flatten n) = IsThere objects n
HasItsObject objects _ = Unit {0}
