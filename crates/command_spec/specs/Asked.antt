-- What a request asks of an array's memory, and what it makes of it.
use Rattle.std.specs.Prelude.{◌≡◌, ◌≢◌, ℕ, ◌+◌, ◌^◌, ◌<◌, ◌≤◌, true, List, [], length, replicate, All, Contains}
use Rattle.memory_spec.specs.Prelude.{Command, is_name, filled, OBJECTS, OBJECT_SECTORS, REQUEST_SECTORS, Request, Volume, ObjectFact, NextNumbers, NUMBER_LIMIT}
use Rattle.pur_base.specs.declared.request.Request.TheVariants as request
use Rattle.command_spec.specs.declared.limits.TheConstants.{STAGED_SECTORS}
use Rattle.command_spec.specs.Kept.{Kept}
use Rattle.command_spec.specs.Room.{AtMost, room_of, taken, TakesOnly}

-- ---- what may be asked

-- the command of a request and the sectors that it brings
abbrev pub command_of : Request → List (List ℕ) → Command
command_of r sectors = record { request = r; sectors = sectors }

-- a volume of that name is visible, and has these sectors
pub record HasSpan (objects : List ObjectFact) (name : List ℕ) (lba count : ℕ) : Type 0 where
  pub volume : ObjectFact
  pub there : Contains objects volume
  pub named : volume.name ≡ name
  pub kind : volume.kind ≡ Volume
  pub within : lba + count ≤ volume.sectors
  pub few : count ≤ REQUEST_SECTORS

-- a volume of that name and size may be created, and isn't one too many
pub record IsFree (objects : List ObjectFact) (name : List ℕ) (size : ℕ) : Type 0 where
  pub lawful : is_name name ≡ true
  pub some : 1 ≤ size
  pub most : size ≤ OBJECT_SECTORS
  pub fresh : All (λ x. x.name ≢ name) objects
  pub few : length objects < OBJECTS

-- an object of that name is visible, the other name is lawful and free, and one object more isn't one too many
pub record IsDerivable (objects : List ObjectFact) (name new : List ℕ) : Type 0 where
  pub source : ObjectFact
  pub there : Contains objects source
  pub named : source.name ≡ name
  pub lawful : is_name new ≡ true
  pub fresh : All (λ x. x.name ≢ new) objects
  pub few : length objects < OBJECTS

-- an object of the one name has these sectors, and a volume of the other has those that they are copied to
pub record HasCopy (objects : List ObjectFact) (name : List ℕ) (lba : ℕ) (other : List ℕ) (to count : ℕ) : Type 0 where
  pub source : ObjectFact
  pub source_there : Contains objects source
  pub source_named : source.name ≡ name
  pub target : ObjectFact
  pub target_there : Contains objects target
  pub target_named : target.name ≡ other
  pub kind : target.kind ≡ Volume
  pub some : 1 ≤ count
  pub few : count < 2 ^ 32
  pub within : lba + count ≤ source.sectors
  pub to_within : to + count ≤ target.sectors

-- an object of that name is visible
abbrev pub HasObject : List ObjectFact → List ℕ → Type 0
HasObject objects name = (x : ObjectFact) × Contains objects x × (x.name ≡ name)

-- the visible objects allow the request
abbrev pub IsAllowed : List ObjectFact → Request → Type 0
IsAllowed objects (request.Create n size) = IsFree objects n size
IsAllowed objects (request.Write n lba count) = HasSpan objects n lba count
IsAllowed objects (request.Fill n lba count byte) = HasSpan objects n lba count
IsAllowed objects (request.Zero n lba count) = HasSpan objects n lba count
IsAllowed objects (request.Snapshot n new) = IsDerivable objects n new
IsAllowed objects (request.Clone n new) = IsDerivable objects n new
IsAllowed objects (request.Copy n lba m to count) = HasCopy objects n lba m to count
IsAllowed objects (request.Destroy n) = HasObject objects n
IsAllowed objects _ = ⊥

-- ids and sequence numbers are left for any one request
pub record AreLeft (next : NextNumbers) : Type 0 where
  pub objects : next.object + 1 < NUMBER_LIMIT
  pub mediums : next.medium + 2 < NUMBER_LIMIT
  pub numbers : next.sequence + REQUEST_SECTORS < NUMBER_LIMIT

-- ---- what it takes

-- the sectors that it stages
abbrev pub staged_by : Request → List (List ℕ) → List (List ℕ)
staged_by (request.Write n lba count) sectors = sectors
staged_by (request.Fill n lba count byte) sectors = replicate count (filled byte)
staged_by _ sectors = []

-- there is room for what it takes
pub record IsPrepared (k : Kept) (r : Request) : Type 0 where
  pub room : AtMost (taken r) (room_of k)
  pub indices : length k.memory.staged + (taken r).staged ≤ STAGED_SECTORS

-- ---- what it leaves

-- no more is taken than what it takes at most
abbrev pub HasRoomLeft : Kept → Kept → Request → Type 0
HasRoomLeft was now r = TakesOnly was now (taken r)
