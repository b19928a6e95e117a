-- What flattening makes of memory: the first sectors of a medium's range get addresses of their own, where something below says what they read as,
-- and the range then begins behind them.
use Rattle.std.specs.Prelude.{◌≡◌, ◌⊎◌, ◌↔◌, ℕ, ◌+◌, ◌<◌, ◌≤◌, ◌^◌, nat_lt, if◌then◌else◌, List, Some, None, length, Contains}
use Rattle.array_spec.specs.Prelude.{Array, Facts, objects, range, address, address_key, Target, ObjectFact, MediumFact, AddressFact, NUMBER_LIMIT}
use Rattle.memory_spec.specs.Prelude.{Ascends, REQUEST_SECTORS, ReadsAt, Reply, facts, Memory, Contents, IsSound, ReadsAs}
use Rattle.pur_base.specs.declared.reply.Reply.TheVariants as reply
use Rattle.pyramid.specs.Prelude.{facts_in}
use Rattle.medium_table.specs.Prelude.{cut_facts}
use Rattle.command_spec.specs.declared.amounts.Amounts.{Amounts}
use Rattle.command_spec.specs.declared.amounts.TheConstants.{NOTHING}
use Rattle.command_spec.specs.declared.limits.TheConstants.{BACKGROUND_FACTS}

-- something below says what the sector reads as, and not the medium itself
pub record IsOwed (f : Facts) (medium sector : ℕ) (target : Target) : Type 0 where
  pub unsaid : address f medium sector ≡ None
  pub reads : ReadsAt f medium sector (Some target)

-- These addresses may be given to sectors of a visible range of an object's medium, from its first one up to an end: one to each sector to which one is owed, with the next numbers.
pub record MayFlatten (m : Memory) (r : MediumFact) (until : ℕ) (given : List AddressFact) : Type 0 where
  pub there : range (facts m.tables) r.medium.0 r.start ≡ Some r
  pub of_object : (x : ObjectFact) × Contains (objects (facts m.tables) m.next.object) x × (x.medium.0 ≡ r.medium.0)
  pub some : r.start < until
  pub within : until ≤ r.end
  pub each : (a : AddressFact) → Contains given a → (a.medium.0 ≡ r.medium.0) × (r.start ≤ a.sector) × (a.sector < until) × IsOwed (facts m.tables) r.medium.0 a.sector a.target
  pub all : (sector : ℕ) (target : Target) → r.start ≤ sector → sector < until → IsOwed (facts m.tables) r.medium.0 sector target → (a : AddressFact) × Contains given a × (a.sector ≡ sector)
  pub numbers : (a : AddressFact) → Contains given a → (m.next.sequence ≤ a.seq.0) × (a.seq.0 < m.next.sequence + length given)
  pub distinct : (a b : AddressFact) → Contains given a → Contains given b → a.seq.0 ≡ b.seq.0 → a ≡ b
  pub left : m.next.sequence + length given + 2 < NUMBER_LIMIT

-- the facts that take the front of the range away: their numbers are behind those of the addresses
abbrev pub cut_of : Memory → MediumFact → ℕ → List AddressFact → List MediumFact
cut_of m r until given = cut_facts r until (m.next.sequence + length given)

-- These facts were added. The order of facts that aren't flushed isn't told.
pub record HasFlattened (was now : Memory) (r : MediumFact) (until : ℕ) (given : List AddressFact) : Type 0 where
  pub objects : facts_in now.tables.objects ≡ facts_in was.tables.objects
  pub mediums : (f : MediumFact) → Contains (facts_in now.tables.mediums) f ↔ (Contains (facts_in was.tables.mediums) f ⊎ Contains (cut_of was r until given) f)
  pub addresses : (f : AddressFact) → Contains (facts_in now.tables.addresses) f ↔ (Contains (facts_in was.tables.addresses) f ⊎ Contains given f)
  pub segments : facts_in now.tables.segments ≡ facts_in was.tables.segments
  pub elisions : facts_in now.tables.elisions ≡ facts_in was.tables.elisions
  pub staged : now.staged ≡ was.staged
  pub next : now.next ≡ record was.next { sequence = was.next.sequence + length given + length (cut_of was r until given) }

-- what that takes up
abbrev pub flattened : Memory → MediumFact → ℕ → List AddressFact → Amounts
flattened was r until given = record NOTHING { mediums = length (cut_of was r until given); addresses = length given }

-- ---- a step

-- the medium of the object of that name
pub record IsMediumOf (m : Memory) (name : List ℕ) (medium : ℕ) : Type 0 where
  pub object : ObjectFact
  pub there : Contains (objects (facts m.tables) m.next.object) object
  pub named : object.name ≡ name
  pub its : object.medium.0 ≡ medium

-- no range of the medium is visible
abbrev pub HasNoRange : Memory → ℕ → Type 0
HasNoRange m medium = (start : ℕ) → start < 2 ^ 64 → range (facts m.tables) medium start ≡ None

-- the visible range of the medium in front of which none begins
pub record IsLowestRange (f : Facts) (medium : ℕ) (r : MediumFact) : Type 0 where
  pub there : range f medium r.start ≡ Some r
  pub first : (start : ℕ) → start < r.start → range f medium start ≡ None

-- where the first sectors of a range end, as many as a request has at most
abbrev pub front_end : MediumFact → ℕ
front_end r = if nat_lt (r.start + REQUEST_SECTORS) r.end then r.start + REQUEST_SECTORS else r.end

-- What of a medium is flattened next: the front of its lowest range, with the addresses that are owed to its sectors, by ascending sector.
pub record IsFront (m : Memory) (medium : ℕ) (r : MediumFact) (given : List AddressFact) : Type 0 where
  pub lowest : IsLowestRange (facts m.tables) medium r
  pub may : MayFlatten m r (front_end r) given
  pub ascends : Ascends address_key given

-- how many facts that takes in
abbrev pub front_facts : Memory → MediumFact → List AddressFact → ℕ
front_facts m r given = length given + length (cut_of m r (front_end r) given)

-- the front is taken in, and its facts are counted
pub record TakesFront (medium : ℕ) (was now : Memory) (before after : ℕ) : Type 0 where
  pub range : MediumFact
  pub given : List AddressFact
  pub front : IsFront was medium range given
  pub made : HasFlattened was now range (front_end range) given
  pub counted : after ≡ before + front_facts was range given

-- what is left of the medium's ranges by what is replied: none, or some
abbrev pub LeavesRanges : Reply → Memory → ℕ → Type 0
LeavesRanges reply.Done m medium = HasNoRange m medium
LeavesRanges reply.Left m medium = (r : MediumFact) × IsLowestRange (facts m.tables) medium r
LeavesRanges _ m medium = ⊥

-- What a flattening makes of memory, and of the count of facts that came in without a command, by what is replied: nothing, where the medium has no range, and else its front is taken in.
abbrev pub FlattensTo : Reply → ℕ → Memory → Memory → ℕ → ℕ → Type 0
FlattensTo reply.Idle medium was now before after = HasNoRange was medium × (now ≡ was) × (after ≡ before)
FlattensTo said medium was now before after = TakesFront medium was now before after × LeavesRanges said now medium

-- The facts of the front don't make more of those that came in without a command than may be, or there is none.
abbrev pub FrontFits : ℕ → Memory → ℕ → Type 0
FrontFits medium m before = HasNoRange m medium ⊎ ((r : MediumFact) × (given : List AddressFact) × IsFront m medium r given × (before + front_facts m r given ≤ BACKGROUND_FACTS))

-- or they do
abbrev pub FrontPasses : ℕ → Memory → ℕ → Type 0
FrontPasses medium m before = (r : MediumFact) × (given : List AddressFact) × IsFront m medium r given × (BACKGROUND_FACTS < before + front_facts m r given)

-- ---- the law

-- Memory stays sound, and reads as before.
abbrev pub FlatteningReads : Type 0
FlatteningReads = (contents : Contents) (was now : Memory) (r : MediumFact) (until : ℕ) (given : List AddressFact) (array : Array)
    → ReadsAs contents was array → MayFlatten was r until given → HasFlattened was now r until given
    → ReadsAs contents now array

-- Whatever it reads as, it stays sound.
abbrev pub FlatteningIsSound : Type 0
FlatteningIsSound = (was now : Memory) (r : MediumFact) (until : ℕ) (given : List AddressFact)
    → IsSound was → MayFlatten was r until given → HasFlattened was now r until given → IsSound now
