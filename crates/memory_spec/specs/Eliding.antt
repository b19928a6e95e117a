-- What an elision is, and what eliding mediums that no object reaches, and segments that no address points to, makes of memory.
use Rattle.std.specs.Prelude.{◌≡◌, ◌≢◌, ◌⊎◌, ◌↔◌, ℕ, ◌+◌, ◌<◌, ◌≤◌, true, List, Some, Contains}
use Rattle.array_spec.specs.Prelude.{Table, Facts, Array, objects, range, address, is_elided, Location, Stored, ObjectFact, MediumFact, ElisionFact, NextNumbers, NUMBER_LIMIT, IsFact, AreElisionsSound, next_id}
use Rattle.pur_base.specs.declared.request.Table.TheVariants as table
use Rattle.pur_base.specs.declared.facts.AnyFact.TheVariants as any
use Rattle.memory_spec.specs.Tables.{facts}
use Rattle.memory_spec.specs.Memory.{Memory, Contents, ReadsAs}

-- The elision of an id of a table where ids of some are elided: its range is the widest one about the id in which all other ids are.
pub record IsElisionOf (t : Table) (IsElided : ℕ → Type 0) (number id : ℕ) (f : ElisionFact) : Type 0 where
  pub of_table : f.table ≡ t
  pub numbered : f.seq.0 ≡ number
  pub has : (f.first ≤ id) × (id ≤ f.last)
  pub within : (i : ℕ) → f.first ≤ i → i ≤ f.last → IsElided i ⊎ (i ≡ id)
  pub before : (i : ℕ) → i + 1 ≡ f.first → ¬ (IsElided i)
  pub behind : ¬ (IsElided (f.last + 1))

-- a visible object is on the medium, or a visible range of a medium that is reached leads to it
pub data IsReached (facts : Facts) (next : ℕ) : ℕ → Type 0 where
  of_object : {x : ObjectFact} → Contains (objects facts next) x → IsReached facts next x.medium.0
  of_range : {medium : ℕ} {r : MediumFact} → IsReached facts next medium → range facts medium r.start ≡ Some r → IsReached facts next r.target.0

-- facts of ids that were given, with the next numbers
pub record AreNewElisions (was now : NextNumbers) (added : List ElisionFact) : Type 0 where
  pub each : (f : ElisionFact) → Contains added f → IsFact (any.Elision f)
  pub ids : (f : ElisionFact) → Contains added f → f.last < next_id was f.table
  pub numbers : (f : ElisionFact) → Contains added f → (was.sequence ≤ f.seq.0) × (f.seq.0 < now.sequence)
  pub one_number : (f g : ElisionFact) → Contains added f → Contains added g → f.seq.0 ≡ g.seq.0 → f ≡ g

-- Elisions were added: of mediums only those that no object reaches, of segments only those that no address points to any more, and of no objects.
pub record IsEliding (was now : Memory) (added : List ElisionFact) : Type 0 where
  pub elisions : (f : ElisionFact) → Contains (facts now.tables).elisions f ↔ (Contains (facts was.tables).elisions f ⊎ Contains added f)
  pub new_elisions : AreNewElisions was.next now.next added
  pub sound : AreElisionsSound (facts now.tables).elisions
  pub no_object : (f : ElisionFact) → Contains added f → f.table ≢ table.Object
  pub mediums_unreached : (id : ℕ) → is_elided (facts now.tables).elisions table.Medium id ≡ true
      → (is_elided (facts was.tables).elisions table.Medium id ≡ true) ⊎ ¬ (IsReached (facts was.tables) was.next.object id)
  pub addresses_unreached : (id : ℕ) → is_elided (facts now.tables).elisions table.Address id ≡ true
      → (is_elided (facts was.tables).elisions table.Address id ≡ true) ⊎ ¬ (IsReached (facts was.tables) was.next.object id)
  pub segments_unused : (id : ℕ) → is_elided (facts now.tables).elisions table.Segment id ≡ true
      → (is_elided (facts was.tables).elisions table.Segment id ≡ true)
      ⊎ ((medium sector : ℕ) (at : Location) → address (facts now.tables) medium sector ≡ Some (Stored at) → at.segment.0 ≢ id)
  pub objects : (facts now.tables).objects ≡ (facts was.tables).objects
  pub mediums : (facts now.tables).mediums ≡ (facts was.tables).mediums
  pub addresses : (facts now.tables).addresses ≡ (facts was.tables).addresses
  pub segments : (facts now.tables).segments ≡ (facts was.tables).segments
  pub staged : now.staged ≡ was.staged
  pub next : now.next ≡ record was.next { sequence = now.next.sequence }
  pub numbers : (was.next.sequence ≤ now.next.sequence) × (now.next.sequence < NUMBER_LIMIT)

-- Memory stays sound, and reads the same.
abbrev pub ElidingReads : Type 0
ElidingReads = (contents : Contents) (was now : Memory) (added : List ElisionFact) (array : Array) → ReadsAs contents was array → IsEliding was now added → ReadsAs contents now array
