-- What a destruction makes of memory: the object's id is elided.
use Rattle.std.specs.Prelude.{◌≡◌, ◌⊎◌, ◌↔◌, ℕ, ◌+◌, ◌<◌, IsTrue, Contains}
use Rattle.array_spec.specs.Prelude.{Array, objects, is_elided, ObjectFact, ElisionFact, NUMBER_LIMIT}
use Rattle.memory_spec.specs.Prelude.{without, facts, IsElisionOf, Memory, Contents, ReadsAs}
use Rattle.pur_base.specs.declared.request.Table.TheVariants as table
use Rattle.pyramid.specs.Prelude.{facts_in}

-- the facts elide an object of that id
abbrev pub IsObjectElided : Memory → ℕ → Type 0
IsObjectElided m id = IsTrue (is_elided (facts m.tables).elisions table.Object id)

-- An elision of the object was added, which reaches as far as ids beside it are elided. The order of facts that aren't flushed isn't told.
pub record HasRemoved (was now : Memory) (x : ObjectFact) (f : ElisionFact) : Type 0 where
  pub is : IsElisionOf table.Object (IsObjectElided was) was.next.sequence x.object.0 f
  pub objects : facts_in now.tables.objects ≡ facts_in was.tables.objects
  pub mediums : facts_in now.tables.mediums ≡ facts_in was.tables.mediums
  pub addresses : facts_in now.tables.addresses ≡ facts_in was.tables.addresses
  pub segments : facts_in now.tables.segments ≡ facts_in was.tables.segments
  pub elisions : (e : ElisionFact) → Contains (facts_in now.tables.elisions) e ↔ (Contains (facts_in was.tables.elisions) e ⊎ (e ≡ f))
  pub staged : now.staged ≡ was.staged
  pub next : now.next ≡ record was.next { sequence = was.next.sequence + 1 }

-- Memory stays sound, and reads as the array without the object.
abbrev pub RemovalReads : Type 0
RemovalReads = (contents : Contents) (was now : Memory) (x : ObjectFact) (f : ElisionFact) (array : Array)
    → ReadsAs contents was array → Contains (objects (facts was.tables) was.next.object) x → was.next.sequence + 1 < NUMBER_LIMIT
    → HasRemoved was now x f
    → ReadsAs contents now (without array x.name)
