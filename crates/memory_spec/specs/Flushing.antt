-- What a flush and a merge make of memory: fewer facts, which say the same.
use Rattle.std.specs.Prelude.{◌≡◌, ℕ, List, [], ◌++◌, Option, Contains}
use Rattle.array_spec.specs.Prelude.{Facts, object_key, medium_key, address_key, segment_key, elision_key, Array, segment, is_elided, Table}
use Rattle.pyramid.specs.Prelude.{Layers, IsFlushed, patch_facts, patches_of}
use Rattle.memory_spec.specs.Tables.{facts}
use Rattle.memory_spec.specs.Memory.{Memory, Contents, IsSound, ReadsAs}
use Rattle.memory_spec.specs.Adding.{SayTheSame}

-- facts of which some are left out
abbrev pub AreOf : {F : Type 0} → List F → List F → Type 0
AreOf {F} old new = (f : F) → Contains new f → Contains old f

-- no fact was added, and those that are left say the same
pub record HaveShrunk (old new : Facts) : Type 0 where
  pub objects : AreOf old.objects new.objects
  pub mediums : AreOf old.mediums new.mediums
  pub addresses : AreOf old.addresses new.addresses
  pub segments : AreOf old.segments new.segments
  pub elisions : AreOf old.elisions new.elisions
  pub same : SayTheSame old new
  pub same_segments : (id : ℕ) → segment new id ≡ segment old id
  pub same_elided : (t : Table) (id : ℕ) → is_elided new.elisions t id ≡ is_elided old.elisions t id

-- so it is with the facts of memory, and nothing else has changed
pub record IsShrunk (was now : Memory) : Type 0 where
  pub facts : HaveShrunk (facts was.tables) (facts now.tables)
  pub staged : now.staged ≡ was.staged
  pub next : now.next ≡ was.next

-- Memory stays sound, and reads the same.
abbrev pub ShrinkingReads : Type 0
ShrinkingReads = (contents : Contents) (was now : Memory) (array : Array) → ReadsAs contents was array → IsShrunk was now → ReadsAs contents now array

-- the table's unflushed facts stand in a patch, of each key the newest
pub record IsTableFlushed {F : Type 0} (key number : F → ℕ) (was now : Layers F) : Type 0 where
  pub patch : Option (List F)
  pub made : IsFlushed key number was.unflushed (patch_facts patch)
  pub patches : now.patches ≡ was.patches ++ patches_of patch
  pub unflushed : now.unflushed ≡ []

-- each table was flushed
pub record IsFlush (was now : Memory) : Type 0 where
  pub objects : IsTableFlushed object_key (λ f. f.seq.0) was.tables.objects now.tables.objects
  pub mediums : IsTableFlushed medium_key (λ f. f.seq.0) was.tables.mediums now.tables.mediums
  pub addresses : IsTableFlushed address_key (λ f. f.seq.0) was.tables.addresses now.tables.addresses
  pub segments : IsTableFlushed segment_key (λ f. f.seq.0) was.tables.segments now.tables.segments
  pub elisions : IsTableFlushed elision_key (λ f. f.seq.0) was.tables.elisions now.tables.elisions
  pub staged : now.staged ≡ was.staged
  pub next : now.next ≡ was.next

-- A flush of sound memory only leaves out facts.
abbrev pub FlushShrinks : Type 0
FlushShrinks = (was now : Memory) → IsSound was → IsFlush was now → IsShrunk was now
