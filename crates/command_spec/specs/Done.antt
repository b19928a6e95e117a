-- What a logged request that is allowed and prepared makes of memory.
use Rattle.std.specs.Prelude.{◌≡◌, ◌≢◌, ℕ, List, ◌++◌}
use Rattle.memory_spec.specs.Prelude.{Accepts, after, Array, Request, Table, Contents, IsSound, ReadsAs, HasSameSegmentIds, next_after}
use Rattle.pur_base.specs.declared.request.Table.TheVariants as table
use Rattle.elision.specs.Ranges.{ranges_of}
use Rattle.command_spec.specs.Asked.{command_of, staged_by, HasRoomLeft}
use Rattle.command_spec.specs.Kept.{Kept, HasSamePatches}

-- Memory reads as the array behind the command, and stays sound. No patch and no segment is touched, what is staged stands behind what was staged,
-- numbers are given as the array says, only ids of objects are elided, and no more room is used than the request takes.
pub record HasDone (was now : Kept) (r : Request) (sectors : List (List ℕ)) : Type 0 where
  pub reads : (contents : Contents) (array : Array) → ReadsAs contents was.memory array → Accepts array (command_of r sectors)
      → ReadsAs contents now.memory (after array (command_of r sectors))
  pub sound : IsSound was.memory → IsSound now.memory
  pub patches : HasSamePatches was.memory.tables now.memory.tables
  pub staged : now.memory.staged ≡ was.memory.staged ++ staged_by r sectors
  pub next : (contents : Contents) (array : Array) → ReadsAs contents was.memory array → now.memory.next ≡ next_after array was.memory.next r
  pub segment_ids : HasSameSegmentIds was.memory.next now.memory.next
  pub segments : now.segments ≡ was.segments
  pub elided : (t : Table) → t ≢ table.Object → ranges_of now.elided t ≡ ranges_of was.elided t
  pub room : HasRoomLeft was now r
