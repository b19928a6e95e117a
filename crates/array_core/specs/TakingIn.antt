-- What a step in the background takes into memory: no entry of the log has it, and nothing on the devices.
use Rattle.std.specs.Prelude.{◌≡◌, ◌≤◌, ℕ, []}
use Rattle.session_spec.specs.Prelude.{geometry_of, Shelved, Contents, IsSound, ReadsAs, AreLayered, HasSameSegmentIds, facts, segment}
use Rattle.pur_base.specs.Plain as plain
use Rattle.array_memory.specs.Prelude.{Amounts, AtMost, HasSamePatches, TakesOnly, with_more}
use Rattle.array_core.specs.declared.array.Array.{Array}
use Rattle.array_core.specs.declared.array.TheConstants.{BACKGROUND_FACTS, BACKGROUND_STAGED}
use Rattle.array_core.specs.Ready.{IsArrayOf}
use Rattle.array_core.specs.Room.{taken_behind}
use Rattle.array_core.specs.Going.{by_faults}
use Rattle.array_core.specs.Goes.{Goes}

-- Memory alone has changed, and how much of it came in without a command, which is little. It is sound, has the patches that it had, shows the same segments, gave no ids to others, and reads as before.
pub record TakesIn (was now : Array) : Type 0 where
  pub rest : now ≡ record was { memory = now.memory; background = now.background }
  pub sound : IsSound now.memory.memory
  pub reads : (contents : Contents) (x : plain.Array) → ReadsAs contents was.memory.memory x → ReadsAs contents now.memory.memory x
  pub layered : AreLayered now.memory.memory.tables
  pub patches : HasSamePatches was.memory.memory.tables now.memory.memory.tables
  pub segments : (id : ℕ) → segment (facts now.memory.memory.tables) id ≡ segment (facts was.memory.memory.tables) id
  pub segment_ids : HasSameSegmentIds was.memory.memory.next now.memory.memory.next
  pub amounts : Amounts
  pub takes : TakesOnly was.memory now.memory amounts
  pub counted : AtMost (with_more (taken_behind was.background) amounts) (taken_behind now.background)
  pub rested : (now.background.facts ≤ BACKGROUND_FACTS) × (now.background.staged ≤ BACKGROUND_STAGED)

-- The array goes on as the same one, with no call on a device.
abbrev pub TakingInGoesOn : Shelved → Type 0
TakingInGoesOn shelf = (was now : Array) → IsArrayOf (geometry_of shelf) was → TakesIn was now → Goes by_faults shelf shelf was now []
