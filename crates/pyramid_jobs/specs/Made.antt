-- When two patches of a table may be merged, what a merge makes of an array, and why it isn't made.
use Rattle.std.specs.Prelude.{◌≡◌, ℕ, ◌+◌, ◌<◌, ◌≤◌, true, false, []}
use Rattle.pur_base.specs.declared.reply.Refusal.TheVariants as refusals
use Rattle.session_spec.specs.Prelude.{Refusal, IsMerged, Geometry, Table, Shelved, has_pair, pair_segments, patches, HasGroups, Point, told_of}
use Rattle.session_spec.specs.declared.limits.TheConstants.{MERGE_GROUPS}
use Rattle.table_plan.specs.declared.merged.Merged.{Merged}
use Rattle.table_plan.specs.Prelude.{memory_with, table_of, IsMergedOf}
use Rattle.array_memory.specs.Prelude.{with_patch_rooms}
use Rattle.array_core.specs.declared.array.Array.{Array}
use Rattle.array_core.specs.Prelude.{is_spent, by_faults, Halts}

-- numbers are left, the table has the patch of that index and one behind it, and there are free units for as many segments as the two have and twelve more
pub record MayMerge (t : Table) (i : ℕ) (a : Array) : Type 0 where
  pub unspent : is_spent a ≡ false
  pub there : has_pair t i a.register.record.patches ≡ true
  pub groups : ℕ
  pub left : HasGroups a.register.record (patches a.memory.memory.tables) groups
  pub enough : MERGE_GROUPS + pair_segments t i a.register.record.patches ≤ groups

-- which of that isn't so first
abbrev pub IsCheckFault : Table → ℕ → Array → Refusal → Type 0
IsCheckFault t i a refusals.Spent = is_spent a ≡ true
IsCheckFault t i a refusals.NothingThere = (is_spent a ≡ false) × (has_pair t i a.register.record.patches ≡ false)
IsCheckFault t i a refusals.Space = (is_spent a ≡ false) × (has_pair t i a.register.record.patches ≡ true) × ((groups : ℕ) × HasGroups a.register.record (patches a.memory.memory.tables) groups × (groups < MERGE_GROUPS + pair_segments t i a.register.record.patches))
IsCheckFault t i a _ = ⊥

-- the point with an array's record and its memory
abbrev pub at_array : Point → Array → Point
at_array p a = record p { boot = a.register.record; memory = told_of a.memory.memory }

-- The log is as it was. In memory one patch, or none where no fact is left, stands in the place of the two that it is made of, and ids were given to its segments.
-- A session's point at the array goes on to that behind a merge.
pub record HasMerged (shelf : Geometry) (t : Table) (i : ℕ) (was now : Array) : Type 0 where
  pub log : now.log ≡ was.log
  pub background : now.background ≡ was.background
  pub merged : Merged
  pub table : table_of merged ≡ t
  pub made : IsMergedOf was.memory.memory i merged
  pub new_segments : ℕ
  pub memory : now.memory ≡ with_patch_rooms (record was.memory { memory = memory_with was.memory.memory i merged new_segments }) now.memory
  pub points : (from : Point) → IsMerged shelf t i (at_array from was) (at_array from now)

-- why they weren't merged; but for a device fault, after which the array is to halt, all stays as it was
abbrev pub IsFaultOf : Table → ℕ → Shelved → Shelved → Array → Type 0 → Refusal → Type 0
IsFaultOf t i old new a stays refusals.Memory = MayMerge t i a × stays
IsFaultOf t i old new a stays refusals.Device = MayMerge t i a × Halts by_faults old new a []
IsFaultOf t i old new a stays e = IsCheckFault t i a e × stays
