-- Why a logged request wasn't done, a checkpoint not made or patches not merged: either way all stays as it was, or the array is to halt.
use Rattle.array_engine.proofs.Prelude.{◌≡◌, ℕ, List, [], ◌∷◌, Result, Ok, Err, IfErr, sym, subst, Refusal, Table, Command, Shelved, Array, by_faults, Halts, IsFull, MayDo, MayFlush, IsAppendFault, IsFlushFault}
use Rattle.pur_base.specs.declared.reply.Refusal.TheVariants.{Memory, Device}
use Rattle.array_core.proofs.GoingOn.{halts_for_more}
use Rattle.array_checkpoint.specs.Made as made
use Rattle.pyramid_jobs.specs.Made as merged
use Rattle.medium_flattener.specs.Made as flat

-- what an error leaves
abbrev pub Leaves : Shelved → Shelved → Array → Type 0 → List Command → Refusal → Type 0
Leaves old new a stays commands Device = Halts by_faults old new a commands
Leaves old new a stays commands _ = stays

module _ (old new : Shelved) (a : Array) (stays : Type 0) where
  pub append_leaves : (c : Command) (why : Refusal) → IsAppendFault old new a stays c why → Leaves old new a stays (c ∷ []) why
  append_leaves c Memory w = w.2
  append_leaves c _ w = w.1

  pub flush_leaves : (why : Refusal) → IsFlushFault old new a stays why → Leaves old new a stays [] why
  flush_leaves Memory w = w.1
  flush_leaves _ w = w.1

  pub merge_leaves : (t : Table) (i : ℕ) (why : Refusal) → merged.IsFaultOf t i old new a stays why → Leaves old new a stays [] why
  merge_leaves t i Memory w = w.1
  merge_leaves t i _ w = w.1

  pub flatten_leaves : (n : List ℕ) (why : Refusal) → flat.IsFaultOf n old new a stays why → Leaves old new a stays [] why
  flatten_leaves n Memory w = w.2
  flatten_leaves n Device w = w.2
  flatten_leaves n _ w = w.1

  -- ---- a logged request

  -- in the performing
  pub lost_in_performing : {T Lost : Type 0} (c : Command) → MayDo c.request a → (r : Result T Refusal) → (Lost → Halts by_faults old new a (c ∷ [])) → IfErr r (λ e. (e ≡ Device) × Lost) → IfErr r (λ e. IsAppendFault old new a stays c e)
  lost_in_performing c room (Ok x) halts lost = tt
  lost_in_performing c room (Err e) halts lost = subst (λ (why : Refusal). IsAppendFault old new a stays c why) (sym lost.0) (room, halts lost.1)

  -- in a checkpoint
  pub fault_in_checkpoint : {Same : Type 0} → (Same → stays) → (c : Command) → MayDo c.request a → (why : Refusal) → IsFull a → made.IsFaultOf old new a Same why → IsAppendFault old new a stays c why
  fault_in_checkpoint same c room Memory full is = (room, full, same is)
  fault_in_checkpoint same c room Device full halts = (room, halts_for_more by_faults old new a [] (c ∷ []) halts)
  fault_in_checkpoint same c room _ full is = absurd is

  -- ---- a checkpoint that was asked for

  pub fault_in_flush : {Same : Type 0} → (Same → stays) → MayFlush a → (why : Refusal) → made.IsFaultOf old new a Same why → IsFlushFault old new a stays why
  fault_in_flush same room Memory is = (room, same is)
  fault_in_flush same room Device halts = (room, halts)
  fault_in_flush same room _ is = absurd is
