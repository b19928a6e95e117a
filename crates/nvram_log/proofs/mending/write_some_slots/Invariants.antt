use Rattle.nvram_log.proofs.Prelude.{◌≡◌, ℕ, ◌<◌, Some, slice_get, nvram, Only, Ran, slot_at, IsFlagged, Logged, OnSlots, SpellsAs}
use Rattle.nvram_log.proofs.mending.write_some_slots.Given as goal

abbrev pub invariant-loop-i : goal.invariant-loop-i
invariant-loop-i g l =
    let a = g.S.Shelf.shelf l.initial.shelf in
    let b = g.S.Shelf.shelf l.shelf in
    let device = nvram l.device.0 in
    record {
      ran : Ran g.S.Shelf.shelf g.S.Shelf.shelf_rest (Only device) (OnSlots device l.flags) l.initial.shelf l.shelf;
      faults : (b.disk device).faults ≡ (a.disk device).faults;
      write_faults : (b.disk device).write_faults ≡ (a.disk device).write_faults;
      stood : a.honest → (k : ℕ) (x : Logged) → k < l.i → IsFlagged l.flags k → slice_get l.records k ≡ Some x → SpellsAs (slot_at k (b.disk device).bytes) x;
    }
