use Rattle.shelf_look.proofs.Prelude.{◌≡◌, ℕ, ◌<◌, length, get_or, slice_range, false, Device, nvram, IsSame, Only, Ran, OnNothing, IsShownAt}
use Rattle.shelf_look.proofs.slots.slots_under.Given as goal

abbrev pub invariant-loop-slot : goal.invariant-loop-slot
invariant-loop-slot g l =
    let a = g.S.Shelf.shelf l.initial.shelf in
    let b = g.S.Shelf.shelf l.shelf in
    record {
      size : length l.shown ≡ 64;
      ran : Ran g.S.Shelf.shelf g.S.Shelf.shelf_rest (Only (nvram l.device.0)) OnNothing l.initial.shelf l.shelf;
      same : a.honest → (d : Device) → IsSame (a.disk d) (b.disk d);
      done : a.honest → l.gates ≡ slice_range (a.disk (nvram l.device.0)).bytes 0 64 → (k : ℕ) → k < l.slot → IsShownAt (a.disk (nvram l.device.0)).bytes l.flushed k (get_or l.shown k false);
    }
