use Rattle.shelf_init.proofs.Prelude.{◌≡◌, ℕ, ◌<◌, false, Ran, nvram, is_open, LOG_SLOTS, AreClean, NoneFailed, IsNvram, OnLogGates}
use Rattle.shelf_init.proofs.clearing.clear_nvram.Given as goal

abbrev pub invariant-loop-device : goal.invariant-loop-device
invariant-loop-device g l =
    let a = g.S.Shelf.shelf l.initial.shelf in
    let b = g.S.Shelf.shelf l.shelf in
    record {
      ran : Ran g.S.Shelf.shelf g.S.Shelf.shelf_rest IsNvram OnLogGates l.initial.shelf l.shelf;
      cleared : a.honest → (n i : ℕ) → n < l.device → i < LOG_SLOTS → is_open i (b.disk (nvram n)).bytes ≡ false;
      clean : a.honest → AreClean a → AreClean b;
      counts : NoneFailed a b;
    }
