use Rattle.shelf_init.proofs.Prelude.{◌≡◌, ℕ, ◌<◌, ◌≤◌, length, Written, Ran, drive, AreClean, NoneFailed, IsMember, IsOneOf, OnMembers}
use Rattle.shelf_init.proofs.calls.write_chosen.Given as goal

abbrev pub invariant-loop-drive : goal.invariant-loop-drive
invariant-loop-drive g l =
    let a = g.S.Shelf.shelf l.initial.shelf in
    let b = g.S.Shelf.shelf l.shelf in
    record {
      ran : Ran g.S.Shelf.shelf g.S.Shelf.shelf_rest (IsOneOf l.chosen) (OnMembers l.chosen l.at (length l.from)) l.initial.shelf l.shelf;
      written : a.honest → (i : ℕ) → i < l.drive → IsMember l.chosen i → Written l.at l.from (a.disk (drive i)).bytes (b.disk (drive i)).bytes;
      clean : a.honest → AreClean a → AreClean b;
      counts : NoneFailed a b;
      ahead : (i : ℕ) → l.drive ≤ i → b.disk (drive i) ≡ a.disk (drive i);
    }
