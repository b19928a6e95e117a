use Rattle.boot_region.proofs.Prelude.{Ran, IsMember, IsOneOf, OnClosed, Opened}
use Rattle.boot_region.proofs.OnEach.{AreEach}
use Rattle.boot_region.proofs.settling.settle.Given as goal

abbrev pub invariant-loop-drive : goal.invariant-loop-drive
invariant-loop-drive g l =
    let a = g.S.Shelf.shelf l.initial.shelf in
    let b = g.S.Shelf.shelf l.shelf in
    record {
      ran : Ran g.S.Shelf.shelf g.S.Shelf.shelf_rest (IsOneOf l.initial.members) (OnClosed l.initial.members a l.at) l.initial.shelf l.shelf;
      each : AreEach (λ d is old new. Opened a.honest (IsMember l.initial.members d) is l.at old new) l.initial.members l.members a b l.drive;
    }
