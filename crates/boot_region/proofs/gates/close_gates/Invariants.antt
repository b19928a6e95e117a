use Rattle.boot_region.proofs.Prelude.{Ran, LeavesOnly, LeavesBut, IsMember, IsOneOf, OnNotShut, Closed}
use Rattle.boot_region.proofs.OnEach.{AreEach}
use Rattle.boot_region.proofs.gates.close_gates.Given as goal

abbrev pub invariant-loop-drive : goal.invariant-loop-drive
invariant-loop-drive g l =
    let a = g.S.Shelf.shelf l.initial.shelf in
    let b = g.S.Shelf.shelf l.shelf in
    record {
      ran : Ran g.S.Shelf.shelf g.S.Shelf.shelf_rest (IsOneOf l.initial.members) (OnNotShut l.initial.members a (λ d. (b.disk d).faults) l.at) l.initial.shelf l.shelf;
      moments : a.honest → LeavesOnly a b (λ stop. LeavesBut (OnNotShut l.initial.members a stop.faults l.at) a stop);
      each : AreEach (λ d is old new. Closed a.honest (IsMember l.initial.members d) is l.at old new) l.initial.members l.members a b l.drive;
    }
