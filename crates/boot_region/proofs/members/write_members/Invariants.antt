use Rattle.boot_region.proofs.Prelude.{length, Ran, IsMember, IsOneOf, OnMembers, Outcome}
use Rattle.boot_region.proofs.OnEach.{AreEach}
use Rattle.boot_region.proofs.members.write_members.Given as goal

abbrev pub invariant-loop-slot : goal.invariant-loop-slot
invariant-loop-slot g l =
    let a = g.S.Shelf.shelf l.initial.shelf in
    let b = g.S.Shelf.shelf l.shelf in
    record {
      ran : Ran g.S.Shelf.shelf g.S.Shelf.shelf_rest (IsOneOf l.initial.members) (OnMembers l.initial.members l.at (length l.from)) l.initial.shelf l.shelf;
      each : AreEach (λ d is old new. Outcome a.honest (IsMember l.initial.members d) is l.at l.from old new) l.initial.members l.members a b l.slot;
    }
