use Rattle.nvram_log.proofs.Prelude.{length, Written, Ran, IsOnMember, OnRange}
use Rattle.nvram_log.proofs.OnEach.{AreEach}
use Rattle.nvram_log.proofs.members.write_members.Given as goal

abbrev pub invariant-loop-device : goal.invariant-loop-device
invariant-loop-device g l =
    let a = g.S.Shelf.shelf l.initial.shelf in
    let b = g.S.Shelf.shelf l.shelf in
    record {
      ran : Ran g.S.Shelf.shelf g.S.Shelf.shelf_rest (IsOnMember l.initial.members) (OnRange l.initial.members l.at (length l.from)) l.initial.shelf l.shelf;
      each : AreEach (λ d old new. Written l.at l.from old.bytes new.bytes) l.initial.members l.members a b l.device;
    }
