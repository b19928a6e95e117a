use Rattle.nvram_log.proofs.Prelude.{◌≡◌, [], Ran, Device, IsOnMember, OnNothing}
use Rattle.nvram_log.proofs.OnEach.{AreEach}
use Rattle.nvram_log.proofs.syncing.sync_members.Given as goal

abbrev pub invariant-loop-device : goal.invariant-loop-device
invariant-loop-device g l =
    let a = g.S.Shelf.shelf l.initial.shelf in
    let b = g.S.Shelf.shelf l.shelf in
    record {
      ran : Ran g.S.Shelf.shelf g.S.Shelf.shelf_rest (IsOnMember l.initial.members) OnNothing l.initial.shelf l.shelf;
      bytes : a.honest → (d : Device) → (b.disk d).bytes ≡ (a.disk d).bytes;
      still_clean : a.honest → (d : Device) → (a.disk d).dirty ≡ [] → (b.disk d).dirty ≡ [];
      each : AreEach (λ d old new. Unit {0}) l.initial.members l.members a b l.device;
    }
