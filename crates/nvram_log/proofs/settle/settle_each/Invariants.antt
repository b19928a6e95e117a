use Rattle.nvram_log.proofs.Prelude.{◌≡◌, ℕ, ◌<◌, List, length, Some, slice_get, Command, nvram, LeavesOnly, Ran, SeenSlots, IsMember, IsOnMember, OnMembers, IsLog, IsToSettle, AreToSettle, SettleBy}
use Rattle.nvram_log.proofs.OnEach.{AreEach}
use Rattle.nvram_log.proofs.SettledEach.{Passed}
use Rattle.nvram_log.proofs.settle.settle_each.Given as goal

abbrev pub invariant-loop-device : goal.invariant-loop-device
invariant-loop-device g l =
    let a = g.S.Shelf.shelf l.initial.shelf in
    let b = g.S.Shelf.shelf l.shelf in
    record {
      ran : Ran g.S.Shelf.shelf g.S.Shelf.shelf_rest (IsOnMember l.initial.members) (OnMembers l.initial.members) l.initial.shelf l.shelf;
      each : AreEach (λ d old new. (flushed : ℕ) (commands : List Command) (s : SeenSlots) → length commands ≡ l.count → slice_get l.seen d ≡ Some s → IsToSettle old.bytes flushed s l.records commands → IsLog new.bytes flushed commands)
          l.initial.members l.members a b l.device;
      later : (d : ℕ) → d < l.device → Passed a.honest (IsMember l.initial.members d) (a.disk (nvram d)) (b.disk (nvram d)) l.seen d l.records l.count;
      any_moment : a.honest → (flushed : ℕ) (commands : List Command) → length commands ≡ l.count → AreToSettle a l.initial.members flushed l.seen l.records commands → LeavesOnly a b (SettleBy a l.initial.members flushed commands);
    }
