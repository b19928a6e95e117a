use Rattle.target_io.proofs.Prelude.{◌≤◌, ◌-◌, length, View, Contents, facts, ContentsStand, ShowsDrives, ReadsOnly, AreSectorsOf}
use Rattle.target_io.proofs.targets.read_targets.Given as goal

abbrev pub invariant-loop-done : goal.invariant-loop-done
invariant-loop-done g l =
    let a = g.S.Shelf.shelf l.fn.shelf in
    let b = g.S.Shelf.shelf l.shelf in
    record {
      within : l.done ≤ length l.targets;
      reads : ReadsOnly a b;
      rest : g.S.Shelf.shelf_rest l.fn.shelf l.shelf;
      sectors : a.honest → (contents : Contents) (view : View) → ShowsDrives a l.missing view → ContentsStand contents view (facts l.memory.memory.tables) → AreSectorsOf contents l.memory.memory.staged l.targets l.done l.out;
    }

abbrev pub decreases-loop-done : goal.decreases-loop-done
decreases-loop-done g l = length l.targets - l.done
