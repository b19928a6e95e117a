use Rattle.segment_io.proofs.Prelude.{◌≡◌, ◌≤◌, ◌-◌, ◌%◌, length, is_unknown, IsReadFrom}
use Rattle.segment_io.proofs.Tries.{Tries}
use Rattle.segment_io.proofs.runs.read_directly.Given as goal

abbrev pub invariant-loop-done : goal.invariant-loop-done
invariant-loop-done g l =
    let a = g.S.Shelf.shelf l.initial.shelf in
    let b = g.S.Shelf.shelf l.shelf in
    record {
      within : l.done ≤ length l.into;
      aligned : l.done % 512 ≡ 0;
      flags : length l.unknown ≡ 9;
      tries : Tries a b l.places (is_unknown l.initial.unknown) l.unknown;
      holds : a.honest → IsReadFrom a b l.places (is_unknown l.initial.unknown) l.stripe l.offset l.done l.into;
      rest : g.S.Shelf.shelf_rest l.initial.shelf l.shelf;
    }

abbrev pub decreases-loop-done : goal.decreases-loop-done
decreases-loop-done g l = length l.initial.into - l.done
