use Rattle.patch_io.proofs.Prelude.{◌≡◌, ◌*◌, min, length, map, Continues, WritesOnly, NoByte, OnlyLooks, OthersStayOfPatch}
use Rattle.patch_io.proofs.Parts.{Loads}
use Rattle.patch_io.proofs.loading.read_parts.Given as goal

abbrev pub invariant-loop-segment : goal.invariant-loop-segment
invariant-loop-segment g l =
    let a = g.S.Shelf.shelf l.fn.shelf in
    let b = g.S.Shelf.shelf l.shelf in
    record {
      size : length l.facts.items ≡ min l.patch.facts (6720 * l.segment-index);
      loads : Loads a b l.patch l.missing (map g.F.TableFact.any l.facts.items);
      continues : Continues a b;
      looks : OnlyLooks a b;
      writes : a.honest → WritesOnly NoByte a b;
      others : OthersStayOfPatch l.patch a b;
      rest : g.S.Shelf.shelf_rest l.fn.shelf l.shelf;
    }
