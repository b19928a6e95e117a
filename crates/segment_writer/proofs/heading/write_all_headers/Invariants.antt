use Rattle.segment_writer.proofs.Prelude.{◌≤◌, ◌<◌, ℕ, length, vec_len, Ran, LosesOnly, bytes_of, units_of, IsOnSome, OnSome, AreOpenOf, HoldsHeader, StripesStay}
use Rattle.segment_writer.proofs.heading.write_all_headers.Given as goal

abbrev pub invariant-loop-next : goal.invariant-loop-next
invariant-loop-next g l =
    let a = g.S.Shelf.shelf l.fn.shelf in
    let b = g.S.Shelf.shelf l.shelf in
    let y = g.N.Headed.layout l.new in
    record {
      within : length l.opened.items ≤ y.count;
      opened : AreOpenOf y l.lost.drives l.opened.items;
      ran : Ran g.S.Shelf.shelf g.S.Shelf.shelf_rest (IsOnSome y.count (units_of y)) (OnSome y.count (units_of y) 0 1) l.fn.shelf l.shelf;
      lost : LosesOnly a b l.fn.lost.drives l.lost.drives;
      headers : a.honest → (number : ℕ) → length l.opened.items ≤ number → number < y.count → HoldsHeader (bytes_of b) (y.header number) l.lost.drives;
      kept : a.honest → StripesStay a b y l.fn.lost.drives l.lost.drives;
    }

abbrev pub decreases-loop-next : goal.decreases-loop-next
decreases-loop-next g l = vec_len l.opened
