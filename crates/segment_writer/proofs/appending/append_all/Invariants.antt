use Rattle.segment_writer.proofs.Prelude.{◌≡◌, ◌≤◌, length, vec_capacity, Ran, LosesOnly, units_of, IsOnSome, OnSome, AreOpenOf}
use Rattle.segment_writer.proofs.Appends.{HoldUpto}
use Rattle.segment_writer.proofs.appending.append_all.Given as goal

abbrev pub invariant-loop-number : goal.invariant-loop-number
invariant-loop-number g l =
    let a = g.S.Shelf.shelf l.fn.shelf in
    let b = g.S.Shelf.shelf l.shelf in
    let y = g.N.Headed.layout l.new in
    record {
      count : length l.opened.items ≡ l.number;
      capacity : y.count ≤ vec_capacity l.opened;
      opened : AreOpenOf y l.lost.drives l.opened.items;
      ran : Ran g.S.Shelf.shelf g.S.Shelf.shelf_rest (IsOnSome y.count (units_of y)) (OnSome y.count (units_of y) 1 15) l.fn.shelf l.shelf;
      lost : LosesOnly a b l.fn.lost.drives l.lost.drives;
      stand : a.honest → HoldUpto b y l.lost.drives (g.N.Filled.stripe_count l.new) (g.N.Filled.holds l.new) l.number;
    }
