use Rattle.segment_writer.proofs.Prelude.{◌≡◌, ◌<◌, ◌+◌, ◌∷◌, ◌++◌, [], ℕ, List, length, sym, subst, ap, ◌∙◌, arith, length_push, Header, Ran, ran_none, ran_then, MayBeWritten, ArePlaces, IsOnPlace, OnUnits, bytes_of, HoldsStripe, loses_none, loses_then, still_places, units_of, HoldsHeader, IsOpenOf}
use Rattle.segment_writer.proofs.Appends.{on_some}
use Rattle.segment_writer.proofs.Headers.{open_last, open_front, headers_more, stripes_stay}
use Rattle.segment_writer.proofs.heading.write_all_headers.Goals as goal

pub loop-next-init : goal.loop-next-init
loop-next-init g c = record {
  within = omega (arith, c.requires.opened.count);
  opened = c.requires.opened.each;
  ran = ran_none g.met.S.Shelf.shelf_rest_stays c.args.shelf.now (g.met.S.Shelf.is_shelf c.args.shelf.now);
  lost = loses_none (g.S.Shelf.shelf c.args.shelf.now) c.args.lost.now.drives;
  headers = λ h number from lt. absurd (omega (arith, from, lt, c.requires.opened.count));
  kept = λ h number stripe shards lt low holds. holds;
}

pub write_header-requires : goal.write_header-requires
write_header-requires g c =
    let b = g.S.Shelf.shelf c.loop-next.shelf in
    let l = g.N.Headed.layout c.args.new.now in
    let lost = c.loop-next.lost.drives in
    let opened = c.pop.new.self.items in
    let next = c.in-Some.next in
    let items : c.loop-next.opened.items ≡ opened ++ next ∷ [] = c.in-Some.ensures.items in
    let number_is : length opened ≡ c.len.result = omega arith in
    let sizes : length c.loop-next.opened.items ≡ c.len.result + 1 = ap length items ∙ length_push opened next ∙ ap (λ (n : ℕ). n + 1) number_is in
    let within : c.len.result < l.count = omega (arith, sizes, c.loop-next.invariant.within) in
    let at = sym c.header-header.ensures in
    record {
      places = subst (λ (h : Header). ArePlaces b h.places) at (still_places c.loop-next.invariant.ran.on.continues (c.requires.headed.places c.len.result within));
      written = subst MayBeWritten at (c.requires.headed.headers c.len.result within);
      opened = subst (λ (h : Header). IsOpenOf h lost next) at
          (subst (λ (n : ℕ). IsOpenOf (l.header n) lost next) number_is (open_last l lost c.loop-next.opened.items opened next items c.loop-next.invariant.opened));
    }

pub loop-next-preserved : goal.loop-next-preserved
loop-next-preserved g c =
    let a = g.S.Shelf.shelf c.args.shelf.now in
    let b = g.S.Shelf.shelf c.loop-next.shelf in
    let d = g.S.Shelf.shelf c.write_header.new.shelf in
    let l = g.N.Headed.layout c.args.new.now in
    let inv = c.loop-next.invariant in
    let was = c.loop-next.lost.drives in
    let now = c.write_header.new.lost.drives in
    let opened = c.pop.new.self.items in
    let next = c.in-Some.next in
    let number = c.len.result in
    let items : c.loop-next.opened.items ≡ opened ++ next ∷ [] = c.in-Some.ensures.items in
    let number_is : length opened ≡ number = omega arith in
    let sizes : length c.loop-next.opened.items ≡ number + 1 = ap length items ∙ length_push opened next ∙ ap (λ (n : ℕ). n + 1) number_is in
    let within : number < l.count = omega (arith, sizes, inv.within) in
    let at : c.header-header.result ≡ l.header number = c.header-header.ensures in
    let x = c.write_header.ensures in
    let before = inv.ran.on.continues in
    let ran = subst (λ (h : Header). Ran g.S.Shelf.shelf g.S.Shelf.shelf_rest (IsOnPlace h.places) (OnUnits h.places 0 1) c.loop-next.shelf c.write_header.new.shelf) at x.ran in
    let apart = c.requires.headed.apart in
    record {
      within = omega (arith, number_is, within);
      opened = open_front l was now c.loop-next.opened.items opened next items x.lost.stays inv.opened;
      ran = ran_then g.met.S.Shelf.shelf_rest_stays inv.ran (on_some l.count (units_of l) number 0 1 within ran);
      lost = loses_then a b d c.args.lost.now.drives was now (g.met.S.Shelf.is_shelf c.write_header.new.shelf) before x.ran.on.continues inv.lost x.lost;
      headers = λ h k from lt. headers_more b d l was now number apart within x.lost (ran.on.writes (before.honest h))
          (λ j above below. inv.headers h j (omega (arith, above, sizes)) below) (subst (λ (hd : Header). HoldsHeader (bytes_of d) hd now) at (x.header (before.honest h))) k (omega (arith, from, number_is)) lt;
      kept = λ h k stripe shards lt low holds. stripes_stay b d l was now number apart within x.lost (ran.on.writes (before.honest h))
          (subst (λ (hd : Header). (s : ℕ) (all : List (List ℕ)) → HoldsStripe (bytes_of b) hd.places was s all → HoldsStripe (bytes_of d) hd.places now s all) at (x.kept (before.honest h))) k stripe shards lt low (inv.kept h k stripe shards lt low holds);
    }
