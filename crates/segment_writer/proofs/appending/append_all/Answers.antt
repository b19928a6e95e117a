use Rattle.segment_writer.proofs.Prelude.{◌≡◌, ◌<◌, ◌+◌, ◌++◌, ◌∷◌, [], ℕ, length, subst, sym, ap, ◌∙◌, arith, length_push, slice_get_within, ran_none, ran_then, loses_none, loses_then, units_of, AreOpenOf}
use Rattle.std.proofs.lemmas.Grind.{common_steps}
use Rattle.segment_writer.proofs.Appends.{on_some, hold_more, open_more}
use Rattle.segment_writer.proofs.appending.append_all.Goals as goal

pub loop-number-init : goal.loop-number-init
loop-number-init g c = record {
  count = ap length c.requires.none;
  capacity = c.requires.capacity;
  opened = λ number segment at. absurd (omega (arith, slice_get_within c.args.opened.now.items number segment at, ap length c.requires.none));
  ran = ran_none g.met.S.Shelf.shelf_rest_stays c.args.shelf.now (g.met.S.Shelf.is_shelf c.args.shelf.now);
  lost = loses_none (g.S.Shelf.shelf c.args.shelf.now) c.args.lost.now.drives;
  stand = λ h number lt. absurd (omega (arith, lt));
}

pub loop-number-preserved : goal.loop-number-preserved
loop-number-preserved g c =
    let a = g.S.Shelf.shelf c.args.shelf.now in
    let b = g.S.Shelf.shelf c.loop-number.shelf in
    let d = g.S.Shelf.shelf c.append_segment-next.new.shelf in
    let n = c.args.new.now in
    let l = g.N.Headed.layout n in
    let inv = c.loop-number.invariant in
    let x = c.append_segment-next.ensures in
    let number = c.loop-number.number in
    let was = c.loop-number.lost.drives in
    let now = c.append_segment-next.new.lost.drives in
    let opened = c.loop-number.opened.items in
    let next = c.append_segment-next.result in
    let within : number < l.count = omega arith in
    let pushed : c.push.new.self.items ≡ opened ++ next ∷ [] = grind (arith, common_steps) in
    let before = inv.ran.on.continues in
    record {
      count = ap length pushed ∙ length_push opened next ∙ ap (λ (k : ℕ). k + 1) inv.count;
      capacity = omega (arith, c.push.ensures.capacity, inv.capacity);
      opened = subst (AreOpenOf l now) (sym pushed) (open_more l was now opened next number inv.count x.lost.stays x.opened inv.opened);
      ran = ran_then g.met.S.Shelf.shelf_rest_stays inv.ran (on_some l.count (units_of l) number 1 15 within x.ran);
      lost = loses_then a b d c.args.lost.now.drives was now (g.met.S.Shelf.is_shelf c.append_segment-next.new.shelf) before x.ran.on.continues inv.lost x.lost;
      stand = λ h. hold_more b d l was now (g.N.Filled.stripe_count n) (g.N.Filled.holds n) number c.requires.headed.apart c.requires.have_stripes within x.lost (x.ran.on.writes (before.honest h)) (inv.stand h) (x.stand (before.honest h));
    }
