use Rattle.segment_writer.proofs.Prelude.{◌≡◌, ◌+◌, ℕ, true, length, take, sym, subst, ◌∙◌, ap, arith, length-take-le, Lost, Header, is_in, LosesOnly, ArePlaces, bytes_of, units_of, HoldsSegment}
use Rattle.segment_writer.proofs.Apart.{loses_as, same_lost}
use Rattle.segment_writer.proofs.Appends.{fresh_ran, run_holds}
use Rattle.segment_writer.proofs.appending.append_segment.Goals as goal

pub append_stripes-requires : goal.append_stripes-requires
append_stripes-requires g c =
    let l = g.N.Headed.layout c.args.new.now in
    let same : c.lose.new.self.places ≡ units_of l c.args.number = c.lose.ensures.same.2 ∙ c.new-opened.ensures.places ∙ ap (λ (h : Header). h.places) c.header-header.ensures in
    let cut : length (take c.fill-count.result c.fill-count.new.stripes) ≡ c.fill-count.result = length-take-le c.fill-count.result c.fill-count.new.stripes (omega (arith, c.fill-count.ensures.few, c.fill-count.auto.stripes)) in
    record {
      places = subst (ArePlaces (g.S.Shelf.shelf c.args.shelf.now)) (sym same) (c.requires.headed.places c.args.number c.requires.number);
      fits = omega (arith, cut, c.fill-count.ensures.few, c.lose.ensures.same.3, c.new-opened.ensures.stripes);
      room = omega (arith, cut, c.fill-count.ensures.few, c.requires.room);
    }

pub returns-clause-ran : goal.returns-clause-ran
returns-clause-ran g c =
    let l = g.N.Headed.layout c.args.new.now in
    let same : c.lose.new.self.places ≡ units_of l c.args.number = c.lose.ensures.same.2 ∙ c.new-opened.ensures.places ∙ ap (λ (h : Header). h.places) c.header-header.ensures in
    let cut : length (take c.fill-count.result c.fill-count.new.stripes) ≡ c.fill-count.result = length-take-le c.fill-count.result c.fill-count.new.stripes (omega (arith, c.fill-count.ensures.few, c.fill-count.auto.stripes)) in
    fresh_ran c.lose.new.self.places (units_of l c.args.number) (c.lose.new.self.stripes + 1) (length (take c.fill-count.result c.fill-count.new.stripes)) same
    (omega (arith, c.lose.ensures.same.3, c.new-opened.ensures.stripes)) (omega (arith, cut, c.fill-count.ensures.few)) c.append_stripes.ensures.ran

pub returns-clause-lost : goal.returns-clause-lost
returns-clause-lost g c =
    let a = g.S.Shelf.shelf c.args.shelf.now in
    let b = g.S.Shelf.shelf c.append_stripes.new.shelf in
    let was = c.lose.new.self.lost.drives in
    loses_as a b was c.args.lost.now.drives c.append_stripes.result.drives (same_lost c.new-opened.result.lost.drives was c.args.lost.now.drives c.new-opened.ensures.lost c.lose.ensures.lost)
    (subst (λ (l : Lost). LosesOnly a b was l.drives) (sym c.append_stripes.ensures.result) c.append_stripes.ensures.lost)

pub returns-clause-opened : goal.returns-clause-opened
returns-clause-opened g c =
    let x = c.append_stripes.ensures in
    let y = c.lose.ensures in
    let z = c.new-opened.ensures in
    let at = c.header-header.ensures in
    let cut : length (take c.fill-count.result c.fill-count.new.stripes) ≡ c.fill-count.result = length-take-le c.fill-count.result c.fill-count.new.stripes (omega (arith, c.fill-count.ensures.few, c.fill-count.auto.stripes)) in
    record {
      id = x.same.0 ∙ y.same.0 ∙ z.id ∙ ap (λ (h : Header). h.segment) at;
      kind = x.same.1 ∙ y.same.1 ∙ z.kind ∙ ap (λ (h : Header). h.kind) at;
      places = x.same.2 ∙ y.same.2 ∙ z.places ∙ ap (λ (h : Header). h.places) at;
      some = omega (arith, x.stripes, cut, c.fill-count.ensures.count, (c.requires.have_stripes c.args.number c.requires.number).0);
      known = λ slot gone. subst (λ (l : Lost). is_in l.drives slot ≡ true) (sym x.result) gone;
    }

pub returns-clause-stand : goal.returns-clause-stand
returns-clause-stand g c h =
    let image = bytes_of (g.S.Shelf.shelf c.append_stripes.new.shelf) in
    let n = c.args.new.now in
    let l = g.N.Headed.layout n in
    let number = c.args.number in
    let x = c.append_stripes.ensures in
    let same : c.append_stripes.new.self.places ≡ units_of l number = x.same.2 ∙ c.lose.ensures.same.2 ∙ c.new-opened.ensures.places ∙ ap (λ (h : Header). h.places) c.header-header.ensures in
    let first = c.lose.ensures.same.3 ∙ c.new-opened.ensures.stripes in
    subst (λ (k : ℕ). HoldsSegment image (units_of l number) c.append_stripes.result.drives k (g.N.Filled.holds n number)) c.fill-count.ensures.count
    (subst (λ (lost : Lost). HoldsSegment image (units_of l number) lost.drives c.fill-count.result (g.N.Filled.holds n number)) (sym x.result)
    (run_holds image c.append_stripes.new.self.places (units_of l number) c.append_stripes.new.self.lost.drives c.lose.new.self.stripes c.fill-count.result c.fill-count.new.stripes (g.N.Filled.holds n number) same first
    (omega (arith, c.fill-count.ensures.few, c.fill-count.auto.stripes)) c.fill-count.ensures.filled (x.stand h)))
