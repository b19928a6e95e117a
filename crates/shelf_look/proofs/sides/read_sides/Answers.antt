use Rattle.shelf_look.proofs.Prelude.{Option, ◌∷◌, [], refl, subst, sym, ran_more, ran_then, nvram, RecordSeen, AreSides}
use Rattle.segment_io.proofs.Gathers.{same_then}
use Rattle.shelf_look.proofs.Beside.{both_sides, nvrams_apart, on_nvram}
use Rattle.shelf_look.proofs.sides.read_sides.Goals as goal

pub returns-clause-ran : goal.returns-clause-ran
returns-clause-ran g c = ran_then g.met.S.Shelf.shelf_rest_stays (ran_more (on_nvram 0) (λ d i w. w) c.read_side-first.ensures.ran) (ran_more (on_nvram 1) (λ d i w. w) c.read_side-second.ensures.ran)

pub returns-clause-same : goal.returns-clause-same
returns-clause-same g c h d = same_then (c.read_side-first.ensures.same h d) (c.read_side-second.ensures.same (c.read_side-first.ensures.ran.on.continues.honest h) d)

pub returns-clause-sides : goal.returns-clause-sides
returns-clause-sides g c h =
    let a = g.S.Shelf.shelf c.args.shelf.now in
    let b = g.S.Shelf.shelf c.read_side-first.new.shelf in
    let n = g.S.Shelf.shelf c.read_side-second.new.shelf in
    subst (λ (o : Option RecordSeen). AreSides a n o (c.read_side-first.result ∷ c.read_side-second.result ∷ [])) (sym c.in-Some.is)
    (both_sides a b n c.in-Some.record _ _ c.read_side-first.result c.read_side-second.result refl refl
    (c.read_side-first.ensures.ran.on.others (nvram 1) (λ e. nvrams_apart (sym e))) (c.read_side-second.ensures.ran.on.others (nvram 0) nvrams_apart)
    (c.read_side-first.ensures.side h) (c.read_side-second.ensures.side (c.read_side-first.ensures.ran.on.continues.honest h)))
