use Rattle.shelf_init.proofs.Prelude.{◌≡◌, length, ◌∙◌, sym, geometry_of}
use Rattle.shelf_init.proofs.InitLemmas.{gates_are_read, gives, gives_none, all_of}
use Rattle.shelf_init.proofs.making.look.Goals as goal

pub returns-then-gives_body-clause-not_blank : goal.returns-then-gives_body-clause-not_blank
returns-then-gives_body-clause-not_blank g c h =
    let a = g.S.Shelf.shelf c.args.shelf.now in
    let n = g.S.Shelf.shelf c.read_regions.new.shelf in
    let r = c.read_regions.new.regions in
    let many : length r.answered.items ≡ a.drives = c.read_regions.ensures.drives ∙ c.read_regions.ensures.ran.on.continues.drives in
    let all = all_of c.deref.result.now r.answered.items a.drives c.deref.ensures.value many (c.has_answers.ensures.all c.if-not-has_answers.false) in
    (gives a n r.bytes.items r.answered.items all (c.read_regions.ensures.read h) (c.gives_body.ensures.some c.if-gives_body.true (geometry_of a) (sym many)), c.read_regions.ensures.same h)

pub returns-clause-not_blank : goal.returns-clause-not_blank
returns-clause-not_blank g c h =
    let a = g.S.Shelf.shelf c.args.shelf.now in
    let n = g.S.Shelf.shelf c.read_regions.new.shelf in
    let r = c.read_regions.new.regions in
    let many : length r.answered.items ≡ a.drives = c.read_regions.ensures.drives ∙ c.read_regions.ensures.ran.on.continues.drives in
    let all = all_of c.deref.result.now r.answered.items a.drives c.deref.ensures.value many (c.has_answers.ensures.all c.if-not-has_answers.false) in
    gives_none a n r.bytes.items r.answered.items all (c.read_regions.ensures.read h) (c.gives_body.ensures.none c.if-gives_body.false (geometry_of a) (sym many))

pub returns-clause-gates : goal.returns-clause-gates
returns-clause-gates g c h =
    let a = g.S.Shelf.shelf c.args.shelf.now in
    let n = g.S.Shelf.shelf c.read_regions.new.shelf in
    let r = c.read_regions.new.regions in
    let many : length r.answered.items ≡ a.drives = c.read_regions.ensures.drives ∙ c.read_regions.ensures.ran.on.continues.drives in
    let all = all_of c.deref.result.now r.answered.items a.drives c.deref.ensures.value many (c.has_answers.ensures.all c.if-not-has_answers.false) in
    gates_are_read a n r.bytes.items r.answered.items all (c.read_regions.ensures.read h) c.read_regions.ensures.ran.on.continues.drives (c.read_regions.ensures.same h)
