use Rattle.shelf_look.proofs.Prelude.{◌∙◌, refl, sym, subst, Bool, List, geometry_of, continues_trans, ran_more, ran_then, nvram, AreStates}
use Rattle.boot_region.proofs.LoadingLemmas.{answer_of, lawful_load}
use Rattle.shelf_look.proofs.Beside.{sides_since}
use Rattle.shelf_look.proofs.Lifting.{outcome, read_later, same_then}
use Rattle.shelf_look.proofs.looking.look.Goals as goal

pub record_seen-requires : goal.record_seen-requires
record_seen-requires g c shelf drives units =
    let r = c.read_regions.new.regions in
    answer_of shelf r.bytes.items r.answered.items c.units-units.result c.load-loaded.result c.load-loaded.ensures.ok c.load-loaded.ensures.err drives units

pub find-opening-requires : goal.find-opening-requires
find-opening-requires g c =
    let s = geometry_of (g.S.Shelf.shelf c.read_sides-logs.new.shelf) in
    let r = c.read_regions.new.regions in
    let on = continues_trans c.read_regions.ensures.ran.on.continues c.read_sides-logs.ensures.ran.on.continues in
    lawful_load s s r.bytes.items r.answered.items c.load-loaded.result refl
    (answer_of s r.bytes.items r.answered.items c.units-units.result c.load-loaded.result c.load-loaded.ensures.ok c.load-loaded.ensures.err
    (on.drives ∙ sym (c.read_regions.ensures.drives ∙ c.read_regions.ensures.ran.on.continues.drives)) (on.units ∙ sym c.units-units.ensures))

pub returns-in_err-record-clause-same : goal.returns-in_err-record-clause-same
returns-in_err-record-clause-same g c = c.read_regions.ensures.same

pub returns-in_err-record-clause-ran : goal.returns-in_err-record-clause-ran
returns-in_err-record-clause-ran g c = ran_more (λ d is. tt) (λ d i w. w) c.read_regions.ensures.ran

pub returns-in_err-found-clause-same : goal.returns-in_err-found-clause-same
returns-in_err-found-clause-same g c h d =
    let first = c.read_regions.ensures.ran.on.continues in
    same_then (c.read_regions.ensures.same h d)
    (same_then (c.read_sides-logs.ensures.same (first.honest h) d) (c.find-opening.ensures.same (c.read_sides-logs.ensures.ran.on.continues.honest (first.honest h)) d))

pub returns-clause-same : goal.returns-clause-same
returns-clause-same g c h d =
    let first = c.read_regions.ensures.ran.on.continues in
    same_then (c.read_regions.ensures.same h d)
    (same_then (c.read_sides-logs.ensures.same (first.honest h) d) (c.find-opening.ensures.same (c.read_sides-logs.ensures.ran.on.continues.honest (first.honest h)) d))

pub returns-in_err-found-clause-ran : goal.returns-in_err-found-clause-ran
returns-in_err-found-clause-ran g c =
    ran_then g.met.S.Shelf.shelf_rest_stays
    (ran_then g.met.S.Shelf.shelf_rest_stays (ran_more (λ d is. tt) (λ d i w. w) c.read_regions.ensures.ran) (ran_more (λ d is. tt) (λ d i w. w) c.read_sides-logs.ensures.ran))
    c.find-opening.ensures.ran

pub returns-clause-ran : goal.returns-clause-ran
returns-clause-ran g c =
    ran_then g.met.S.Shelf.shelf_rest_stays
    (ran_then g.met.S.Shelf.shelf_rest_stays (ran_more (λ d is. tt) (λ d i w. w) c.read_regions.ensures.ran) (ran_more (λ d is. tt) (λ d i w. w) c.read_sides-logs.ensures.ran))
    c.find-opening.ensures.ran

pub returns-clause-look : goal.returns-clause-look
returns-clause-look g c honest =
    let a = g.S.Shelf.shelf c.args.shelf.now in
    let b = g.S.Shelf.shelf c.read_regions.new.shelf in
    let s = g.S.Shelf.shelf c.read_sides-logs.new.shelf in
    let n = g.S.Shelf.shelf c.find-opening.new.shelf in
    let r = c.read_regions.new.regions in
    let first = c.read_regions.ensures.ran.on.continues in
    let then = c.read_sides-logs.ensures.ran.on.continues in
    let on = continues_trans first then in
    let all = c.read_regions.ensures.drives ∙ first.drives in
    let answer = answer_of (geometry_of s) r.bytes.items r.answered.items c.units-units.result c.load-loaded.result c.load-loaded.ensures.ok c.load-loaded.ensures.err (on.drives ∙ sym all) (on.units ∙ sym c.units-units.ensures) in
    record {
      slots = c.drives-slots.ensures;
      units = c.units-units.ensures;
      bytes = r.bytes.items;
      answered = r.answered.items;
      all = all;
      read = λ i lt. read_later a b n r.bytes.items r.answered.items i (continues_trans then c.find-opening.ensures.ran.on.continues) (g.met.S.Shelf.is_shelf c.find-opening.new.shelf) (c.read_regions.ensures.read honest i lt);
      record_seen = c.in_ok-record.ensures (geometry_of a) (sym all) (sym c.units-units.ensures);
      drives = subst (λ (l : List Bool). AreStates c.in_ok-record.record l c.states_of-drives.result) c.deref.ensures.value c.states_of-drives.ensures;
      logs = sides_since a b s n c.in_ok-record.record c.read_sides-logs.result (λ k. c.read_regions.ensures.ran.on.others (nvram k) (λ is. is)) c.find-opening.ensures.ran.on.continues (g.met.S.Shelf.is_shelf c.find-opening.new.shelf)
          (c.read_sides-logs.ensures.sides (first.honest honest));
      outcome = outcome a s n on (λ d. same_then (c.read_regions.ensures.same honest d) (c.read_sides-logs.ensures.same (first.honest honest) d)) r.bytes.items r.answered.items c.find-opening.result c.in_ok-found.found c.in_ok-found.ensures
          (c.find-opening.ensures.found (on.honest honest) r.bytes.items r.answered.items answer) (c.find-opening.ensures.cause (on.honest honest) r.bytes.items r.answered.items answer);
    }
