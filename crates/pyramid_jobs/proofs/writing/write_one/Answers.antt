use Rattle.pyramid_jobs.proofs.Prelude.{length, map, refl, sym, subst, ◌∙◌, arith, Patch, patch_facts, ran_more, FactsStand}
use Rattle.std.proofs.lemmas.Option.{same_Some, slice_get_read}
use Rattle.std.proofs.lemmas.Result.{on_ok_weaker}
use Rattle.pyramid_jobs.proofs.writing.write_one.Goals as goal

pub write_patch-requires-clause-stored : goal.write_patch-requires-clause-stored
write_patch-requires-clause-stored g c =
    let r = c.at-patch.result in
    rw c.facts_of-facts.ensures.facts (c.requires.each r (slice_get_read c.args.added.now (length c.args.added.now) 0 r refl (omega arith) c.at-patch.ensures)).0

pub write_patch-requires-clause-headed : goal.write_patch-requires-clause-headed
write_patch-requires-clause-headed g c = (c.requires.each c.at-patch.result (slice_get_read c.args.added.now (length c.args.added.now) 0 c.at-patch.result refl (omega arith) c.at-patch.ensures)).1

pub returns-clause-stand : goal.returns-clause-stand
returns-clause-stand g c h =
    let r = c.at-patch.result in
    let at = slice_get_read c.args.added.now (length c.args.added.now) 0 r refl (omega arith) c.at-patch.ensures in
    on_ok_weaker c.write_patch.result (λ stand. record { each = λ p is. subst (λ (o : Patch). FactsStand (g.S.Shelf.shelf c.write_patch.new.shelf) o c.write_patch.new.lost.drives (map g.F.TableFact.any (patch_facts c.args.one.now))) (same_Some r p (sym at ∙ is)) (rw c.facts_of-facts.ensures.facts at stand) })
    (c.write_patch.ensures.stand h)

pub returns-clause-ran : goal.returns-clause-ran
returns-clause-ran g c =
    let r = c.at-patch.result in
    let at = slice_get_read c.args.added.now (length c.args.added.now) 0 r refl (omega arith) c.at-patch.ensures in
    ran_more (λ d on. (0, r, at, on)) (λ d i on. (0, r, at, on)) c.write_patch.ensures.ran
