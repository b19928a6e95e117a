use Rattle.boot_codec.proofs.Prelude.{arith, err_from_is_err_and}
use Rattle.boot_codec.proofs.PatchLemmas.{patch_fails, patch_read, fails_behind}
use Rattle.boot_codec.proofs.lists.patch.Goals as goal

pub returns-in_err-rest-clause-gives : goal.returns-in_err-rest-clause-gives
returns-in_err-rest-clause-gives c =
    let p = err_from_is_err_and c.from_residual-in_err-rest.result c.from_residual-in_err-rest.ensures.1 in
    let e = c.in_err-rest.field-0.0 in
    rw (p.1, p.2)
    (patch_fails e c.args.slots c.args.units c.args.least c.args.room c.args.bytes.now _ _ _ c.in_ok-tag.tag c.in_ok-facts.facts c.in_ok-count.count c.in_ok-tag.ensures c.in_ok-facts.ensures c.in_ok-count.ensures.gives
    (fails_behind e c.args.into.now.items _ c.in_err-rest.ensures.gives))

pub returns-clause-gives : goal.returns-clause-gives
returns-clause-gives c =
    patch_read c.args.slots c.args.units c.args.least c.args.room c.args.bytes.now _ _ _ c.in_ok-rest.rest.now c.in_ok-tag.tag c.in_ok-facts.facts c.in_ok-count.count c.len-start.result c.len-end.result c.args.into.now.items c.segments.new.into.items
    c.in_ok-tag.ensures c.in_ok-facts.ensures c.in_ok-count.ensures.gives c.in_ok-rest.ensures.gives (omega arith) (omega arith)
