use Rattle.std.proofs.Common.{◌≡◌, get_or, subst, sym, take_all}
use Rattle.array_spec.specs.Prelude.{elision_key}
use Rattle.pyramid.specs.Prelude.{facts_of}
use Rattle.pyramid.proofs.SpanLemmas.{facts_more}
use Rattle.loaded_tables.specs.Elided.{AddsElided, IsRange}
use Rattle.loaded_tables.proofs.ElidedLemmas.{adds_join, elided_from_nothing}
use Rattle.loaded_tables.specs.Patches.{all_of_patch}
use Rattle.loaded_tables.proofs.elided.elided_by.Goals as goal

pub elide_facts-requires : goal.elide_facts-requires
elide_facts-requires c =
    let is : c.facts.result.now ≡ get_or c.args.patches.now c.loop-patch.patch-index c.facts.result.now = rw c.facts.ensures.value c.patch-item.is in
    all_of_patch IsRange c.args.patches.now c.loop-patch.patch-index c.facts.result.now c.loop-patch-test.true is c.requires

pub loop-patch-preserved : goal.loop-patch-preserved
loop-patch-preserved c =
    let is : c.facts.result.now ≡ get_or c.args.patches.now c.loop-patch.patch-index c.facts.result.now = rw c.facts.ensures.value c.patch-item.is in
    subst (λ fs. AddsElided fs c.new-elided.result c.elide_facts.new.elided) (sym (facts_more elision_key (λ f. f.seq.0) c.args.patches.now c.loop-patch.patch-index c.facts.result.now c.loop-patch-test.true is))
    (adds_join _ _ _ _ _ c.loop-patch.invariant c.in_ok-elide_facts.ensures)

pub returns : goal.returns
returns c =
    elided_from_nothing (facts_of c.args.patches.now) c.new-elided.result c.loop-patch.elided c.new-elided.ensures
    (subst (λ ps. AddsElided (facts_of ps) c.new-elided.result c.loop-patch.elided) (take_all c.loop-patch.patch-index c.args.patches.now c.loop-patch-test.false) c.loop-patch.invariant)
