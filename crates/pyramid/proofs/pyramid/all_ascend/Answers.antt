use Rattle.pyramid.proofs.Prelude.{◌≡◌, ◌+◌, ◌++◌, ◌∷◌, [], ap, sym, ◌∙◌, take, get_or, take_more, All-append, Ascends}
use Rattle.pyramid.proofs.LoadLemmas.{all_one}
use Rattle.pyramid.proofs.pyramid.all_ascend.Goals as goal

pub loop-patch-preserved : goal.loop-patch-preserved
loop-patch-preserved g c =
    let patch = c.facts-facts.result.now in
    let is : patch ≡ get_or c.args.patches.now c.loop-patch.patch-index patch = rw c.facts-facts.ensures.value c.patch-item.is in
    let front = take c.loop-patch.patch-index c.args.patches.now in
    let next : take (c.loop-patch.patch-index + 1) c.args.patches.now ≡ front ++ patch ∷ [] =
    take_more c.args.patches.now c.loop-patch.patch-index patch c.loop-patch-test.true ∙ ap (λ x. front ++ x ∷ []) (sym is) in
    rw next (All-append (Ascends g.F.Fact.key) front (patch ∷ []) c.loop-patch.invariant (all_one (Ascends g.F.Fact.key) patch c.facts-facts.ensures.patch.ascends))
