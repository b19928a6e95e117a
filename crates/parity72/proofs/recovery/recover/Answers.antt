use Rattle.parity72.proofs.Prelude.{◌≡◌, [], ◌∷◌, get_or, sym, ◌∙◌, subst, Restores}
use Rattle.parity72.proofs.Restoring.{restored-whole, restores-nothing, none-listed, one-listed, two-listed}
use Rattle.parity72.proofs.recovery.recover.Goals as goal

pub returns-in-empty-clause-restored : goal.returns-in-empty-clause-restored
returns-in-empty-clause-restored c =
    let old = c.args.shards.now in
    let is : c.args.lost.now.items ≡ [] = sym c.as_slice.ensures.value ∙ none-listed c.as_slice.result.now c.in-empty.len_below in
    restored-whole c.args.lost.now.items old old c.told-shards (subst (λ lost. Restores lost old old) (sym is) (restores-nothing old))

pub returns-in-len1-clause-restored : goal.returns-in-len1-clause-restored
returns-in-len1-clause-restored c =
    let old = c.args.shards.now in
    let new = c.recover_one.new.shards in
    let listed = c.as_slice.result.now in
    let is : c.args.lost.now.items ≡ get_or listed 0 0 ∷ [] = sym c.as_slice.ensures.value ∙ one-listed listed c.in-len1.len_at_least c.in-len1.len_below in
    restored-whole c.args.lost.now.items old new c.told-shards (subst (λ lost. Restores lost old new) (sym is) c.recover_one.ensures)

pub returns-in-len2-up-clause-restored : goal.returns-in-len2-up-clause-restored
returns-in-len2-up-clause-restored c =
    let old = c.args.shards.now in
    let new = c.recover_two.new.shards in
    let listed = c.as_slice.result.now in
    let is : c.args.lost.now.items ≡ get_or listed 0 0 ∷ get_or listed 1 0 ∷ [] =
    sym c.as_slice.ensures.value ∙ two-listed listed c.in-len2-up.len_at_least c.as_slice.ensures.fits in
    restored-whole c.args.lost.now.items old new c.told-shards (subst (λ lost. Restores lost old new) (sym is) c.recover_two.ensures)

pub returns-in-len1-clause-kept : goal.returns-in-len1-clause-kept
returns-in-len1-clause-kept c =
    let old = c.args.shards.now in
    let new = c.recover_one.new.shards in
    let listed = c.as_slice.result.now in
    let is : c.args.lost.now.items ≡ get_or listed 0 0 ∷ [] = sym c.as_slice.ensures.value ∙ one-listed listed c.in-len1.len_at_least c.in-len1.len_below in
    (subst (λ lost. Restores lost old new) (sym is) c.recover_one.ensures).kept

pub returns-in-len2-up-clause-kept : goal.returns-in-len2-up-clause-kept
returns-in-len2-up-clause-kept c =
    let old = c.args.shards.now in
    let new = c.recover_two.new.shards in
    let listed = c.as_slice.result.now in
    let is : c.args.lost.now.items ≡ get_or listed 0 0 ∷ get_or listed 1 0 ∷ [] =
    sym c.as_slice.ensures.value ∙ two-listed listed c.in-len2-up.len_at_least c.as_slice.ensures.fits in
    (subst (λ lost. Restores lost old new) (sym is) c.recover_two.ensures).kept
