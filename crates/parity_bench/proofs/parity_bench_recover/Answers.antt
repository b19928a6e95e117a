use Rattle.std.proofs.Common.{◌≡◌, [], ◌∷◌, ◌++◌, ap, sym, ◌∙◌, subst}
use Rattle.parity72.specs.Recovery.{AgreesOutside}
use Rattle.parity_bench.proofs.parity_bench_recover.Goals as goal

pub returns : goal.returns
returns c whole code outside =
    let listed : c.push-2.new.self.items ≡ c.args.i ∷ c.args.j ∷ [] =
    c.push-2.ensures.items ∙ ap (λ l. l ++ c.args.j ∷ []) (c.push.ensures.items ∙ ap (λ l. l ++ c.args.i ∷ []) c.new-lost.ensures) in
    c.recover.ensures.restored whole code (subst (λ l. AgreesOutside l c.args.shards.now whole) (sym listed) outside)
