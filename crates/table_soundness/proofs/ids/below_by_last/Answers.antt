use Rattle.table_soundness.proofs.Prelude.{◌-◌, ◌<◌, length, lt-ltb, ltb-true, arith, subst, sym, id_of}
use Rattle.table_soundness.proofs.LastLemmas.{ids_rise}
use Rattle.table_soundness.proofs.ids.below_by_last.Goals as goal

pub returns : goal.returns
returns g c =
    let facts = c.args.facts.now in
    let last = c.index-facts-facts.result in
    let some = c.requires.some in
    let id = c.id.ensures in (
      λ yes k d l.
          let low = ids_rise g.F.Fact.key facts k (length facts - 1) d last c.requires.ascends (omega (arith, l)) (omega (arith, some)) c.index-facts-facts.is in
          let less = ltb-true _ _ yes in
          omega (arith, low, less, id),
      λ h.
          let less = subst (λ f. id_of (g.F.Fact.key f) < c.args.next) (sym c.index-facts-facts.is) (h (length facts - 1) last (omega (arith, some))) in
          lt-ltb _ _ (omega (arith, less, id)),
    )
