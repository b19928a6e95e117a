use Rattle.address_table.proofs.Prelude.{◌≡◌, ap, sym, ◌∙◌, facts_in, is_within, key_of}
use Rattle.std.proofs.lemmas.Option.{IfSome_then}
use Rattle.pyramid.specs.lemmas.Layers.{none_then}
use Rattle.address_table.proofs.AddressLemmas.{newest_run, visible_run}
use Rattle.address_table.proofs.table.AddressTable.run.Goals as goal

pub returns-else-is_within-clause-some : goal.returns-else-is_within-clause-some
returns-else-is_within-clause-some c =
    let from : c.key_of.result ≡ key_of c.args.medium.0 c.args.first = c.key_of.ensures ∙ ap (key_of c.args.medium.0) c.from.ensures in
    IfSome_then c.run_from.result c.run_from.ensures.some (λ run h. visible_run (facts_in c.args.self.now.facts) (is_within c.args.elided.now) c.args.medium.0 c.args.first c.args.len run.now c.requires.sectors
    (sym c.is_within.ensures ∙ c.if-is_within.false) (rw from at h))

pub returns-else-is_within-clause-none : goal.returns-else-is_within-clause-none
returns-else-is_within-clause-none c =
    let from : c.key_of.result ≡ key_of c.args.medium.0 c.args.first = c.key_of.ensures ∙ ap (key_of c.args.medium.0) c.from.ensures in
    none_then c.run_from.result c.run_from.ensures.none (λ none some patch run there here all. (rw from at (none some)) patch run there
    (newest_run patch (is_within c.args.elided.now) c.args.medium.0 c.args.first c.args.len run here)
    (newest_run (facts_in c.args.self.now.facts) (is_within c.args.elided.now) c.args.medium.0 c.args.first c.args.len run all))
