use Rattle.table_loading.proofs.Prelude.{List, map, sym, subst, IsLoaded}
use Rattle.table_loading.proofs.Loaded.{is_patch}
use Rattle.table_loading.proofs.patches.load_one.Goals as goal

pub new-requires : goal.new-requires
new-requires g c = is_patch g.F.TableFact.any g.F.Fact.key g.met.F.TableFact.have_key c.args.patch.now c.in-Ok.facts.items c.requires.lawful.facts.0 c.in-Ok.ensures.decoded

pub returns-in-Ok-clause-loaded : goal.returns-in-Ok-clause-loaded
returns-in-Ok-clause-loaded g c =
    subst (λ (facts : List g.row.F.Denot). IsLoaded (g.S.Shelf.shelf c.args.shelf.now) (g.S.Shelf.shelf c.load_patch.new.shelf) c.args.missing.now c.args.patch.now (map g.F.TableFact.any facts)) (sym c.new.ensures)
    (record { decoded = c.in-Ok.ensures.decoded; stands = c.in-Ok.ensures.ok; shown = c.in-Ok.ensures.shown })
