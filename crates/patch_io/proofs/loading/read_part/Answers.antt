use Rattle.patch_io.proofs.Prelude.{◌≡◌, ◌*◌, length, take, map, arith, length-take-le, on_ok_weaker, IfErr-weaker}
use Rattle.patch_io.proofs.Segments.{reads_part, part_fault}
use Rattle.patch_io.proofs.loading.read_part.Goals as goal

pub returns-clause-facts : goal.returns-clause-facts
returns-clause-facts g c =
    let a = g.S.Shelf.shelf c.args.shelf.now in
    let size = 512 * c.div_ceil-size.result in
    let cut : length (take size c.args.sectors.now) ≡ size = length-take-le size c.args.sectors.now (omega arith) in
    on_ok_weaker c.read_facts.result
    (reads_part a (g.S.Shelf.shelf c.read_sectors.new.shelf) c.args.places.now c.args.missing.now g.F.TableFact.tag c.args.count (length (take size c.args.sectors.now)) c.read_sectors.new.into (map g.F.TableFact.any c.args.facts.now.items)
    (omega arith) c.in_default.ensures.sectors c.in_default.ensures.shown _)
    c.read_facts.ensures.ok

pub returns-clause-fault : goal.returns-clause-fault
returns-clause-fault g c =
    let a = g.S.Shelf.shelf c.args.shelf.now in
    let size = 512 * c.div_ceil-size.result in
    let cut : length (take size c.args.sectors.now) ≡ size = length-take-le size c.args.sectors.now (omega arith) in
    IfErr-weaker c.read_facts.result _ _
    (part_fault a _ c.args.places.now c.args.missing.now g.F.TableFact.tag c.args.count (length (take size c.args.sectors.now)) c.read_sectors.new.into (map g.F.TableFact.any c.args.facts.now.items)
    (omega arith) c.in_default.ensures.sectors)
    c.read_facts.ensures.fault
