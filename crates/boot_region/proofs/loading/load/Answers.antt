use Rattle.boot_region.proofs.Prelude.{◌∙◌, sym, ap, ℕ, geometry_of, may_be_settled}
use Rattle.boot_region.proofs.LoadingLemmas.{answer_of, loaded_by, lawful_load}
use Rattle.boot_region.proofs.loading.load.Goals as goal

pub returns-clause-loads : goal.returns-clause-loads
returns-clause-loads g c honest =
    let a = g.S.Shelf.shelf c.args.shelf.now in
    let n = g.S.Shelf.shelf c.read_regions.new.shelf in
    let r = c.read_regions.new.regions in
    loaded_by a n r.bytes.items r.answered.items c.load.result (c.read_regions.ensures.drives ∙ c.read_regions.ensures.ran.on.continues.drives) (c.read_regions.ensures.read honest)
    (answer_of (geometry_of a) r.bytes.items r.answered.items c.units.result c.load.result c.load.ensures.ok c.load.ensures.err
    (sym (c.read_regions.ensures.drives ∙ c.read_regions.ensures.ran.on.continues.drives)) (sym (c.units.ensures ∙ c.read_regions.ensures.ran.on.continues.units)))

pub returns-clause-lawful : goal.returns-clause-lawful
returns-clause-lawful g c =
    let a = g.S.Shelf.shelf c.args.shelf.now in
    let n = g.S.Shelf.shelf c.read_regions.new.shelf in
    let r = c.read_regions.new.regions in
    let drives = c.read_regions.ensures.ran.on.continues.drives in
    let units = c.read_regions.ensures.ran.on.continues.units in
    lawful_load (geometry_of n) (geometry_of a) r.bytes.items r.answered.items c.load.result
    (ap (λ (k : ℕ). record { slots = k; units = a.units }) (sym drives) ∙ ap (λ (k : ℕ). record { slots = n.drives; units = k }) (sym units))
    (answer_of (geometry_of a) r.bytes.items r.answered.items c.units.result c.load.result c.load.ensures.ok c.load.ensures.err
    (sym (c.read_regions.ensures.drives ∙ drives)) (sym (c.units.ensures ∙ units)))

pub returns-clause-found : goal.returns-clause-found
returns-clause-found g c h =
    let a = g.S.Shelf.shelf c.args.shelf.now in
    let n = g.S.Shelf.shelf c.read_regions.new.shelf in
    let r = c.read_regions.new.regions in
    may_be_settled a n c.load.result (g.met.S.Shelf.is_shelf c.args.shelf.now) (g.met.S.Shelf.is_shelf c.read_regions.new.shelf) h c.read_regions.ensures.ran.on.continues (c.read_regions.ensures.same h)
    (loaded_by a n r.bytes.items r.answered.items c.load.result (c.read_regions.ensures.drives ∙ c.read_regions.ensures.ran.on.continues.drives) (c.read_regions.ensures.read h)
    (answer_of (geometry_of a) r.bytes.items r.answered.items c.units.result c.load.result c.load.ensures.ok c.load.ensures.err
    (sym (c.read_regions.ensures.drives ∙ c.read_regions.ensures.ran.on.continues.drives)) (sym (c.units.ensures ∙ c.read_regions.ensures.ran.on.continues.units))))
