use Rattle.table_loading.proofs.Prelude.{subst, ◌∙◌, ap, Err, err_from_is_err_and, Geometry, IsFault, geometry_of}
use Rattle.table_loading.proofs.Faulted.{read_fault, check_fault}
use Rattle.table_loading.proofs.Loaded.{are_lawful, are_named, all_shown, all_stand, lawful_patches, same_geometry}
use Rattle.table_loading.proofs.loading.load_tables.Goals as goal

pub check-requires-clause-facts : goal.check-requires-clause-facts
check-requires-clause-facts g c = are_lawful (g.S.Shelf.shelf c.args.shelf.now) (g.S.Shelf.shelf c.read_tables.new.shelf) c.args.missing.now c.args.boot.now c.in_ok-tables.tables c.in_ok-tables.ensures.loaded

pub check-requires-clause-named : goal.check-requires-clause-named
check-requires-clause-named g c =
    let a = g.S.Shelf.shelf c.args.shelf.now in
    let lawful = lawful_patches a c.args.boot.now c.requires.lawful in
    are_named a (g.S.Shelf.shelf c.read_tables.new.shelf) c.args.missing.now c.args.boot.now c.in_ok-tables.tables c.in_ok-tables.ensures.loaded a.drives a.units lawful.each

pub returns-in_err-tables-clause-fault : goal.returns-in_err-tables-clause-fault
returns-in_err-tables-clause-fault g c =
    let r = err_from_is_err_and c.from_residual-in_err-tables.result c.from_residual-in_err-tables.ensures.1 in
    let a = g.S.Shelf.shelf c.args.shelf.now in
    let lawful = lawful_patches a c.args.boot.now c.requires.lawful in
    rw (r.1, r.2) (read_fault a (g.S.Shelf.shelf c.read_tables.new.shelf) c.args.boot.now c.args.missing.now lawful.each _ c.in_err-tables.ensures.fault)

pub returns-in_err-visible-clause-fault : goal.returns-in_err-visible-clause-fault
returns-in_err-visible-clause-fault g c =
    let r = err_from_is_err_and c.from_residual-in_err-visible.result c.from_residual-in_err-visible.ensures.1 in
    let a = g.S.Shelf.shelf c.args.shelf.now in
    let boot = c.args.boot.now in
    let tables = c.in_ok-tables.tables in
    let lawful = lawful_patches a boot c.requires.lawful in
    rw (r.1, r.2) (check_fault a (g.S.Shelf.shelf c.read_tables.new.shelf) boot c.args.missing.now lawful.each tables c.in_ok-tables.ensures.loaded c.in_err-visible.field-0.0
    (λ x is. subst (λ (s : Geometry). IsFault s boot tables x) (same_geometry (geometry_of a) boot c.requires.lawful) (c.check.ensures.fault x (c.in_err-visible.was ∙ ap Err is))))

pub returns-clause-stand : goal.returns-clause-stand
returns-clause-stand g c h view shows stripes =
    let a = g.S.Shelf.shelf c.args.shelf.now in
    let lawful = lawful_patches a c.args.boot.now c.requires.lawful in
    all_stand a (g.S.Shelf.shelf c.read_tables.new.shelf) c.args.missing.now c.args.boot.now c.in_ok-tables.tables c.in_ok-tables.ensures.loaded lawful.each h view shows stripes

pub returns-clause-shown : goal.returns-clause-shown
returns-clause-shown g c h view shows =
    let a = g.S.Shelf.shelf c.args.shelf.now in
    let lawful = lawful_patches a c.args.boot.now c.requires.lawful in
    all_shown a (g.S.Shelf.shelf c.read_tables.new.shelf) c.args.missing.now c.args.boot.now c.in_ok-tables.tables c.in_ok-tables.ensures.loaded lawful.each h view shows

pub returns-clause-lawful_facts : goal.returns-clause-lawful_facts
returns-clause-lawful_facts g c = are_lawful (g.S.Shelf.shelf c.args.shelf.now) (g.S.Shelf.shelf c.read_tables.new.shelf) c.args.missing.now c.args.boot.now c.in_ok-tables.tables c.in_ok-tables.ensures.loaded

pub returns-clause-named : goal.returns-clause-named
returns-clause-named g c =
    let a = g.S.Shelf.shelf c.args.shelf.now in
    let lawful = lawful_patches a c.args.boot.now c.requires.lawful in
    are_named a (g.S.Shelf.shelf c.read_tables.new.shelf) c.args.missing.now c.args.boot.now c.in_ok-tables.tables c.in_ok-tables.ensures.loaded a.drives a.units lawful.each
