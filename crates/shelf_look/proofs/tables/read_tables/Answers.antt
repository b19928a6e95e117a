use Rattle.shelf_look.proofs.Prelude.{sym, subst, List, Geometry, AnyFact, AreSound, PatchesStand, geometry_of, TablesFault, patches_in, IsTablesCause}
use Rattle.shelf_look.proofs.Causing.{shows_drives, tables_cause}
use Rattle.shelf_look.proofs.Lifting.{ran_by_reads, same_geometry}
use Rattle.shelf_look.proofs.Making.{memory_of, patches_are, visible_of}
use Rattle.shelf_look.proofs.tables.read_tables.Goals as goal
use Rattle.boot_region.proofs.LoadingLemmas.{if_err}

pub returns-in_err-loaded-clause-ran : goal.returns-in_err-loaded-clause-ran
returns-in_err-loaded-clause-ran g c = ran_by_reads c.load_tables.ensures.reads c.load_tables.ensures.rest

pub returns-in_err-loaded-clause-same : goal.returns-in_err-loaded-clause-same
returns-in_err-loaded-clause-same g c = c.load_tables.ensures.reads.looks.same

pub returns-in_err-memory-clause-ran : goal.returns-in_err-memory-clause-ran
returns-in_err-memory-clause-ran g c = ran_by_reads c.load_tables.ensures.reads c.load_tables.ensures.rest

pub returns-in_err-memory-clause-same : goal.returns-in_err-memory-clause-same
returns-in_err-memory-clause-same g c = c.load_tables.ensures.reads.looks.same

pub returns-clause-ran : goal.returns-clause-ran
returns-clause-ran g c = ran_by_reads c.load_tables.ensures.reads c.load_tables.ensures.rest

pub returns-clause-same : goal.returns-clause-same
returns-clause-same g c = c.load_tables.ensures.reads.looks.same

pub returns-clause-memory : goal.returns-clause-memory
returns-clause-memory g c =
    let a = g.S.Shelf.shelf c.args.shelf.now in
    let t = c.in_ok-loaded.loaded.tables in
    let sound = subst (λ (s : Geometry). AreSound s c.args.boot.now (patches_in t)) (same_geometry c.load_tables.ensures.reads.continues) c.in_ok-loaded.ensures.sound in
    memory_of (geometry_of a) c.args.boot.now t c.in_ok-memory.memory sound c.in_ok-memory.ensures.loaded

pub returns-in_err-loaded-clause-fault : goal.returns-in_err-loaded-clause-fault
returns-in_err-loaded-clause-fault g c honest =
    let a = g.S.Shelf.shelf c.args.shelf.now in
    let n = g.S.Shelf.shelf c.load_tables.new.shelf in
    if_err c.from_residual.result _ _ c.from_residual.ensures.1 (λ e is.
    subst (λ (f : TablesFault). IsTablesCause a n c.args.drives.now c.args.boot.now f) (sym is)
    (tables_cause a n c.args.boot.now c.args.drives.now c.others_than-missing.result (g.met.S.Shelf.is_shelf c.args.shelf.now).drives.1 c.others_than-missing.ensures honest
    c.in_err-loaded.field-0.0 c.in_err-loaded.ensures.fault))

pub returns-clause-visible : goal.returns-clause-visible
returns-clause-visible g c =
    let a = g.S.Shelf.shelf c.args.shelf.now in
    let sound = subst (λ (s : Geometry). AreSound s c.args.boot.now (patches_in c.in_ok-loaded.loaded.tables)) (same_geometry c.load_tables.ensures.reads.continues) c.in_ok-loaded.ensures.sound in
    visible_of (geometry_of a) c.args.boot.now c.in_ok-loaded.loaded.tables c.in_ok-memory.memory sound c.in_ok-memory.ensures.loaded c.in_ok-loaded.loaded.visible c.in_ok-loaded.ensures.visible

pub returns-clause-tables : goal.returns-clause-tables
returns-clause-tables g c honest =
    let a = g.S.Shelf.shelf c.args.shelf.now in
    let t = c.in_ok-loaded.loaded.tables in
    let k = c.in_ok-memory.memory in
    let sound = subst (λ (s : Geometry). AreSound s c.args.boot.now (patches_in t)) (same_geometry c.load_tables.ensures.reads.continues) c.in_ok-loaded.ensures.sound in
    record {
      memory = memory_of (geometry_of a) c.args.boot.now t k sound c.in_ok-memory.ensures.loaded;
      stand = λ view shows stripes. subst (λ (ps : List (List AnyFact)). PatchesStand view c.args.boot.now ps)
          (sym (patches_are (geometry_of a) c.args.boot.now t k sound c.in_ok-memory.ensures.loaded))
          (c.in_ok-loaded.ensures.stand honest view
          (shows_drives a c.args.drives.now c.others_than-missing.result view (g.met.S.Shelf.is_shelf c.args.shelf.now).drives.1 c.others_than-missing.ensures shows) stripes);
    }
