use Rattle.table_loading.proofs.Prelude.{map, err_from_is_err_and, LoadedTables, IsLoaded, OnlyReads, of_tag}
use Rattle.pur_base.specs.declared.facts.AnyFact.TheVariants as any
use Rattle.table_loading.proofs.Reading.{reads_none, reads_then, all_within, fault_before}
use Rattle.table_loading.proofs.Loaded.{all_loaded}
use Rattle.table_loading.proofs.tables.read_tables.Goals as goal

pub returns-in_err-mediums-clause-reads : goal.returns-in_err-mediums-clause-reads
returns-in_err-mediums-clause-reads g c = reads_then c.load_table.ensures.reads c.load_table-2.ensures.reads

pub returns-in_err-mediums-clause-fault : goal.returns-in_err-mediums-clause-fault
returns-in_err-mediums-clause-fault g c =
    let r = err_from_is_err_and c.from_residual-in_err-mediums.result c.from_residual-in_err-mediums.ensures.1 in
    let a = g.S.Shelf.shelf c.args.shelf.now in
    rw (r.1, r.2) (fault_before a (g.S.Shelf.shelf c.load_table.new.shelf) (g.S.Shelf.shelf c.load_table-2.new.shelf) c.args.missing.now c.args.patches.now _ c.load_table.ensures.reads c.in_err-mediums.ensures.fault)

pub returns-in_err-addresses-clause-reads : goal.returns-in_err-addresses-clause-reads
returns-in_err-addresses-clause-reads g c = reads_then (reads_then c.load_table.ensures.reads c.load_table-2.ensures.reads) c.load_table-3.ensures.reads

pub returns-in_err-addresses-clause-fault : goal.returns-in_err-addresses-clause-fault
returns-in_err-addresses-clause-fault g c =
    let r = err_from_is_err_and c.from_residual-in_err-addresses.result c.from_residual-in_err-addresses.ensures.1 in
    let a = g.S.Shelf.shelf c.args.shelf.now in
    rw (r.1, r.2) (fault_before a (g.S.Shelf.shelf c.load_table-2.new.shelf) (g.S.Shelf.shelf c.load_table-3.new.shelf) c.args.missing.now c.args.patches.now _ (reads_then c.load_table.ensures.reads c.load_table-2.ensures.reads) c.in_err-addresses.ensures.fault)

pub returns-in_err-segments-clause-reads : goal.returns-in_err-segments-clause-reads
returns-in_err-segments-clause-reads g c = reads_then (reads_then (reads_then c.load_table.ensures.reads c.load_table-2.ensures.reads) c.load_table-3.ensures.reads) c.load_table-4.ensures.reads

pub returns-in_err-segments-clause-fault : goal.returns-in_err-segments-clause-fault
returns-in_err-segments-clause-fault g c =
    let r = err_from_is_err_and c.from_residual-in_err-segments.result c.from_residual-in_err-segments.ensures.1 in
    let a = g.S.Shelf.shelf c.args.shelf.now in
    rw (r.1, r.2) (fault_before a (g.S.Shelf.shelf c.load_table-3.new.shelf) (g.S.Shelf.shelf c.load_table-4.new.shelf) c.args.missing.now c.args.patches.now _ (reads_then (reads_then c.load_table.ensures.reads c.load_table-2.ensures.reads) c.load_table-3.ensures.reads) c.in_err-segments.ensures.fault)

pub returns-in_err-elisions-clause-reads : goal.returns-in_err-elisions-clause-reads
returns-in_err-elisions-clause-reads g c = reads_then (reads_then (reads_then (reads_then c.load_table.ensures.reads c.load_table-2.ensures.reads) c.load_table-3.ensures.reads) c.load_table-4.ensures.reads) c.load_table-5.ensures.reads

pub returns-in_err-elisions-clause-fault : goal.returns-in_err-elisions-clause-fault
returns-in_err-elisions-clause-fault g c =
    let r = err_from_is_err_and c.from_residual-in_err-elisions.result c.from_residual-in_err-elisions.ensures.1 in
    let a = g.S.Shelf.shelf c.args.shelf.now in
    rw (r.1, r.2) (fault_before a (g.S.Shelf.shelf c.load_table-4.new.shelf) (g.S.Shelf.shelf c.load_table-5.new.shelf) c.args.missing.now c.args.patches.now _ (reads_then (reads_then (reads_then c.load_table.ensures.reads c.load_table-2.ensures.reads) c.load_table-3.ensures.reads) c.load_table-4.ensures.reads) c.in_err-elisions.ensures.fault)

pub returns-clause-reads : goal.returns-clause-reads
returns-clause-reads g c = reads_then (reads_then (reads_then (reads_then c.load_table.ensures.reads c.load_table-2.ensures.reads) c.load_table-3.ensures.reads) c.load_table-4.ensures.reads) c.load_table-5.ensures.reads

pub returns-clause-loaded : goal.returns-clause-loaded
returns-clause-loaded g c =
    let a = g.S.Shelf.shelf c.args.shelf.now in
    let one = g.S.Shelf.shelf c.load_table.new.shelf in
    let two = g.S.Shelf.shelf c.load_table-2.new.shelf in
    let three = g.S.Shelf.shelf c.load_table-3.new.shelf in
    let four = g.S.Shelf.shelf c.load_table-4.new.shelf in
    let five = g.S.Shelf.shelf c.load_table-5.new.shelf in
    let missing = c.args.missing.now in
    let ps = c.args.patches.now in
    let t : LoadedTables = record { objects = c.in_ok-objects.objects; mediums = c.in_ok-mediums.mediums; addresses = c.in_ok-addresses.addresses; segments = c.in_ok-segments.segments; elisions = c.in_ok-elisions.elisions } in
    let first = c.load_table.ensures.reads in
    let second = c.load_table-2.ensures.reads in
    let third = c.load_table-3.ensures.reads in
    let fourth = c.load_table-4.ensures.reads in
    let fifth = c.load_table-5.ensures.reads in
    let to_two : OnlyReads a two = reads_then first second in
    let to_three : OnlyReads a three = reads_then to_two third in
    let from_three : OnlyReads three five = reads_then fourth fifth in
    let from_two : OnlyReads two five = reads_then third from_three in
    all_loaded (IsLoaded a five missing) a.drives a.units ps t c.requires.lawful
    (all_within a a one five missing (of_tag 1 ps) (map (map any.Object) t.objects.items) (reads_none a (g.met.S.Shelf.is_shelf c.args.shelf.now)) first (reads_then second from_two) c.in_ok-objects.ensures.loaded)
    (all_within a one two five missing (of_tag 2 ps) (map (map any.Medium) t.mediums.items) first second from_two c.in_ok-mediums.ensures.loaded)
    (all_within a two three five missing (of_tag 3 ps) (map (map any.Address) t.addresses.items) to_two third from_three c.in_ok-addresses.ensures.loaded)
    (all_within a three four five missing (of_tag 4 ps) (map (map any.Segment) t.segments.items) to_three fourth fifth c.in_ok-segments.ensures.loaded)
    (all_within a four five five missing (of_tag 5 ps) (map (map any.Elision) t.elisions.items) (reads_then to_three fourth) fifth (reads_none five (g.met.S.Shelf.is_shelf c.load_table-5.new.shelf)) c.in_ok-elisions.ensures.loaded)
