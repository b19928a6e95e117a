use Rattle.takeover.proofs.Prelude.{sym, subst, arith, Geometry, Device, IsRecordOf, geometry_of, IsSame, ran_then, ran_more, failed_since, IsSeenIn, StandsWhileFinding}
use Rattle.boot_region.proofs.Composing.{as_it_is}
use Rattle.takeover.proofs.Failing.{since_later}
use Rattle.takeover.proofs.TablesRead.{record_read, while_reading_tables, found_read, has_tables, silent_read, tables_seen}
use Rattle.takeover.proofs.TablesLost.{fault_seen}
use Rattle.takeover.proofs.tables.find_array.Given as given
use Rattle.takeover.proofs.tables.find_array.Goals as goal
use Rattle.takeover.proofs.tables.find_array.Goals.{After-load_memory}
use Rattle.register.proofs.Rounds.{same_shelf}

pub returns-in-Ok-clause-ran : goal.returns-in-Ok-clause-ran
returns-in-Ok-clause-ran g c = ran_then g.met.S.Shelf.shelf_rest_stays c.find_record.ensures.ran (ran_more (λ d is. is) (λ d i none. absurd none) c.load_memory.ensures.ran)

pub returns-in-Err-clause-ran : goal.returns-in-Err-clause-ran
returns-in-Err-clause-ran g c = ran_then g.met.S.Shelf.shelf_rest_stays c.find_record.ensures.ran (ran_more (λ d is. is) (λ d i none. absurd none) c.load_memory.ensures.ran)

-- the tables were loaded, or not
stands : (g : given.Over) (c : After-load_memory g) → (g.S.Shelf.shelf c.args.shelf.now).honest → StandsWhileFinding (g.S.Shelf.shelf c.args.shelf.now) (g.S.Shelf.shelf c.load_memory.new.shelf)
stands g c h =
    let a = g.S.Shelf.shelf c.args.shelf.now in
    let b = g.S.Shelf.shelf c.find_record.new.shelf in
    let on = c.find_record.ensures.ran.on.continues in
    let h_b = on.honest h in
    while_reading_tables a b (g.S.Shelf.shelf c.load_memory.new.shelf) c.in_ok-loaded.loaded on c.load_memory.ensures.ran.on.continues (g.met.S.Shelf.is_shelf c.find_record.new.shelf) h_b
    (c.load_memory.ensures.looks.same h_b) (c.load_memory.ensures.ran.on.writes h_b)
    (λ missing arrays enters bears. c.in_ok-loaded.ensures.found h missing arrays enters (failed_since a b missing) (as_it_is (failed_since a b missing)) bears) (c.find_record.ensures.stands h)

pub returns-in-Ok-clause-stands : goal.returns-in-Ok-clause-stands
returns-in-Ok-clause-stands g c = stands g (goal.at.returns-in-Ok-clause-stands g c).After-load_memory

pub returns-in-Err-clause-stands : goal.returns-in-Err-clause-stands
returns-in-Err-clause-stands g c = stands g (goal.at.returns-in-Err-clause-stands g c).After-load_memory

pub returns-in-Ok-clause-loaded : goal.returns-in-Ok-clause-loaded
returns-in-Ok-clause-loaded g c =
    record_read (g.S.Shelf.shelf c.args.shelf.now) (g.S.Shelf.shelf c.find_record.new.shelf) (g.S.Shelf.shelf c.load_memory.new.shelf) c.in_ok-loaded.loaded c.load_memory.ensures.ran.on.continues
    c.load_memory.ensures.looks.write_faults (λ h. c.load_memory.ensures.looks.same (c.find_record.ensures.ran.on.continues.honest h)) c.in_ok-loaded.ensures.loaded

pub returns-in-Ok-clause-seen : goal.returns-in-Ok-clause-seen
returns-in-Ok-clause-seen g c h =
    let a = g.S.Shelf.shelf c.args.shelf.now in
    let b = g.S.Shelf.shelf c.find_record.new.shelf in
    let t = g.S.Shelf.shelf c.load_memory.new.shelf in
    let x = c.in_ok-loaded.loaded in
    let on = c.find_record.ensures.ran.on.continues in
    let after = c.load_memory.ensures.ran.on.continues in
    let h_b = on.honest h in
    let is_b = g.met.S.Shelf.is_shelf c.find_record.new.shelf in
    let lawful : IsRecordOf (geometry_of a) x.record = subst (λ (s : Geometry). IsRecordOf s x.record) (sym (same_shelf on)) c.in_ok-loaded.ensures.loaded.lawful.lawful in
    tables_seen a b t x c.in-Ok.memory on after is_b h_b (c.load_memory.ensures.looks.same h_b) (c.load_memory.ensures.ran.on.writes h_b) (c.in_ok-loaded.ensures.seen h) lawful c.others_than-missing.result c.others_than-missing.ensures
    (omega (arith, is_b.drives.1)) (c.in-Ok.ensures.stand h_b) (c.in-Ok.ensures.shown h_b)

pub returns-in-Ok-clause-found : goal.returns-in-Ok-clause-found
returns-in-Ok-clause-found g c h =
    let a = g.S.Shelf.shelf c.args.shelf.now in
    let b = g.S.Shelf.shelf c.find_record.new.shelf in
    let t = g.S.Shelf.shelf c.load_memory.new.shelf in
    let x = c.in_ok-loaded.loaded in
    let after = c.load_memory.ensures.ran.on.continues in
    let h_b = c.find_record.ensures.ran.on.continues.honest h in
    let is_b = g.met.S.Shelf.is_shelf c.find_record.new.shelf in
    let same : (d : Device) → IsSame (b.disk d) (t.disk d) = c.load_memory.ensures.looks.same h_b in
    record {
      found = λ missing arrays enters bears.
          found_read b t x (failed_since a t missing) arrays after same (c.in_ok-loaded.ensures.found h missing arrays enters (failed_since a t missing) (since_later a b t missing after) bears);
      tables = λ missing arrays is.
          has_tables b t x c.in-Ok.memory missing arrays after (g.met.S.Shelf.is_shelf c.load_memory.new.shelf) (after.honest h_b) same is c.in-Ok.ensures.memory c.others_than-missing.result c.others_than-missing.ensures
          (omega (arith, is_b.drives.1)) (c.in-Ok.ensures.stand h_b);
    }

pub returns-in-Err-clause-seen : goal.returns-in-Err-clause-seen
returns-in-Err-clause-seen g c h =
    let a = g.S.Shelf.shelf c.args.shelf.now in
    let b = g.S.Shelf.shelf c.find_record.new.shelf in
    let t = g.S.Shelf.shelf c.load_memory.new.shelf in
    let x = c.in_ok-loaded.loaded in
    let on = c.find_record.ensures.ran.on.continues in
    let after = c.load_memory.ensures.ran.on.continues in
    let h_b = on.honest h in
    let is_b = g.met.S.Shelf.is_shelf c.find_record.new.shelf in
    let same : (d : Device) → IsSame (b.disk d) (t.disk d) = c.load_memory.ensures.looks.same h_b in
    let lawful : IsRecordOf (geometry_of a) x.record = subst (λ (s : Geometry). IsRecordOf s x.record) (sym (same_shelf on)) c.in_ok-loaded.ensures.loaded.lawful.lawful in
    let seen : IsSeenIn a b x = c.in_ok-loaded.ensures.seen h in
    fault_seen a b t x on after h_b lawful same seen (silent_read a b t x on after is_b h_b same (c.load_memory.ensures.ran.on.writes h_b) seen) c.others_than-missing.result c.others_than-missing.ensures (omega (arith, is_b.drives.1))
    c.in-Err.fault c.fault_of_tables.result c.in-Err.ensures.fault c.fault_of_tables.ensures
