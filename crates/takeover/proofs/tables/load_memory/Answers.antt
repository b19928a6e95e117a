use Rattle.takeover.proofs.Prelude.{geometry_of}
use Rattle.takeover.proofs.Running.{ran_on_drives}
use Rattle.takeover.proofs.TablesMade.{memory_of}
use Rattle.takeover.proofs.tables.load_memory.Goals as goal

pub returns-in_err-loaded-clause-ran : goal.returns-in_err-loaded-clause-ran
returns-in_err-loaded-clause-ran g c = ran_on_drives c.load_tables.ensures.reads.continues c.load_tables.ensures.reads.nvrams c.load_tables.ensures.reads.writes c.load_tables.ensures.rest

pub returns-in_err-memory-clause-ran : goal.returns-in_err-memory-clause-ran
returns-in_err-memory-clause-ran g c = ran_on_drives c.load_tables.ensures.reads.continues c.load_tables.ensures.reads.nvrams c.load_tables.ensures.reads.writes c.load_tables.ensures.rest

pub returns-clause-ran : goal.returns-clause-ran
returns-clause-ran g c = ran_on_drives c.load_tables.ensures.reads.continues c.load_tables.ensures.reads.nvrams c.load_tables.ensures.reads.writes c.load_tables.ensures.rest

pub returns-clause-memory : goal.returns-clause-memory
returns-clause-memory g c =
    let t = c.in_ok-loaded.loaded.tables in
    let loads = c.in_ok-loaded.ensures in
    let made = c.in_ok-memory.ensures in
    memory_of (geometry_of (g.S.Shelf.shelf c.load_tables.new.shelf)) c.args.boot.now t c.in_ok-memory.memory loads.sound loads.lawful_facts loads.named made.loaded made.reads made.stored made.room
