use Rattle.array_engine.proofs.Prelude.{refl, sym, subst, read_in, Asked, Engine, Said, IsAnsweredAt}
use Rattle.pur_base.specs.declared.request.Request.TheVariants as request
use Rattle.array_engine.proofs.Ending.{WasRead, read_answered}
use Rattle.array_engine.proofs.Meanwhile.{kept_read}
use Rattle.array_engine.proofs.Points.{like_itself}
use Rattle.array_engine.proofs.Spans.{AreMissing, readable}
use Rattle.array_engine.proofs.engine.Engine.read.Goals as goal

pub returns-clause-answers : goal.returns-clause-answers
returns-clause-answers g c = λ sectors told from honest at.
    let old = g.S.Shelf.shelf c.args.shelf.now in
    let new = g.S.Shelf.shelf c.read-done.new.shelf in
    let e = c.args.self.now in
    let f : Engine = record e { buffers = c.read-done.new.self } in
    let does = c.read-done.ensures in
    let are : AreMissing e.array.register c.missing_of-missing.result = rw c.drives.ensures at c.missing_of-missing.ensures in
    let w : WasRead old new e.array c.args.name.now c.args.lba c.args.count c.missing_of-missing.result (read_in c.args.count f.buffers.reply.items) c.read-done.result =
    record { refused = does.refused; given = does.sectors; lost = does.lost } in
    subst (λ (q : Said). IsAnsweredAt told old new e f (Asked (request.Read c.args.name.now c.args.lba c.args.count) sectors) q from) (sym c.said_to_read.ensures)
    (read_answered told old new e f (like_itself e.array) refl does.reads (g.met.S.Shelf.is_shelf c.args.shelf.now) (g.met.S.Shelf.is_shelf c.read-done.new.shelf) honest from at c.requires.awake c.args.name.now c.args.lba c.args.count c.requires.few
    c.missing_of-missing.result c.requires.is_of are does.reply c.requires.accepted sectors c.read-done.result w)

pub returns-clause-kept : goal.returns-clause-kept
returns-clause-kept g c = λ honest sectors held ready.
    kept_read (g.S.Shelf.shelf c.args.shelf.now) c.args.self.now.array held ready (g.S.Shelf.shelf c.read-done.new.shelf) (c.read-done.ensures.reads.writes honest) (Asked (request.Read c.args.name.now c.args.lba c.args.count) sectors)

pub read-done-requires-clause-places : goal.read-done-requires-clause-places
read-done-requires-clause-places g c = readable (g.S.Shelf.shelf c.args.shelf.now) c.args.self.now.array c.requires.is_of
