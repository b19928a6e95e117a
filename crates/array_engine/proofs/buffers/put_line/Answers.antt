use Rattle.array_engine.proofs.Prelude.{◌≡◌, length, drop, ◌∙◌, arith, LINE_ROOM}
use Rattle.std.proofs.lemmas.List.{drop_at, length-take-le}
use Rattle.array_engine.proofs.DataReplies.{line_put}
use Rattle.array_engine.proofs.buffers.put_line.Goals as goal

pub returns-clause-line : goal.returns-clause-line
returns-clause-line c =
    let size : length c.put_data_line.new.room ≡ LINE_ROOM = c.put_data_line.auto.room ∙ length-take-le LINE_ROOM c.args.reply.now c.requires in
    line_put c.put_data_line.new.room (drop LINE_ROOM c.args.reply.now) c.put_data_line.result c.args.count size (omega (arith, c.put_data_line.ensures.within, c.put_data_line.auto.room)) c.put_data_line.ensures.line

pub returns-clause-sectors : goal.returns-clause-sectors
returns-clause-sectors c = drop_at c.put_data_line.new.room (drop LINE_ROOM c.args.reply.now) LINE_ROOM (c.put_data_line.auto.room ∙ length-take-le LINE_ROOM c.args.reply.now c.requires)
