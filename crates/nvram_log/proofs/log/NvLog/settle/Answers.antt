use Rattle.nvram_log.proofs.Prelude.{◌≤◌, take, arith}
use Rattle.nvram_log.specs.lemmas.Heads.{length-front}
use Rattle.nvram_log.proofs.SettledEach.{are_to_settle, read_front}
use Rattle.nvram_log.proofs.log.NvLog.settle.Goals as goal

pub returns-clause-holds : goal.returns-clause-holds
returns-clause-holds g c h commands read seen agree =
    let log = c.args.self.now in
    let le : c.args.count ≤ log.count = c.requires in
    let are = are_to_settle (g.S.Shelf.shelf c.args.shelf.now) log c.args.count commands read le (omega (arith, le, log.room)) seen agree in
    c.settle_each.ensures.holds h log.flushed (take c.args.count commands) (length-front c.args.count commands (omega (arith, read.count, le))) (rw c.deref.ensures.value are)

pub returns-clause-any_moment : goal.returns-clause-any_moment
returns-clause-any_moment g c h commands read seen agree =
    let log = c.args.self.now in
    let le : c.args.count ≤ log.count = c.requires in
    let are = are_to_settle (g.S.Shelf.shelf c.args.shelf.now) log c.args.count commands read le (omega (arith, le, log.room)) seen agree in
    c.settle_each.ensures.any_moment h log.flushed (take c.args.count commands) (length-front c.args.count commands (omega (arith, read.count, le))) (rw c.deref.ensures.value are)

pub returns-then-not-has_any-clause-any_moment : goal.returns-then-not-has_any-clause-any_moment
returns-then-not-has_any-clause-any_moment g c h commands read seen agree =
    let log = c.args.self.now in
    let le : c.args.count ≤ log.count = c.requires in
    let are = are_to_settle (g.S.Shelf.shelf c.args.shelf.now) log c.args.count commands read le (omega (arith, le, log.room)) seen agree in
    c.settle_each.ensures.any_moment h log.flushed (take c.args.count commands) (length-front c.args.count commands (omega (arith, read.count, le))) (rw c.deref.ensures.value are)

pub returns-clause-keeps : goal.returns-clause-keeps
returns-clause-keeps g c commands has = record { count = length-front c.args.count commands (omega (arith, has.count, c.requires)); each = read_front c.args.self.now c.args.count commands has c.requires }
