use Rattle.nvram_log.proofs.Prelude.{weaker}
use Rattle.nvram_log.proofs.Closing.{while_closing, none_while_closing}
use Rattle.nvram_log.proofs.log.NvLog.clear.Goals as goal

pub returns-then-not-has_any-clause-any_moment : goal.returns-then-not-has_any-clause-any_moment
returns-then-not-has_any-clause-any_moment g c h commands keeps holds =
    let log = c.args.self.now in
    let wrote = rw (← keeps.count) at (c.close.ensures.ran.on.writes h) in
    weaker (while_closing _ log.members log.flushed commands (g.met.S.Shelf.is_shelf c.args.shelf.now) h holds) wrote.any_moment

pub returns-then-not-has_any-clause-none_later : goal.returns-then-not-has_any-clause-none_later
returns-then-not-has_any-clause-none_later g c h commands keeps holds =
    let log = c.args.self.now in
    let wrote = rw (← keeps.count) at (c.close.ensures.ran.on.writes h) in
    weaker (none_while_closing _ log.members log.flushed commands (g.met.S.Shelf.is_shelf c.args.shelf.now) h holds) wrote.any_moment

pub returns-clause-any_moment : goal.returns-clause-any_moment
returns-clause-any_moment g c h commands keeps holds =
    let log = c.args.self.now in
    let wrote = rw (← keeps.count) at (c.close.ensures.ran.on.writes h) in
    weaker (while_closing _ log.members log.flushed commands (g.met.S.Shelf.is_shelf c.args.shelf.now) h holds) wrote.any_moment

pub returns-clause-none_later : goal.returns-clause-none_later
returns-clause-none_later g c h commands keeps holds =
    let log = c.args.self.now in
    let wrote = rw (← keeps.count) at (c.close.ensures.ran.on.writes h) in
    weaker (none_while_closing _ log.members log.flushed commands (g.met.S.Shelf.is_shelf c.args.shelf.now) h holds) wrote.any_moment
