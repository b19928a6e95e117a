use Rattle.takeover.proofs.Prelude.{◌∙◌, NvLog, DroppedCounted, IsFewer, IsReadFrom, IsSome, nvram, ran_then, ran_more, LeavesSome}
use Rattle.std.proofs.lemmas.Result.{IfOk-weaker}
use Rattle.nvram_log.specs.Prelude.{shown_by}
use Rattle.takeover.proofs.Running.{nvram_of}
use Rattle.takeover.proofs.Answered.{leaves_some, ok_both, read_more}
use Rattle.takeover.proofs.log.read_synced.Goals as goal

pub returns-clause-ran : goal.returns-clause-ran
returns-clause-ran g c = ran_then g.met.S.Shelf.shelf_rest_stays (ran_more (nvram_of c.args.nvrams) (λ d i w. w) c.sync_members.ensures.ran) c.read.ensures.ran

pub returns-clause-log : goal.returns-clause-log
returns-clause-log g c =
    let a = g.S.Shelf.shelf c.args.shelf.now in
    let m = g.S.Shelf.shelf c.sync_members.new.shelf in
    let b = g.S.Shelf.shelf c.read.new.shelf in
    IfOk-weaker c.read.result (λ (log : NvLog). IsReadFrom m.honest (shown_by b log.members) log) (λ (log : NvLog). IsReadFrom a.honest (shown_by b log.members) log)
    (λ log r. read_more m.honest a.honest (shown_by b log.members) log c.sync_members.ensures.ran.on.continues.honest r) c.read.ensures.log

pub returns-clause-members : goal.returns-clause-members
returns-clause-members g c =
    let a = g.S.Shelf.shelf c.args.shelf.now in
    let m = g.S.Shelf.shelf c.sync_members.new.shelf in
    let b = g.S.Shelf.shelf c.read.new.shelf in
    ok_both c.read.result (λ (log : NvLog). IsFewer c.sync_members.new.members log.members × IsSome log.members) (λ (log : NvLog). DroppedCounted m b c.sync_members.new.members log.members) (λ (log : NvLog). LeavesSome a b c.args.nvrams log.members)
    c.read.ensures.members c.read.ensures.dropped
    (λ log among dropped. leaves_some a m b c.args.nvrams c.sync_members.new.members log.members c.sync_members.ensures.ran.on.continues c.read.ensures.ran.on.continues c.sync_members.ensures.members among.0 among.1 dropped
    (λ n. c.read.ensures.looks (nvram n)))

pub returns-clause-still_clean : goal.returns-clause-still_clean
returns-clause-still_clean g c h d clean = (c.read.ensures.same (c.sync_members.ensures.ran.on.continues.honest h) d).dirty ∙ c.sync_members.ensures.still_clean h d clean
