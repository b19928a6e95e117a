use Rattle.array_engine.proofs.Prelude.{ap, drop, take, ◌+◌, ◌-◌, ◌*◌, ◌∙◌, ℕ, List, LINE_ROOM}
use Rattle.array_engine.proofs.DataReplies.{data_text}
use Rattle.array_engine.proofs.buffers.ReadBuffers.reply.Goals as goal

pub returns : goal.returns
returns c =
    let start = c.args.self.now.start in
    let count = c.args.count in
    ap (λ (bytes : List ℕ). take (LINE_ROOM + 512 * count - start) (drop start bytes)) c.deref.ensures.value ∙ data_text c.args.self.now.reply.items start count c.requires
