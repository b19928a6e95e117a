use Rattle.array_engine.proofs.Prelude.{◌≡◌, ◌+◌, ◌-◌, ◌*◌, length, take, drop, ap, ◌∙◌, arith, length-drop, on_ok_weaker, LINE_ROOM}
use Rattle.session_spec.specs.Prelude.{sectors_in}
use Rattle.std.proofs.lemmas.List.{length-take-le}
use Rattle.array_engine.proofs.DataReplies.{sectors_put}
use Rattle.array_engine.proofs.buffers.read_reply.Goals as goal

pub returns-clause-sectors : goal.returns-clause-sectors
returns-clause-sectors g c h =
    let bytes = c.args.reply.now in
    let part = c.read_span-result.new.out in
    let count = c.args.count in
    let size = LINE_ROOM + 512 * count - LINE_ROOM in
    let cut : length (take size (drop LINE_ROOM bytes)) ≡ size = length-take-le size (drop LINE_ROOM bytes) (omega (arith, length-drop LINE_ROOM bytes, c.requires.there, c.requires.few)) in
    let long : length part ≡ size = c.read_span-result.auto.out ∙ cut in
    on_ok_weaker c.read_span-result.result
    (λ is contents array view reads shows stand. ap (sectors_in count) c.put_line.ensures.sectors ∙ sectors_put size count bytes part (omega (arith, c.requires.there)) (omega (arith, long)) ∙ is contents array view reads shows stand)
    (c.read_span-result.ensures.sectors h)
