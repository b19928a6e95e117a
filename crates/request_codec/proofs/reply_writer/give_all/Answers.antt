use Rattle.request_codec.proofs.Prelude.{◌-◌, length, drop, arith, length-take, length-drop, went-on}
use Rattle.request_codec.proofs.WritingLemmas.{give-more}
use Rattle.request_codec.proofs.reply_writer.give_all.Goals as goal

pub pieces-preserved : goal.pieces-preserved
pieces-preserved g c =
    let inv = c.pieces.invariant in
    record {
      within = omega (arith, inv.within, c.in_ok-count.ensures.within, length-take (length c.args.bytes.now - c.pieces.given) (drop c.pieces.given c.args.bytes.now), length-drop c.pieces.given c.args.bytes.now);
      gave = λ h. give-more _ _ _ c.args.bytes.now c.pieces.given c.in_ok-count.count (inv.gave h) (c.in_ok-count.ensures.given (inv.went.honest.0 h));
      went = went-on {says = c.in_ok-count.count} g.met.K.Sink.sink_rest_stays inv.went (record { honest = c.in_ok-count.ensures.honest; counts = c.in_ok-count.ensures.counts; rest = c.in_ok-count.ensures.rest });
    }
