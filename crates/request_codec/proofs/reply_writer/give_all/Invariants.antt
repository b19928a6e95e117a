use Rattle.request_codec.proofs.Prelude.{◌≡◌, ◌≤◌, ◌-◌, ◌++◌, length, take, Went, well}
use Rattle.request_codec.proofs.reply_writer.give_all.Given as goal

abbrev pub invariant-pieces : goal.invariant-pieces
invariant-pieces g l =
    let sink = g.K.Sink.sink in
    record {
      within : l.given ≤ length l.bytes;
      gave : (sink l.fn.sink).honest → (sink l.sink).bytes ≡ (sink l.fn.sink).bytes ++ take l.given l.bytes;
      went : Went sink g.K.Sink.sink_rest well l.fn.sink l.sink;
    }

abbrev pub decreases-pieces : goal.decreases-pieces
decreases-pieces g l = length l.bytes - l.given
