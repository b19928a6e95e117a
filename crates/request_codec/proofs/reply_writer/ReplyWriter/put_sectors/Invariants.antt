use Rattle.request_codec.proofs.Prelude.{◌+◌, ◌≤◌, length, ◌≡◌, ◌++◌, take, sectors_text, Went, well, Extends}
use Rattle.line_input.specs.declared.buffer.TheConstants.{BUFFER_BYTES}
use Rattle.request_codec.proofs.reply_writer.ReplyWriter.put_sectors.Given as goal

abbrev pub invariant-loop-sector : goal.invariant-loop-sector
invariant-loop-sector g l =
    let sink = g.K.Sink.sink in
    record {
      gave : (sink l.fn.sink).honest → (sink l.sink).bytes ++ l.self ≡ (sink l.fn.sink).bytes ++ l.fn.self ++ sectors_text (take l.sector-index l.sectors);
      gathered : length l.fn.self + length (sectors_text l.sectors) ≤ BUFFER_BYTES → (l.self ≡ l.fn.self ++ sectors_text (take l.sector-index l.sectors)) × (l.sink ≡ l.fn.sink);
      extends : (sink l.fn.sink).honest → Extends (sink l.fn.sink).bytes (sink l.sink).bytes;
      went : Went sink g.K.Sink.sink_rest well l.fn.sink l.sink;
    }
