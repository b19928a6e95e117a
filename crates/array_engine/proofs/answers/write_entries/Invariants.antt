use Rattle.array_engine.proofs.Prelude.{◌≡◌, ◌++◌, take, entries_text, Contents, ReadsAs, Went, well, Extends}
use Rattle.session_spec.specs.Prelude.{Array}
use Rattle.array_engine.proofs.answers.write_entries.Given as goal

abbrev pub invariant-loop-index : goal.invariant-loop-index
invariant-loop-index g l =
    let sink = g.K.Sink.sink in
    record {
      gave : (sink l.fn.sink).honest → (contents : Contents) (array : Array) → ReadsAs contents l.memory.memory array → (sink l.sink).bytes ++ l.writer ≡ (sink l.fn.sink).bytes ++ l.fn.writer ++ entries_text (take l.index array);
      extends : (sink l.fn.sink).honest → Extends (sink l.fn.sink).bytes (sink l.sink).bytes;
      went : Went sink g.K.Sink.sink_rest well l.fn.sink l.sink;
    }
