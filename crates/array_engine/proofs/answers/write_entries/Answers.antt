use Rattle.array_engine.proofs.Prelude.{◌<◌, length, arith, err_from_is_err_and, went-on}
use Rattle.request_codec.proofs.WritingLemmas.{extends-on}
use Rattle.array_engine.proofs.ReplyLemmas.{entries-cut, entry-went}
use Rattle.array_engine.proofs.answers.write_entries.Goals as goal

pub returns-in_err-write_entry_at-clause-gave : goal.returns-in_err-write_entry_at-clause-gave
returns-in_err-write_entry_at-clause-gave g c =
    let p = err_from_is_err_and c.from_residual.result c.from_residual.ensures.1 in rw p.1 (λ h contents array reads.
    let inv = c.loop-index.invariant in
    let lt : c.loop-index.index < length array = omega (arith, c.len-index-end.ensures.array contents array reads) in
    let cut = c.in_err-write_entry_at.ensures.gave (inv.went.honest.0 h) contents array reads lt in
    entries-cut p.0 _ _ _ _ _ _ array c.loop-index.index (inv.gave h contents array reads) (inv.extends h) cut)

pub loop-index-preserved : goal.loop-index-preserved
loop-index-preserved g c =
    let inv = c.loop-index.invariant in
    let one = c.in_ok-write_entry_at.ensures in
    let sink = g.K.Sink.sink in
    record {
      gave = λ h contents array reads.
          let lt : c.loop-index.index < length array = omega (arith, c.len-index-end.ensures.array contents array reads) in
          entry-went (sink c.args.sink.now).bytes c.args.writer.now (sink c.loop-index.sink).bytes c.loop-index.writer (sink c.write_entry_at.new.sink).bytes c.write_entry_at.new.writer array c.loop-index.index (inv.gave h contents array reads)
          (one.gave (inv.went.honest.0 h) contents array reads lt);
      extends = λ h. extends-on _ _ _ (inv.extends h) (one.extends (inv.went.honest.0 h));
      went = went-on g.met.K.Sink.sink_rest_stays inv.went one.went;
    }
