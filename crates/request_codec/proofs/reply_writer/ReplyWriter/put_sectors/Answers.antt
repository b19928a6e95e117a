use Rattle.request_codec.proofs.Prelude.{◌≡◌, ℕ, ◌++◌, List, true, false, take, sym, ap, ◌∙◌, append_assoc, err_from_is_err_and, sectors_text, went-on}
use Rattle.request_codec.proofs.WritingLemmas.{goes-sector, texts-more, sector-fits, extends-on}
use Rattle.request_codec.proofs.reply_writer.ReplyWriter.put_sectors.Goals as goal

pub loop-sector-preserved : goal.loop-sector-preserved
loop-sector-preserved g c =
    let inv = c.loop-sector.invariant in
    let bytes = c.as_bytes.ensures.bytes in
    let so_far = sectors_text (take c.loop-sector.sector-index c.args.sectors.now) in
    let more = texts-more c.args.sectors.now c.loop-sector.sector-index c.sector-item.result c.loop-sector-test.true c.sector-item.is in
    record {
      gave = λ h.
          let put = rw bytes at c.in_ok-put.ensures.gave (inv.went.honest.0 h) in
          put ∙ ap (λ (t : List ℕ). t ++ c.sector-item.result) (inv.gave h) ∙ append_assoc ((g.K.Sink.sink c.args.sink.now).bytes ++ c.args.self.now) so_far c.sector-item.result
          ∙ ap (λ (t : List ℕ). (g.K.Sink.sink c.args.sink.now).bytes ++ c.args.self.now ++ t) (sym more);
      gathered = λ h.
          let was = inv.gathered h in
          let fits = sector-fits c.args.self.now _ c.args.sectors.now c.loop-sector.sector-index c.sector-item.result _ c.loop-sector-test.true c.sector-item.is h was.0 in
          let put = (rw bytes at c.in_ok-put.ensures.gathered) fits in (
            put.1 ∙ ap (λ (t : List ℕ). t ++ c.sector-item.result) was.0 ∙ append_assoc c.args.self.now so_far c.sector-item.result ∙ ap (λ (t : List ℕ). c.args.self.now ++ t) (sym more),
            put.2 ∙ was.1,
          );
      extends = λ h. extends-on _ _ _ (inv.extends h) (c.in_ok-put.ensures.extends (inv.went.honest.0 h));
      went = went-on g.met.K.Sink.sink_rest_stays inv.went c.in_ok-put.ensures.went;
    }

pub returns-in_err-put-clause-gathered : goal.returns-in_err-put-clause-gathered
returns-in_err-put-clause-gathered g c = λ h.
    let inv = c.loop-sector.invariant in
    let fits = sector-fits c.args.self.now _ c.args.sectors.now c.loop-sector.sector-index c.sector-item.result _ c.loop-sector-test.true c.sector-item.is h (inv.gathered h).0 in
    let put = (rw c.as_bytes.ensures.bytes at c.in_err-put.ensures.gathered) fits in
    let no : false ≡ true = put.0 in
    cc

pub returns-in_err-put-clause-gave : goal.returns-in_err-put-clause-gave
returns-in_err-put-clause-gave g c =
    let p = err_from_is_err_and c.from_residual.result c.from_residual.ensures.1 in rw p.1 (λ h.
    let inv = c.loop-sector.invariant in
    let cut = c.in_err-put.ensures.gave (inv.went.honest.0 h) in
    goes-sector p.0 _ _ _ _ _ _ c.args.sectors.now c.loop-sector.sector-index c.sector-item.result c.loop-sector-test.true c.sector-item.is (inv.gave h) (inv.extends h) (rw c.as_bytes.ensures.bytes at cut))
