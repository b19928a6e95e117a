use Rattle.fact_codec.proofs.Prelude.{◌≡◌, ◌++◌, ◌∙◌, ap, List, ℕ, padded, FACT_BYTES, head_bytes, head_of, put_bytes}
use Rattle.fact_codec.proofs.ValueLemmas.{written}
use Rattle.fact_codec.proofs.writing.write_fact.Goals as goal

pub returns : goal.returns
returns c =
    let front : c.put_value.new.front ≡ head_bytes (head_of c.args.fact.now) ++ put_bytes c.args.fact.now = c.put_value.ensures.bytes ∙ ap (λ (x : List ℕ). x ++ put_bytes c.args.fact.now) (c.put_head.ensures.bytes ∙ ap (λ (x : List ℕ). x ++ head_bytes c.of.result) c.new-front.ensures.empty ∙ ap head_bytes c.of.ensures) in
    record {
      fact = record { lawful = c.requires; fits = c.put_value.ensures.fits };
      bytes = c.into_bytes.ensures ∙ ap (λ (x : List ℕ). padded FACT_BYTES x) front ∙ written c.args.fact.now c.requires;
    }
