use Rattle.fact_codec.proofs.Prelude.{◌∙◌, append_assoc}
use Rattle.fact_codec.proofs.writing.put_medium.Goals as goal

pub returns-clause-bytes : goal.returns-clause-bytes
returns-clause-bytes c = c.put_u64-3.ensures.bytes ∙ rw (c.put_u64-2.ensures.bytes, c.put_u64.ensures.bytes) (simp append_assoc)
