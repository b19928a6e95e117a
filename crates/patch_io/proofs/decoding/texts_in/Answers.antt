use Rattle.patch_io.proofs.Prelude.{ap, arith, get_or, length, List, ℕ, ◌/◌, ◌∙◌}
use Rattle.std.proofs.Common.{get_or-take}
use Rattle.array_spec.specs.Prelude.{FACT_BYTES}
use Rattle.patch_io.proofs.Spelling.{chunk_at}
use Rattle.patch_io.proofs.decoding.texts_in.Goals as goal

pub returns-clause-texts : goal.returns-clause-texts
returns-clause-texts c = λ k other lt.
    let bytes = c.args.bytes.now in
    get_or-take c.args.count c.as_chunks.result.0.now k other lt
    ∙ ap (λ (texts : List (List ℕ)). get_or texts k other) c.as_chunks.ensures.front
    ∙ chunk_at FACT_BYTES (length bytes / FACT_BYTES) k bytes other (omega (arith, lt, c.requires))
