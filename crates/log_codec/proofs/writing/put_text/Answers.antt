use Rattle.std.proofs.Common.{length, ◌++◌, ap, ◌∙◌, append_assoc}
use Rattle.std.proofs.lemmas.List.{drop-replicate}
use Rattle.log_codec.proofs.writing.put_text.Goals as goal

pub returns-clause-bytes : goal.returns-clause-bytes
returns-clause-bytes c =
    let text = c.args.text.now in
    let front = c.args.front.now in
    c.put-2.ensures.bytes ∙ ap (λ x. x ++ c.split_at.result.1.now) c.put.ensures.bytes ∙ append_assoc front text c.split_at.result.1.now
    ∙ ap (λ x. front ++ (text ++ x)) (c.split_at.ensures.back ∙ drop-replicate (length text) 24 0)
