use Rattle.array_server.proofs.Prelude.{sym, ◌∙◌, string_bytes}
use Rattle.std.specs.Cmp.Lexicographic.{bytes_decides}
use Rattle.array_server.proofs.WordLemmas.{is-the-word, one-word}
use Rattle.array_server.proofs.command.is_only.Goals as goal

pub returns-then-words-eq1-clause-yes : goal.returns-then-words-eq1-clause-yes
returns-then-words-eq1-clause-yes c = λ yes.
    let text = (bytes_decides c.as_str.result.now c.args.word.now).0 (sym c.eq.ensures ∙ yes) in
    one-word (λ w. string_bytes w) c.args.words.now c.index-words-0.result c.args.word.now c.if-words-eq1.true c.index-words-0.is (sym c.as_str.ensures.value ∙ text)

pub returns-then-words-eq1-clause-no : goal.returns-then-words-eq1-clause-no
returns-then-words-eq1-clause-no c = λ other is.
    let text = is-the-word (λ w. string_bytes w) c.args.words.now c.index-words-0.result c.args.word.now c.index-words-0.is is in
    let same = (bytes_decides c.as_str.result.now c.args.word.now).1 (c.as_str.ensures.value ∙ text) in
    absurd (cc (same, c.eq.ensures, other))
