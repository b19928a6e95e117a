use Rattle.std.proofs.Common.{rules}
use Rattle.log_codec.proofs.head.is_command.Goals as goal

pub returns-then-are_names : goal.returns-then-are_names
returns-then-are_names c =
    let names = c.are_names-in-Copy.ensures.0 c.if-are_names.true in
    let count = c.is_copied.ensures in
    rw c.in-Copy.is (λ copied. (names.0, search rules, names.1, search rules, (count.0 copied).0, (count.0 copied).1), λ is. count.1 (is.4, is.5))
