use Rattle.request_codec.proofs.Prelude.{◌≡◌, ◌≤◌, ◌+◌, ◌*◌, ◌++◌, length, take, codes, numbers_text}
use Rattle.request_codec.proofs.reply_lines.push_numbers.Given as goal

abbrev pub invariant-loop-number : goal.invariant-loop-number
invariant-loop-number l = record {
  text : l.line.items ≡ codes "status" ++ numbers_text (take l.number-index l.numbers);
  short : length l.line.items ≤ 6 + 21 * l.number-index;
}
