use Rattle.request_codec.proofs.Prelude.{◌≡◌, ◌^◌, ◌<◌, take, digits_number}
use Rattle.request_codec.proofs.parse.number_from.Given as goal

abbrev pub invariant-loop-digit : goal.invariant-loop-digit
invariant-loop-digit l = record {
  value : l.number ≡ digits_number (take l.digit-index l.word);
  small : l.number < 10 ^ l.digit-index;
}
