use Rattle.array_spec.proofs.Prelude.{refl, filled}
use Rattle.std.specs.Fmt.{digits}
use Rattle.array_spec.proofs.replies.worked_rows.Goals as goal

pub returns : goal.returns
unfolding digits filled
returns c = record {
  empty = refl;
  zeros = refl;
  fills = refl;
  zeroes = refl;
  refused_write = refl;
  cut = refl;
  syntax = refl;
  sizes = refl;
  copies = refl;
  snapshots = refl;
  clones = refl;
  destroyed = refl;
  later = refl;
  unknown = refl;
  unfinished = refl;
  acked = refl;
}
