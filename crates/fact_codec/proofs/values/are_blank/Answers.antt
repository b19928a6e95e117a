use Rattle.fact_codec.proofs.Prelude.{◌≡◌, length, ap, ◌∙◌, take-replicate, zeros}
use Rattle.std.specs.Cmp.Lexicographic.{bytes_decides}
use Rattle.std.specs.Str.{bytes_eq}
use Rattle.fact_codec.proofs.values.are_blank.Goals as goal

pub returns : goal.returns
returns c =
    let bytes = c.args.bytes.now in
    let is : c.eq.result ≡ bytes_eq bytes (zeros (length bytes)) = c.eq.ensures ∙ ap (bytes_eq bytes) (take-replicate (length bytes) 32 0 c.requires) in
    rw is (bytes_decides bytes (zeros (length bytes)))
