use Rattle.boot_codec.proofs.Prelude.{◌<◌, ◌%◌, ℕ, length, nat_eq, sym, ap, ◌∙◌, arith, length-set, flags}
use Rattle.boot_codec.proofs.FlagLemmas.{flags_go_on}
use Rattle.boot_codec.proofs.flags.set_flags.Goals as goal

pub loop-i-preserved : goal.loop-i-preserved
loop-i-preserved c =
    let lt : c.loop-i.i < length c.loop-i.into = omega arith in
    flags_go_on c.loop-i.into c.loop-i.i c.loop-i.left (flags (length c.loop-i.into) c.args.number) lt c.loop-i.invariant ∙ ap (λ (n : ℕ). flags n c.args.number) (sym (length-set c.loop-i.into c.loop-i.i (nat_eq (c.loop-i.left % 2) 1)))
