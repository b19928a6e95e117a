use Rattle.table_soundness.proofs.Prelude.{◌≡◌, take, flat_map}
use Rattle.table_soundness.proofs.named.named_segments.Given as goal

abbrev pub invariant-loop-i : goal.invariant-loop-i
invariant-loop-i l = l.named.items ≡ flat_map (λ p. p.segments) (take l.i l.patches)
