use Rattle.pyramid.proofs.Prelude.{arith}
use Rattle.pyramid.proofs.pyramid.Pyramid.from_patches.Goals as goal

pub invariant_of-result : goal.invariant_of-result
invariant_of-result g c =
    rw c.new.ensures.items (record {
      ascend = rw c.deref.ensures.value at c.all_ascend.ensures;
      ordered = λ i j d low l. absurd (omega (arith, l));
      rises = c.requires;
    })
