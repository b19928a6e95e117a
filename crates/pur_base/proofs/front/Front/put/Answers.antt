use Rattle.std.proofs.Common.{length, ap, arith, length-take}
use Rattle.pur_base.proofs.FrontLemmas.{padded_by}
use Rattle.pur_base.proofs.front.Front.put.Goals as goal

pub invariant_of-self : goal.invariant_of-self
invariant_of-self g c =
    rw c.copy_from_slice.ensures.after (padded_by g.row.N c.self.inside.bytes c.args.field.now c.self.inside.len c.self.invariant
    (omega (arith, ap length c.self.view_is, length-take c.self.inside.len c.self.inside.bytes, c.self.invariant.within, c.self.invariant.size)))
