use Rattle.std.proofs.Common.{arith}
use Rattle.object_table.proofs.ObjectLemmas.{named_next}
use Rattle.object_table.proofs.named.by_name.Goals as goal

pub loop-object-preserved : goal.loop-object-preserved
loop-object-preserved c = record {
  entries = named_next c.args.objects.now c.loop-object.object-index c.object-item.result c.insert.new.self.entries c.loop-object.named.entries c.requires (omega (arith, c.loop-object-test.true, c.loop-object.auto.object-index-end)) c.object-item.is c.loop-object.invariant.entries c.in_ok-insert.ensures.entries;
  room = omega (arith, c.loop-object.invariant.room, c.in_ok-insert.ensures.spare);
}
