use Rattle.shelf_look.proofs.Prelude.{arith, refl}
use Rattle.nvram_log.specs.lemmas.Recalled.{command_at}
use Rattle.shelf_look.proofs.Logs.{one_more, waits_more}
use Rattle.shelf_look.proofs.waiting.waiting_in.Goals as goal

-- each command of the log is read back
pub unreachable-requires : goal.unreachable-requires
unreachable-requires c =
    let has = c.requires.read in
    let at = command_at c.args.log.now has.0 c.loop-i.i has.1 (omega (arith, c.loop-i-test.true, c.count-i-end.ensures)) in
    c.in_default.ensures.read has.0 at.0 has.1 at.1

pub loop-i-init : goal.loop-i-init
loop-i-init c = record {
  creates = omega arith;
  writes = omega arith;
  fills = omega arith;
  zeroes = omega arith;
  snapshots = omega arith;
  clones = omega arith;
  copies = omega arith;
  destroys = omega arith;
  done = λ commands has. record { creates = refl; writes = refl; fills = refl; zeroes = refl; snapshots = refl; clones = refl; copies = refl; destroys = refl };
}

pub loop-i-preserved : goal.loop-i-preserved
loop-i-preserved c =
    let inv = c.loop-i.invariant in
    record {
      creates = one_more _ _ _ _ c.and-waiting.ensures.creates inv.creates;
      writes = one_more _ _ _ _ c.and-waiting.ensures.writes inv.writes;
      fills = one_more _ _ _ _ c.and-waiting.ensures.fills inv.fills;
      zeroes = one_more _ _ _ _ c.and-waiting.ensures.zeroes inv.zeroes;
      snapshots = one_more _ _ _ _ c.and-waiting.ensures.snapshots inv.snapshots;
      clones = one_more _ _ _ _ c.and-waiting.ensures.clones inv.clones;
      copies = one_more _ _ _ _ c.and-waiting.ensures.copies inv.copies;
      destroys = one_more _ _ _ _ c.and-waiting.ensures.destroys inv.destroys;
      done = λ commands has.
          let at = command_at c.args.log.now commands c.loop-i.i has (omega (arith, c.loop-i-test.true, c.count-i-end.ensures)) in
          let read = c.in-Some.ensures.read commands at.0 has at.1 in
          waits_more commands c.loop-i.i at.0 c.in-Some.logged.now.head.command c.loop-i.waiting c.and-waiting.result at.1 read.0.request c.and-waiting.ensures (inv.done commands has);
    }
