use Rattle.array_engine.proofs.Prelude.{ap, arith, length, facts}
use Rattle.array_engine.proofs.Numbers.{few_segments}
use Rattle.array_engine.proofs.status.numbers_of.Goals as goal

-- there are no more segments than ids that were given
pub placed_in-requires : goal.placed_in-requires
placed_in-requires c =
    let m = c.args.array.now.memory.memory in
    omega (arith, ap length c.segments-segments.ensures.said, few_segments (facts m.tables) m.next.segment, c.requires.is_of.1.sound.next.segment)
