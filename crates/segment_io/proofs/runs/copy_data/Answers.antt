use Rattle.segment_io.proofs.Prelude.{rules, ◌≡◌, ◌+◌, ◌-◌, ◌/◌, ◌%◌, take, drop, sym, ◌∙◌, ap, arith, bytes_at, shard_of}
use Rattle.segment_io.proofs.Pieces.{one_piece}
use Rattle.segment_io.proofs.runs.copy_data.Goals as goal

pub loop-done-init : goal.loop-done-init
loop-done-init c = record { within = omega arith; holds = λ i lt. absurd (omega (arith, lt)) }

pub loop-done-preserved : goal.loop-done-preserved
loop-done-preserved c =
    let inv = c.loop-done.invariant in
    let done = c.loop-done.done in
    let size = c.min-size.result in
    let at = c.args.offset + done in
    let part = shard_of c.args.shards.now (at / 4096) in
    let all : size ≡ at % 4096 + size - at % 4096 = omega arith in
    let copied : c.copy_from_slice.new.self ≡ take (at % 4096 + size - at % 4096) (drop (at % 4096) part) = search rules in
    let holds : c.copy_from_slice.new.self ≡ bytes_at (at % 4096) size part = copied ∙ sym (ap (λ k. take k (drop (at % 4096) part)) all) in
    record {
      within = omega arith;
      holds = one_piece c.args.shards.now c.args.offset done size _ c.loop-done.into c.copy_from_slice.new.self inv.holds (omega arith) (omega arith) (omega arith) holds;
    }

pub returns : goal.returns
returns c i lt = c.loop-done.invariant.holds i (omega (arith, lt, c.loop-done-test.false))
