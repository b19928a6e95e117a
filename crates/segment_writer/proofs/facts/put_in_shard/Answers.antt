use Rattle.segment_writer.proofs.Prelude.{◌≡◌, ◌*◌, ◌+◌, ◌-◌, length, ◌∙◌, ap, arith}
use Rattle.segment_writer.proofs.Filled.{put_here, put_elsewhere}
use Rattle.segment_writer.proofs.facts.put_in_shard.Goals as goal

pub returns-clause-here : goal.returns-clause-here
returns-clause-here c =
    let at = 64 * c.args.number in
    let same = c.copy_from_slice.ensures.after in
    put_here c.args.shard.now c.copy_from_slice.new.self at 64 (at + 64 - at) (omega arith) (ap length same ∙ c.told-text) (omega arith) ∙ same

pub returns-clause-others : goal.returns-clause-others
returns-clause-others c other lt ne =
    let at = 64 * c.args.number in
    let long : length c.copy_from_slice.new.self ≡ 64 = ap length c.copy_from_slice.ensures.after ∙ c.told-text in
    put_elsewhere c.args.shard.now c.copy_from_slice.new.self at 64 (at + 64 - at) (omega arith) long (omega arith) (64 * other) (λ i from to low high. ne (omega (arith, from, to, low, high)))
