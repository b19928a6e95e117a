use Rattle.segment_writer.proofs.Prelude.{◌≡◌, ◌*◌, ◌+◌, ◌-◌, length, ◌∙◌, ap, arith}
use Rattle.segment_writer.proofs.Filled.{put_here, put_elsewhere}
use Rattle.segment_writer.proofs.sectors.put_in_shard.Goals as goal

pub returns-clause-here : goal.returns-clause-here
returns-clause-here c =
    let at = 512 * c.args.number in
    let same = c.copy_from_slice.ensures.after ∙ c.as_bytes.ensures.bytes in
    put_here c.args.shard.now c.copy_from_slice.new.self at 512 (at + 512 - at) (omega arith) (ap length same ∙ c.as_bytes.ensures.len) (omega arith) ∙ same

pub returns-clause-others : goal.returns-clause-others
returns-clause-others c other lt ne =
    let at = 512 * c.args.number in
    let long : length c.copy_from_slice.new.self ≡ 512 = ap length (c.copy_from_slice.ensures.after ∙ c.as_bytes.ensures.bytes) ∙ c.as_bytes.ensures.len in
    put_elsewhere c.args.shard.now c.copy_from_slice.new.self at 512 (at + 512 - at) (omega arith) long (omega arith) (512 * other) (λ i from to low high. ne (omega (arith, from, to, low, high)))
