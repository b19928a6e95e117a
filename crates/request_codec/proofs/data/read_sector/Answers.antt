use Rattle.request_codec.proofs.Prelude.{length, ap, arith, length-drop, tells-same}
use Rattle.request_codec.proofs.DataLemmas.{first-of}
use Rattle.request_codec.proofs.data.read_sector.Goals as goal

pub returns-then-pending-ge-SECTOR_BYTES-clause-told : goal.returns-then-pending-ge-SECTOR_BYTES-clause-told
returns-then-pending-ge-SECTOR_BYTES-clause-told g c =
    let pend = c.pending-pending.ensures in
    let first = first-of c.args.input.now.pending (g.S.Source.source c.args.source.now).bytes c.first_sector.result c.consume.new.self.pending
    (rw pend at c.if-pending-ge-SECTOR_BYTES.true) (rw pend at c.first_sector.ensures) c.consume.ensures.pending in
    λ t. (tells-same c.consume.ensures.ended t, (c.first_sector.result, first.len, first.split, c.push_reserved.ensures.items))

pub returns-then-pending-ge-SECTOR_BYTES-clause-budget : goal.returns-then-pending-ge-SECTOR_BYTES-clause-budget
returns-then-pending-ge-SECTOR_BYTES-clause-budget g c =
    rw c.consume.ensures.taken (omega (arith, ap length c.consume.ensures.pending, length-drop 512 c.args.input.now.pending))
