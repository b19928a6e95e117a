use Rattle.segment_io.proofs.Prelude.{inr, arith}
use Rattle.segment_io.proofs.Kept.{stripe_stays}
use Rattle.segment_io.proofs.open.Open.write_headers.Goals as goal

pub returns-clause-kept : goal.returns-clause-kept
returns-clause-kept g c h stripe shards holds =
    stripe_stays _ _ c.args.self.places 0 1 stripe c.args.self.lost.drives c.write_each_header.new.lost.drives shards c.requires.places (inr (omega arith))
    c.write_each_header.ensures.lost (c.write_each_header.ensures.ran.on.writes h) holds
