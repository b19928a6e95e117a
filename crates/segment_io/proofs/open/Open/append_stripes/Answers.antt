use Rattle.segment_io.proofs.Prelude.{◌≡◌, ℕ, ◌+◌, inl, length, refl, subst, arith, shard_of, bytes_of, UnitsHold, shards_in}
use Rattle.segment_io.proofs.Kept.{stripe_stays}
use Rattle.segment_io.proofs.open.Open.append_stripes.Goals as goal

pub returns-clause-stand : goal.returns-clause-stand
returns-clause-stand g c h number lt =
    let stripes = c.args.self.now.stripes in
    let shards = shards_in c.args.stripes.now c.encode_run.new.p c.encode_run.new.q number in
    let next : stripes + 1 + number ≡ stripes + number + 1 = omega arith in (
      shards,
      (shard_of c.encode_run.new.p number, shard_of c.encode_run.new.q number, refl),
      record {
        codeword = c.encode_run.ensures number lt;
        units = subst (λ (n : ℕ). UnitsHold (bytes_of (g.S.Shelf.shelf c.write_run.new.shelf)) c.args.self.now.places c.write_run.new.lost.drives n (shard_of shards)) next (c.write_run.ensures.written h number lt);
      },
    )

pub returns-clause-kept : goal.returns-clause-kept
returns-clause-kept g c h earlier shards before holds =
    stripe_stays _ _ c.args.self.now.places (c.args.self.now.stripes + 1) (length c.args.stripes.now) earlier c.args.self.now.lost.drives c.write_run.new.lost.drives shards c.requires.places (inl (omega (arith, before)))
    c.write_run.ensures.lost (c.write_run.ensures.ran.on.writes h) holds
