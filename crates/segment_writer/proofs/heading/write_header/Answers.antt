use Rattle.segment_writer.proofs.Prelude.{List, sym, subst, ◌∙◌, Place, bytes_of, HoldsStripe}
use Rattle.segment_writer.proofs.Apart.{joined_lost, stripe_as}
use Rattle.segment_writer.proofs.heading.write_header.Goals as goal

pub returns-clause-kept : goal.returns-clause-kept
returns-clause-kept g c h stripe shards holds =
    let old = bytes_of (g.S.Shelf.shelf c.args.shelf.now) in
    let was = c.lose.new.self.lost.drives in
    let lost = c.args.lost.now.drives in
    let same = c.lose.ensures.same.2 ∙ c.requires.opened.places in
    let both = joined_lost c.args.opened.lost.drives was lost c.requires.opened.known c.lose.ensures.lost in
    subst (λ (ps : List Place). HoldsStripe (bytes_of (g.S.Shelf.shelf c.write_headers.new.shelf)) ps c.write_headers.result.1.drives stripe shards) same
    (c.write_headers.ensures.kept h stripe shards (subst (λ (ps : List Place). HoldsStripe old ps was stripe shards) (sym same) (stripe_as old c.args.header.now.places was lost stripe shards both holds)))
