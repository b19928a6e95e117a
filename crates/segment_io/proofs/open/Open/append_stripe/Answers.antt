use Rattle.segment_io.proofs.Prelude.{◌≡◌, ℕ, ◌+◌, List, subst, arith, bytes_of, stripe_in, IsStripeOf, HoldsStripe}
use Rattle.segment_io.proofs.open.Open.append_stripe.Goals as goal

pub returns-clause-stands : goal.returns-clause-stands
returns-clause-stands g c h =
    let only = c.append_stripes.ensures.stand h 0 (omega (arith, c.from_ref.ensures.len)) in
    let first : c.args.self.now.stripes + 0 ≡ c.args.self.now.stripes = omega arith in (
      only.0,
      subst (λ (l : List (List (List ℕ))). IsStripeOf (stripe_in l 0) only.0) c.from_ref.ensures.value only.1,
      subst (λ (n : ℕ). HoldsStripe (bytes_of (g.S.Shelf.shelf c.append_stripes.new.shelf)) c.append_stripes.new.self.places c.append_stripes.new.self.lost.drives n only.0) first only.2,
    )
