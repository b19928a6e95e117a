use Rattle.boot_region.proofs.Prelude.{ℕ, arith, ap, ◌∙◌, ◌%◌, SECTOR_BYTES, weaker, slot_in, body_low, body_aligned}
use Rattle.boot_region.proofs.Phases.{writes_bodies}
use Rattle.boot_region.proofs.gates.write_bodies.Goals as goal

pub write_members-requires-clause-fits : goal.write_members-requires-clause-fits
write_members-requires-clause-fits g c = omega (arith, c.requires.size, c.body.ensures, body_low (slot_in c.args.slot), (g.met.S.Shelf.is_shelf c.args.shelf.now).units.0)

pub write_members-requires-clause-aligned : goal.write_members-requires-clause-aligned
write_members-requires-clause-aligned g c = (ap (λ (n : ℕ). n % SECTOR_BYTES) c.body.ensures ∙ body_aligned (slot_in c.args.slot), ap (λ (n : ℕ). n % SECTOR_BYTES) c.requires.size)

pub returns-clause-outcome : goal.returns-clause-outcome
returns-clause-outcome g c d lt = rw c.body.ensures at (c.write_members.ensures.outcome d lt)

pub returns-clause-ran : goal.returns-clause-ran
returns-clause-ran g c = rw (c.body.ensures, c.requires.size) at c.write_members.ensures.ran

pub returns-clause-any_moment : goal.returns-clause-any_moment
returns-clause-any_moment g c h missing clean closed =
    weaker (λ stop left. writes_bodies c.args.members.now (g.S.Shelf.shelf c.args.shelf.now) stop missing (slot_in c.args.slot) (g.met.S.Shelf.is_shelf c.args.shelf.now) h left clean closed)
    ((returns-clause-ran g c).on.writes h).any_moment
