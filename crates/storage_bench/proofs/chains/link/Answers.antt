use Rattle.std.proofs.Common.{ℕ, ◌+◌, refl, arith}
use Rattle.pyramid.specs.Prelude.{MediumFact}
use Rattle.storage_bench.proofs.LinkLemmas.{link_newest, one_link_more}
use Rattle.storage_bench.proofs.chains.link.Goals as goal

-- the link of a number
abbrev link : ℕ → MediumFact
link n = record { medium = record { 0 = 9 + n + 1 }; start = 0; end = 64; target = record { 0 = 9 + n }; target_start = 0; seq = record { 0 = n } }

pub over-requires-clause-newest : goal.over-requires-clause-newest
over-requires-clause-newest c = link_newest c.args.number c.args.mediums.now.facts.patches c.args.mediums.now.facts.unflushed (link c.args.number) c.requires.links refl

pub returns : goal.returns
returns c =
    let few = c.requires.number in
    rw c.over.ensures.patches (one_link_more c.args.number c.args.mediums.now.facts.patches c.args.mediums.now.facts.unflushed (link c.args.number) c.requires.links refl c.over.new.self.facts.unflushed
    (record { start = refl; end = refl; medium = omega (arith, few); down = omega arith; target = refl }) c.in_ok-over.ensures.facts)
