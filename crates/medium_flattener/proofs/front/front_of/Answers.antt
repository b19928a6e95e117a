use Rattle.std.proofs.Common.{◌≡◌, ◌∙◌, ℕ, ◌<◌, ◌≤◌, Some, sym, subst, arith}
use Rattle.memory_spec.specs.Prelude.{facts, range}
use Rattle.medium_flattener.proofs.Fronts.{end_bounds, lowest_is}
use Rattle.medium_flattener.proofs.front.front_of.Goals as goal

pub end_of-until-requires-clause-order : goal.end_of-until-requires-clause-order
end_of-until-requires-clause-order c = (lowest_is c.args.memory.now.memory c.args.medium.0 c.in_ok-range.range c.requires.sound c.in_ok-range.ensures.some).1

pub end_of-until-requires-clause-within : goal.end_of-until-requires-clause-within
end_of-until-requires-clause-within c = (lowest_is c.args.memory.now.memory c.args.medium.0 c.in_ok-range.range c.requires.sound c.in_ok-range.ensures.some).2

pub owed-len-requires-clause-there : goal.owed-len-requires-clause-there
owed-len-requires-clause-there c =
    let r = c.in_ok-range.range in
    let is = lowest_is c.args.memory.now.memory c.args.medium.0 r c.requires.sound c.in_ok-range.ensures.some in
    subst (λ (n : ℕ). range (facts c.args.memory.now.memory.tables) n r.start ≡ Some r) (sym is.0) c.in_ok-range.ensures.some.there

pub owed-len-requires-clause-of_object : goal.owed-len-requires-clause-of_object
owed-len-requires-clause-of_object c =
    let is = lowest_is c.args.memory.now.memory c.args.medium.0 c.in_ok-range.range c.requires.sound c.in_ok-range.ensures.some in
    (c.requires.of_object.0, c.requires.of_object.1, c.requires.of_object.2 ∙ sym is.0)

pub owed-len-requires-clause-some : goal.owed-len-requires-clause-some
owed-len-requires-clause-some c =
    let r = c.in_ok-range.range in
    let is = lowest_is c.args.memory.now.memory c.args.medium.0 r c.requires.sound c.in_ok-range.ensures.some in
    let bounds = end_bounds r is.1 in
    omega (arith, bounds.0, c.from.ensures, c.end_of-until.ensures)
