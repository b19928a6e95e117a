use Rattle.std.proofs.Common.{◌≡◌, ◌≤◌, ◌<◌, inl, inr, refl, sym, subst, arith}
use Rattle.session_spec.specs.Prelude.{Geometry, geometry_of}
use Rattle.register.proofs.Rounds.{same_shelf}
use Rattle.array_core.specs.Prelude.{IsArrayOf}
use Rattle.medium_flattener.proofs.Fronts.{it_fits, it_passes, nothing_taken, on_any}
use Rattle.medium_flattener.proofs.flattening.front_with_room.Goals as goal
use Rattle.medium_flattener.proofs.flattening.front_with_room.Goals.{in-Some, in-None}

pub returns-then-array-facts-le-BACKGROUND_FACTS-clause-goes : goal.returns-then-array-facts-le-BACKGROUND_FACTS-clause-goes
returns-then-array-facts-le-BACKGROUND_FACTS-clause-goes g c =
    let was = c.args.array.now in
    c.taking_in_goes_on.ensures was was c.requires.is_of (nothing_taken (geometry_of (g.S.Shelf.shelf c.args.shelf.now)) was c.requires.is_of)

pub returns-then-array-facts-le-BACKGROUND_FACTS-clause-cleared : goal.returns-then-array-facts-le-BACKGROUND_FACTS-clause-cleared
returns-then-array-facts-le-BACKGROUND_FACTS-clause-cleared g c =
    let was = c.args.array.now in
    inl (
      elim c.match-front.branch [
        | in-Some w ↦ it_fits was.memory.memory c.args.medium.0 was.background.facts w.in-Some.front (rw w.in-Some.is at c.front_of-front.ensures.some) c.match-front.facts (omega (arith, w.facts-is, w.facts-facts.ensures)) (omega (arith, c.if-array-facts-le-BACKGROUND_FACTS.true))
        | in-None w ↦ inl (rw w.in-None.is at c.front_of-front.ensures.none)
      ],
      refl,
    )

pub returns-in_err-checkpoint-clause-passes : goal.returns-in_err-checkpoint-clause-passes
returns-in_err-checkpoint-clause-passes g c =
    let was = c.args.array.now in
    on_any c.from_residual.result (elim c.match-front.branch [
      | in-Some w ↦ it_passes was.memory.memory c.args.medium.0 was.background.facts w.in-Some.front (rw w.in-Some.is at c.front_of-front.ensures.some) c.match-front.facts (omega (arith, w.facts-is, w.facts-facts.ensures)) (omega (arith, c.if-array-facts-le-BACKGROUND_FACTS.false))
      | in-None w ↦ absurd (let rested = c.requires.is_of.rested.0 in omega (arith, rested, w.facts-is, c.if-array-facts-le-BACKGROUND_FACTS.false))
    ])

pub returns-clause-cleared : goal.returns-clause-cleared
returns-clause-cleared g c =
    let was = c.args.array.now in
    let goes = c.in_ok-checkpoint.ensures.goes in
    inr (
      elim c.match-front.branch [
        | in-Some w ↦ it_passes was.memory.memory c.args.medium.0 was.background.facts w.in-Some.front (rw w.in-Some.is at c.front_of-front.ensures.some) c.match-front.facts (omega (arith, w.facts-is, w.facts-facts.ensures)) (omega (arith, c.if-array-facts-le-BACKGROUND_FACTS.false))
        | in-None w ↦ absurd (let rested = c.requires.is_of.rested.0 in omega (arith, rested, w.facts-is, c.if-array-facts-le-BACKGROUND_FACTS.false))
      ],
      subst (λ (s : Geometry). IsArrayOf s c.checkpoint.new.array) (sym (same_shelf goes.ran.continues)) goes.is_of,
      c.in_ok-checkpoint.ensures.flushed,
    )
