use Rattle.pyramid.proofs.Prelude.{◌≡◌, ◌≢◌, ◌+◌, ◌-◌, ◌<◌, ◌≤◌, ◌∙◌, sym, arith, length, get_or, take, Contains, subst, length-take-le, false≢true, get_or_default, IsBefore, ascends_ordered}
use Rattle.pyramid.proofs.WeaveLemmas.{move_left, move_right, woven, taken_at, front_before, not_behind}
use Rattle.pyramid.proofs.insert.merge_back.Goals.{else-i-gt0-via-then-i-gt0+else-is_before, else-i-gt0-via-else-i-gt0}
use Rattle.pyramid.proofs.insert.merge_back.Goals as goal

pub loop-j-preserved-then-is_before : goal.loop-j-preserved-then-is_before
loop-j-preserved-then-is_before g c =
    let key = g.F.Fact.key in
    let number = g.F.Fact.number in
    let size : length c.loop-j.facts ≡ length c.args.facts.now = omega arith in
    let long : length (take c.args.len c.args.facts.now) ≡ c.args.len = length-take-le c.args.len c.args.facts.now (omega (arith, c.requires.size)) in
    let le : c.loop-j.i ≤ length (take c.args.len c.args.facts.now) = omega (arith, long, c.loop-j.invariant.i) in
    let is : c.index-facts-i-then-is_before.result ≡ get_or (take c.args.len c.args.facts.now) (c.loop-j.i - 1) c.index-facts-i-then-is_before.result =
    taken_at key number c.loop-j.facts (take c.args.len c.args.facts.now) c.loop-j.i (c.loop-j.i - 1) c.index-facts-i-then-is_before.result (omega (arith, c.if-i-gt0.true)) c.loop-j.invariant.front c.index-facts-i-then-is_before.is in
    let fits : c.loop-j.i - 1 < length c.loop-j.facts = omega (arith, size, c.requires.size, c.if-i-gt0.true, c.loop-j.invariant.i, c.loop-j.invariant.j, c.loop-j-test.true) in
    let one : get_or c.loop-j.facts (c.loop-j.i - 1) c.index-facts-i.result ≡ c.index-facts-i-then-is_before.result =
    get_or_default c.loop-j.facts (c.loop-j.i - 1) c.index-facts-i.result c.index-facts-i-then-is_before.result fits ∙ sym c.index-facts-i-then-is_before.is in
    let before : IsBefore key number c.index-run-j.result c.index-facts-i-then-is_before.result =
    subst (λ (z : g.row.F.Denot). IsBefore g.F.Fact.key g.F.Fact.number c.index-run-j.result z) one (c.is_before.ensures.0 c.if-is_before.true) in
    let moved = move_left key number c.loop-j.facts (take c.args.len c.args.facts.now) c.args.run.now c.loop-j.i (c.loop-j.i - 1) c.loop-j.j (c.loop-j.i + c.loop-j.j - 1) c.index-facts-i-then-is_before.result
    (omega (arith, c.if-i-gt0.true)) (omega (arith, c.if-i-gt0.true)) (omega (arith, size, c.requires.size, c.if-i-gt0.true, c.loop-j.invariant.i, c.loop-j.invariant.j, c.loop-j-test.true)) le c.requires.ordered
    c.loop-j.invariant.front c.loop-j.invariant.woven is
    (front_before key number c.args.run.now c.loop-j.j (c.loop-j.j - 1) c.index-run-j.result c.index-facts-i-then-is_before.result (ascends_ordered key number c.args.run.now c.requires.ascends)
    (omega (arith, c.loop-j-test.true)) c.loop-j.invariant.j c.index-run-j.is before) in
    record {
      i = omega (arith, c.loop-j.invariant.i);
      j = c.loop-j.invariant.j;
      front = moved.0;
      woven = moved.1;
    }

pub loop-j-preserved : goal.loop-j-preserved
loop-j-preserved g c =
    let key = g.F.Fact.key in
    let number = g.F.Fact.number in
    let size : length c.loop-j.facts ≡ length c.args.facts.now = omega arith in
    let long : length (take c.args.len c.args.facts.now) ≡ c.args.len = length-take-le c.args.len c.args.facts.now (omega (arith, c.requires.size)) in
    let le : c.loop-j.i ≤ length (take c.args.len c.args.facts.now) = omega (arith, long, c.loop-j.invariant.i) in
    let left : (f : g.row.F.Denot) → Contains (take c.loop-j.i (take c.args.len c.args.facts.now)) f → IsBefore key number f c.index-run-j.result =
    elim c.else-i-gt0.branch [
      | else-i-gt0-via-then-i-gt0+else-is_before w ↦
          let is : w.index-facts-i.result ≡ get_or (take c.args.len c.args.facts.now) (c.loop-j.i - 1) w.index-facts-i.result =
          taken_at key number c.loop-j.facts (take c.args.len c.args.facts.now) c.loop-j.i (c.loop-j.i - 1) w.index-facts-i.result (omega (arith, w.if-i-gt0.true)) c.loop-j.invariant.front w.index-facts-i.is in
          let apart : g.F.Fact.number c.index-run-j.result ≢ g.F.Fact.number w.index-facts-i.result = c.requires.fresh c.index-run-j.result w.index-facts-i.result
          (c.loop-j.j - 1, omega (arith, c.loop-j-test.true, c.loop-j.invariant.j), sym c.index-run-j.is)
          (c.loop-j.i - 1, omega (arith, le, w.if-i-gt0.true), sym is) in
          front_before key number (take c.args.len c.args.facts.now) c.loop-j.i (c.loop-j.i - 1) w.index-facts-i.result c.index-run-j.result c.requires.ordered (omega (arith, w.if-i-gt0.true)) le is
          (not_behind key number c.index-run-j.result w.index-facts-i.result (λ h. absurd (false≢true (w.if-is_before.ensures.1 (subst (λ (z : g.row.F.Denot). IsBefore g.F.Fact.key g.F.Fact.number c.index-run-j.result z) w.index-facts-i.is h)))) apart)
      | else-i-gt0-via-else-i-gt0 w ↦ λ f d. absurd (omega (arith, d.1, w.if-i-gt0.false, length-take-le c.loop-j.i (take c.args.len c.args.facts.now) le))
    ] in
    let moved = move_right key number c.loop-j.facts (take c.args.len c.args.facts.now) c.args.run.now c.loop-j.i c.loop-j.j (c.loop-j.j - 1) (c.loop-j.i + c.loop-j.j - 1) c.index-run-j.result
    (omega (arith, c.loop-j-test.true)) (omega (arith, c.loop-j-test.true)) (omega (arith, size, c.requires.size, c.loop-j.invariant.i, c.loop-j.invariant.j, c.loop-j-test.true)) c.loop-j.invariant.j
    (ascends_ordered key number c.args.run.now c.requires.ascends) c.loop-j.invariant.front c.loop-j.invariant.woven c.index-run-j.is left in
    record {
      i = c.loop-j.invariant.i;
      j = omega (arith, c.loop-j.invariant.j);
      front = moved.0;
      woven = moved.1;
    }

pub returns-clause-ordered : goal.returns-clause-ordered
returns-clause-ordered g c = (woven g.F.Fact.key g.F.Fact.number c.loop-j.facts (take c.args.len c.args.facts.now) c.args.run.now c.loop-j.i c.loop-j.j (omega (arith, c.loop-j-test.false)) c.requires.ordered
    c.loop-j.invariant.front c.loop-j.invariant.woven).0

pub returns-clause-facts : goal.returns-clause-facts
returns-clause-facts g c = (woven g.F.Fact.key g.F.Fact.number c.loop-j.facts (take c.args.len c.args.facts.now) c.args.run.now c.loop-j.i c.loop-j.j (omega (arith, c.loop-j-test.false)) c.requires.ordered
    c.loop-j.invariant.front c.loop-j.invariant.woven).1
