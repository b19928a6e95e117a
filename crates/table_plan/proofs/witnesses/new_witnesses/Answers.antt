use Rattle.table_plan.proofs.Prelude.{◌≡◌, ◌+◌, ◌<◌, ◌++◌, length, take, drop, arith, sym, ap, ◌∙◌, common_steps}
use Rattle.table_plan.proofs.WitnessLemmas.{last_more}
use Rattle.table_plan.proofs.witnesses.new_witnesses.Goals as goal

pub loop-fact-preserved : goal.loop-fact-preserved
loop-fact-preserved c =
    let found = c.loop-fact.found in
    let same : take found.len (c.note.new.found ++ drop (length c.note.new.found) found.items) ≡ c.note.new.found = grind (arith, common_steps) in
    rw same (record {
      len = grind (arith, common_steps);
      last = λ i l.
          let within : i < length c.deref_mut.result.now = omega (arith, l, ap length c.deref_mut.ensures.value, c.loop-fact.invariant.len) in
          let was = c.loop-fact.invariant.last i l in
          let now = rw (c.deref_mut.ensures.value, was) at (c.note.ensures i within) in
          now ∙ sym (last_more (c.args.first + i) c.args.facts.now c.loop-fact.fact-index _ c.loop-fact-test.true);
    })
