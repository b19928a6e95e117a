use Rattle.table_plan.proofs.Prelude.{◌++◌, List, [], ◌∷◌, Some, None, sym, ap, ◌∙◌, append_assoc, append-nil, take, filter_map, Witness}
use Rattle.table_plan.proofs.WitnessLemmas.{found_more}
use Rattle.table_plan.proofs.witnesses.with_found.Goals as goal
use Rattle.table_plan.proofs.witnesses.with_found.Goals.{in-Some+in_ok-push, in_default}

pub loop-witness-preserved : goal.loop-witness-preserved
loop-witness-preserved c =
    let ws = c.args.witnesses.now in
    let found = c.args.found.now in
    let i = c.loop-witness.witness-index in
    let l = c.loop-witness-test.true in
    let so_far = filter_map (λ o. o) (take i found) in
    elim c.match-witness.branch [
      | in-Some+in_ok-push w ↦
          let one = w.in-Some.witness ∷ [] in
          rw (w.out-is, w.in_ok-push.ensures.items) (ap (λ (xs : List Witness). xs ++ one) c.loop-witness.invariant ∙ append_assoc ws so_far one
          ∙ ap (λ (xs : List Witness). ws ++ xs) (sym (found_more found i (Some w.in-Some.witness) l w.in-Some.is)))
      | in_default w ↦ rw w.out-is (c.loop-witness.invariant ∙ ap (λ (xs : List Witness). ws ++ xs) (sym (found_more found i None l w.in_default.is ∙ append-nil so_far)))
    ]
