use Rattle.array_memory.proofs.Prelude.{rules, ◌≡◌, ℕ, ap, ◌∙◌, arith, common_steps, address_facts, targets_from, run_next, run_ascends}
use Rattle.array_memory.proofs.memory.Memory.put.Goals as goal

pub give-requires-clause-next : goal.give-requires-clause-next
give-requires-clause-next c =
    let is : c.write_run.new.run ≡ address_facts c.args.medium.0 c.args.first c.self.inside.next.sequence (targets_from c.args.staged 0 c.args.count) =
    c.write_run.ensures ∙ ap (λ (n : ℕ). address_facts c.args.medium.0 c.args.first c.self.inside.next.sequence (targets_from c.args.staged 0 n)) (first_of (search rules, grind (arith, common_steps))) in
    rw (is, ← c.self.view_is) (run_next c.self.inside.next c.args.medium.0 c.args.first (targets_from c.args.staged 0 c.args.count) (rw (← c.self.view_is) at c.requires.medium))

pub give-requires-clause-ascends : goal.give-requires-clause-ascends
give-requires-clause-ascends c = rw c.write_run.ensures (run_ascends c.args.medium.0 c.args.first c.self.inside.next.sequence _)

pub returns-clause-addresses : goal.returns-clause-addresses
returns-clause-addresses c =
    let is : c.write_run.new.run ≡ address_facts c.args.medium.0 c.args.first c.self.inside.next.sequence (targets_from c.args.staged 0 c.args.count) =
    c.write_run.ensures ∙ ap (λ (n : ℕ). address_facts c.args.medium.0 c.args.first c.self.inside.next.sequence (targets_from c.args.staged 0 n)) (first_of (search rules, grind (arith, common_steps))) in
    rw (← c.self.view_is) (rw (← c.self.view_is) at (rw is at c.give.ensures.addresses))
