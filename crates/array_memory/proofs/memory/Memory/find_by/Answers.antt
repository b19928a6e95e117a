use Rattle.array_memory.proofs.Prelude.{not, ap, ◌∙◌, arith, facts_in, is_hidden}
use Rattle.array_memory.proofs.NamedLemmas.{found_before, found_none, found_now}
use Rattle.array_memory.proofs.memory.Memory.find_by.Goals as goal

pub returns-then-is_none-clause-found : goal.returns-then-is_none-clause-found
returns-then-is_none-clause-found c =
    let there = c.in-Some.ensures.some in
    let addresses = facts_in c.args.self.now.memory.tables.addresses in
    let hidden = is_hidden c.args.elided.now in
    found_now addresses hidden c.args.fact.now c.args.ids.now c.requires.ascending c.args.found.now c.in-Some.place c.witness.result there.0 (omega (arith, there.0, c.requires.len)) there.1
    (c.is_none.ensures ∙ ap not c.if-is_none.true) (c.witness.ensures addresses hidden c.say.ensures.said)

pub returns-else-is_none-clause-found : goal.returns-else-is_none-clause-found
returns-else-is_none-clause-found c =
    let there = c.in-Some.ensures.some in
    found_before (facts_in c.args.self.now.memory.tables.addresses) (is_hidden c.args.elided.now) c.args.fact.now c.args.ids.now c.requires.ascending c.args.found.now c.in-Some.place there.0 there.1 (c.is_none.ensures ∙ ap not c.if-is_none.false)

pub returns-in_default-clause-found : goal.returns-in_default-clause-found
returns-in_default-clause-found c = λ i l. found_none (facts_in c.args.self.now.memory.tables.addresses) (is_hidden c.args.elided.now) c.args.fact.now c.args.ids.now c.requires.ascending i _ (c.in_default.ensures.none i l)
