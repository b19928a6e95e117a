use Rattle.pyramid.specs.Prelude.{is_within, facts_in}
use Rattle.object_table.proofs.ObjectLemmas.{all_shown, shown_names, listed_map, named_map}
use Rattle.object_table.proofs.table.ObjectTable.from_facts.Goals as goal

pub by_name-requires : goal.by_name-requires
by_name-requires c =
    let shown = all_shown (facts_in c.args.facts) c.in_ok-visible.visible.items (is_within c.args.elided.now) c.in_ok-visible.ensures.ascends c.in_ok-visible.ensures.facts in
    rw c.deref.ensures.value (shown_names (facts_in c.args.facts) c.in_ok-visible.visible.items (is_within c.args.elided.now) shown c.requires.names)

pub invariant_of-result : goal.invariant_of-result
invariant_of-result c = rw (c.in_ok-named.ensures.entries, c.deref.ensures.value) (listed_map c.in_ok-visible.visible.items c.in_ok-visible.ensures.ascends)

pub returns-clause-visible : goal.returns-clause-visible
returns-clause-visible c =
    rw (c.in_ok-named.ensures.entries, c.deref.ensures.value, named_map c.in_ok-visible.visible.items)
    (all_shown (facts_in c.args.facts) c.in_ok-visible.visible.items (is_within c.args.elided.now) c.in_ok-visible.ensures.ascends c.in_ok-visible.ensures.facts)
