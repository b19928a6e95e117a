use Rattle.address_table.proofs.Prelude.{◌≡◌, ◌++◌, sym, ap, ◌∙◌, filter, filter-append, is_within, facts_in, facts_of, is_pointing}
use Rattle.address_table.proofs.PointingLemmas.{pointing, pointing_once}
use Rattle.address_table.proofs.table.AddressTable.pointing_to.Goals as goal

pub returns-clause-facts : goal.returns-clause-facts
returns-clause-facts c =
    let t = c.args.self.now.facts in
    let p = is_pointing (facts_in t) (is_within c.args.elided.now) c.args.segment.0 in
    let is : filter p (facts_of t.patches ++ t.unflushed) ≡ c.push_pointing.new.found.items = filter-append p (facts_of t.patches) t.unflushed
    ∙ ap (λ l. l ++ filter p t.unflushed) (sym c.in_ok-found.ensures) ∙ ap (λ l. c.in_ok-found.found.items ++ filter p l) (sym c.unflushed.ensures) ∙ sym c.in_ok-push_pointing.ensures in
    rw (← is) (pointing t.patches t.unflushed (is_within c.args.elided.now) c.args.segment.0 c.layers.ensures)

pub returns-clause-once : goal.returns-clause-once
returns-clause-once c =
    let t = c.args.self.now.facts in
    let p = is_pointing (facts_in t) (is_within c.args.elided.now) c.args.segment.0 in
    let is : filter p (facts_of t.patches ++ t.unflushed) ≡ c.push_pointing.new.found.items = filter-append p (facts_of t.patches) t.unflushed
    ∙ ap (λ l. l ++ filter p t.unflushed) (sym c.in_ok-found.ensures) ∙ ap (λ l. c.in_ok-found.found.items ++ filter p l) (sym c.unflushed.ensures) ∙ sym c.in_ok-push_pointing.ensures in
    rw (← is) (pointing_once t.patches t.unflushed (is_within c.args.elided.now) c.args.segment.0 c.layers.ensures)
