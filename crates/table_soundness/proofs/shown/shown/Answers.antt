use Rattle.table_soundness.proofs.Prelude.{rules, ◌≡◌, true, filter, stays, is_within, facts_of}
use Rattle.std.proofs.lemmas.Fn.{filter_same}
use Rattle.pyramid.proofs.SpanLemmas.{for_ok}
use Rattle.table_soundness.proofs.NewestLemmas.{shown_newest}
use Rattle.table_soundness.proofs.shown.shown.Goals as goal

pub returns-in-Held : goal.returns-in-Held
returns-in-Held g c =
    let found = rw c.in-Held.is at c.in_ok-facts.ensures in
    for_ok c.visible_of.result _ _ c.visible_of.ensures (λ v is. rw is (shown_newest g.F.Fact.key g.F.Fact.number g.F.Fact.empty (facts_of c.args.patches.now) c.in-Held.facts.now (is_within c.args.elided.now) found))

pub returns-in-Made : goal.returns-in-Made
returns-in-Made g c =
    let found = rw c.in-Made.is at c.in_ok-facts.ensures in
    let left : c.retain.new.self.items ≡ filter (stays g.F.Fact.key g.F.Fact.empty true (is_within c.args.elided.now)) c.in-Made.facts.items =
    filter_same _ (stays g.F.Fact.key g.F.Fact.empty true (is_within c.args.elided.now)) _ (λ x b f' k. search rules) _ _ c.retain.ensures.filtered in
    rw left (shown_newest g.F.Fact.key g.F.Fact.number g.F.Fact.empty (facts_of c.args.patches.now) c.in-Made.facts.items (is_within c.args.elided.now) found)
