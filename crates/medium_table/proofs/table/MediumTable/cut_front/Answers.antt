use Rattle.medium_table.proofs.Prelude.{◌≡◌, false, ap, ◌∙◌, ◌^◌, ◌<◌, arith, refl, is_within, facts_in, after_cut, cut_facts, said, IsLowest}
use Rattle.pyramid.proofs.DistinctLemmas.{from_ok}
use Rattle.medium_table.proofs.RangeLemmas.{one_lowest, taken_as, visible_medium, not_elided}
use Rattle.medium_table.proofs.table.MediumTable.cut_front.Goals as goal

pub returns-clause-says : goal.returns-clause-says
returns-clause-says c = λ r lowest.
    let old = facts_in c.args.self.now.facts in
    let elided = is_within c.args.elided.now in
    let found : IsLowest old elided c.args.medium.0 c.in-Some.range = c.in-Some.ensures.found in
    let same : c.in-Some.range ≡ r = one_lowest old elided c.args.medium.0 c.in-Some.range r found lowest in
    let start : c.in-Some.range.start < 2 ^ 64 = omega arith in
    let visible : elided c.in-Some.range.medium.0 ≡ false = ap elided (visible_medium old elided c.args.medium.0 c.in-Some.range c.in-Some.range.start found.there refl)
    ∙ not_elided old elided c.args.medium.0 c.in-Some.range.start c.in-Some.range start found.there in
    from_ok c.put_cut.result _ _ c.put_cut.ensures.says (λ h k. h elided k visible ∙ ap (λ t. after_cut c.in-Some.range t c.args.seq.0 (said old elided) k) c.from.ensures ∙ ap (λ x. after_cut x c.args.to c.args.seq.0 (said old elided) k) same)

pub returns-clause-facts : goal.returns-clause-facts
returns-clause-facts c = λ r lowest.
    let same : c.in-Some.range ≡ r = one_lowest (facts_in c.args.self.now.facts) (is_within c.args.elided.now) c.args.medium.0 c.in-Some.range r c.in-Some.ensures.found lowest in
    let is : cut_facts c.in-Some.range c.from.result c.args.seq.0 ≡ cut_facts r c.args.to c.args.seq.0 = ap (λ x. cut_facts x c.from.result c.args.seq.0) same ∙ ap (λ t. cut_facts r t c.args.seq.0) c.from.ensures in
    from_ok c.put_cut.result _ _ c.put_cut.ensures.facts (taken_as c.put_cut.new.self.facts.unflushed c.args.self.now.facts.unflushed (cut_facts c.in-Some.range c.from.result c.args.seq.0) (cut_facts r c.args.to c.args.seq.0) is)

pub returns-clause-room : goal.returns-clause-room
returns-clause-room c = λ r lowest room.
    let same : c.in-Some.range ≡ r = one_lowest (facts_in c.args.self.now.facts) (is_within c.args.elided.now) c.args.medium.0 c.in-Some.range r c.in-Some.ensures.found lowest in
    c.put_cut.ensures.room (rw (same, c.from.ensures) room)
