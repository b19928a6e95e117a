use Rattle.lower_tests.proofs.Prelude.{◌<◌, [], ◌∷◌, ◌∙◌, arith, is_within, facts_in}
use Rattle.lower_tests.proofs.OneRangeLemmas.{all_taken, first_number, first_range, one_descending, one_disjoint}
use Rattle.lower_tests.proofs.mediums.range_is_found_and_cut.Goals as goal

pub is_over_its_sectors-requires : goal.is_over_its_sectors-requires
is_over_its_sectors-requires c =
    one_disjoint (facts_in c.over.new.self.facts) (is_within []) first_range (λ m s. rw (c.in-Ok.ensures.0, c.in-Ok.ensures.1) at (c.in-Ok-over.ensures.says (is_within []) m s)) 7 (omega arith)

pub is_reached-requires : goal.is_reached-requires
is_reached-requires c =
    one_descending (facts_in c.over.new.self.facts) (is_within []) first_range (λ m s. rw (c.in-Ok.ensures.0, c.in-Ok.ensures.1) at (c.in-Ok-over.ensures.says (is_within []) m s)) (omega arith) (omega arith) (omega arith)

pub loses_its_front-requires : goal.loses_its_front-requires
loses_its_front-requires c =
    all_taken (λ f. f.seq.0 < 11) c.over.new.self.facts.patches c.over.new.self.facts.unflushed c.in-Ok.table.facts.unflushed (first_range ∷ []) (c.in-Ok-over.ensures.patches ∙ c.in-Ok.ensures.0) c.in-Ok.ensures.1 c.in-Ok-over.ensures.facts first_number
