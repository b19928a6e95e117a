use Rattle.medium_table.proofs.Prelude.{◌↔◌, get_or, arith, Contains, Contains-get_or, MediumFact, is_within, facts_in, IsVisible}
use Rattle.std.proofs.lemmas.Result.{IfOk-weaker}
use Rattle.medium_table.proofs.MarkLemmas.{rising_mediums}
use Rattle.medium_table.proofs.ReachLemmas.{same_reached}
use Rattle.medium_table.proofs.table.MediumTable.reachable.Goals as goal

pub reached-requires-clause-rise : goal.reached-requires-clause-rise
reached-requires-clause-rise c = rw c.deref.ensures.value (rising_mediums c.in_ok-ranges.ranges.items c.in_ok-ranges.ensures.ascends (λ k d l.
    c.requires.descending.starts (get_or c.in_ok-ranges.ranges.items k d) ((c.in_ok-ranges.ensures.facts (get_or c.in_ok-ranges.ranges.items k d)).0 (Contains-get_or c.in_ok-ranges.ranges.items k d l)).2))

pub reached-requires-clause-down : goal.reached-requires-clause-down
reached-requires-clause-down c = rw c.deref.ensures.value (λ k d l.
    c.requires.descending.down (get_or c.in_ok-ranges.ranges.items k d) ((c.in_ok-ranges.ensures.facts (get_or c.in_ok-ranges.ranges.items k d)).0 (Contains-get_or c.in_ok-ranges.ranges.items k d l)).2)

pub returns-clause-mediums : goal.returns-clause-mediums
returns-clause-mediums c =
    let seen = IsVisible (facts_in c.args.self.now.facts) (is_within c.args.elided.now) in
    let ranges = c.in_ok-ranges.ranges.items in
    let same : (r : MediumFact) → Contains ranges r ↔ seen r = λ r. (
      (λ h. ((c.in_ok-ranges.ensures.facts r).0 h).2),
      (λ v.
          let medium = c.requires.descending.mediums r v in
          let start = c.requires.descending.starts r v in
          (c.in_ok-ranges.ensures.facts r).1 (omega arith, omega (arith, medium, start), v)),
    ) in
    IfOk-weaker c.reached.result _ _ (λ v h m.
    let way = same_reached (Contains ranges) seen c.args.from.now m same in
    let is = h m in
    ((λ d. way.0 (is.0 d)), (λ d. is.1 (way.1 d)))) (rw c.deref.ensures.value at c.reached.ensures.mediums)
