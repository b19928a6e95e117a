use Rattle.record_tables.proofs.Prelude.{◌≡◌, ◌+◌, ◌≤◌, nat_lt, length, take, count_by, tag_of, pair_segments, of_tag}
use Rattle.record_tables.proofs.joined.pair_of.Given as goal

abbrev pub invariant-loop-at : goal.invariant-loop-at
invariant-loop-at l = record {
  lower : l.lower ≡ count_by (λ p. nat_lt p.tag (tag_of l.fn.table)) (take l.at l.patches);
  own : l.own ≡ length (of_tag (tag_of l.fn.table) (take l.at l.patches));
  few : l.lower + l.own ≤ l.at;
  segments : l.segments ≡ pair_segments l.fn.table l.index (take l.at l.patches);
}
