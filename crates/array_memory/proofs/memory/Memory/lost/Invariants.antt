use Rattle.array_memory.proofs.Prelude.{◌≡◌, ℕ, ◌<◌, ◌≤◌, AllPairs, Contains, length, get_or, map, take, SegmentFact, facts_in, is_hidden, unnamed}
use Rattle.array_memory.proofs.memory.Memory.lost.Given as goal

abbrev pub invariant-loop-i : goal.invariant-loop-i
invariant-loop-i l = record {
  ascending : AllPairs (λ a b. a < b) l.ids.items;
  below : (id j : ℕ) (d : SegmentFact) → Contains l.ids.items id → l.i ≤ j → j < length l.segments → id < (get_or l.segments j d).segment.0;
  unnamed : unnamed (facts_in l.fn.self.memory.tables.addresses) (is_hidden l.elided) l.ids.items ≡ unnamed (facts_in l.fn.self.memory.tables.addresses) (is_hidden l.elided) (map (λ (d : SegmentFact). d.segment.0) (take l.i l.segments));
}
