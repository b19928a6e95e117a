use Rattle.array_memory.proofs.Prelude.{◌≡◌, ℕ, ◌<◌, ◌||◌, length, get_or, take, None, list_any, is_some, facts_in, is_hidden, names}
use Rattle.array_memory.specs.Saying.{AreSaid}
use Rattle.array_memory.proofs.memory.Memory.find_among.Given as goal

abbrev pub invariant-loop-at : goal.invariant-loop-at
invariant-loop-at l = record {
  said : AreSaid (facts_in l.fn.self.memory.tables.addresses) (is_hidden l.elided) l.said;
  found : (i : ℕ) → i < length l.ids → is_some (get_or l.found i None) ≡ (is_some (get_or l.initial.found i None) || list_any (names (facts_in l.fn.self.memory.tables.addresses) (is_hidden l.elided) (get_or l.ids i 0)) (take l.at l.facts));
}
