use Rattle.array_memory.proofs.Prelude.{◌≡◌, ℕ, ◌<◌, length, get_or, take, None, list_any, is_some, facts_in, facts_of, is_hidden, names}
use Rattle.array_memory.proofs.memory.Memory.find.Given as goal

abbrev pub invariant-loop-patch : goal.invariant-loop-patch
invariant-loop-patch l = record {
  len : length l.found.items ≡ length l.ids;
  each : (i : ℕ) → i < length l.ids → is_some (get_or l.found.items i None) ≡ list_any (names (facts_in l.fn.self.memory.tables.addresses) (is_hidden l.elided) (get_or l.ids i 0)) (facts_of (take l.patch-index l.fn.self.memory.tables.addresses.patches));
}
