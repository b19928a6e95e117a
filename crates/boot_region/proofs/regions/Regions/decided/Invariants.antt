use Rattle.boot_region.proofs.Prelude.{◌≡◌, ◌<◌, ℕ, List, Some, IsDecided, slot_in, vote_of, all_votes}
use Rattle.boot_region.proofs.regions.Regions.decided.Given as goal

abbrev pub invariant-loop-drive : goal.invariant-loop-drive
invariant-loop-drive l = (k : ℕ) (body : List ℕ) → k < l.drive
    → vote_of l.self.bytes.items l.self.answered.items (slot_in l.slot) k ≡ Some body
    → IsDecided (all_votes l.self.bytes.items l.self.answered.items (slot_in l.slot)) body → ⊥
