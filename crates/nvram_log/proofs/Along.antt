-- The front of a slot is the text of a command.
use Rattle.nvram_log.proofs.Prelude.{◌≡◌, ◌∙◌, ℕ, ◌+◌, ◌*◌, ◌≤◌, List, length, take, drop, ap, take_at, Command, Written, Spells, slot_at, slot_bytes, slot_place}
use Rattle.std.proofs.Common.{take-take}
use Rattle.nvram_log.proofs.Staged.{at_range}
use Rattle.nvram_log.specs.lemmas.Heads.{length-slot}

-- what a slot spells is its front
pub front_of : (slot : List ℕ) (number : ℕ) (c : Command) → Spells slot number c → take (512 * (1 + length c.sectors)) slot ≡ slot_bytes number c
front_of slot number c spells = ap (take (512 * (1 + length c.sectors))) spells.text ∙ take_at (slot_bytes number c) spells.behind (512 * (1 + length c.sectors)) (length-slot number c spells.lawful)

-- the front of a slot is what was written to it
pub front_written : (i : ℕ) (body old new : List ℕ) → length body ≤ 33280 → Written (slot_place i) body old new → take (length body) (slot_at i new) ≡ body
front_written i body old new few written = take-take (length body) 33280 (drop (slot_place i) new) few ∙ at_range (slot_place i) (length body) new ∙ written.within
