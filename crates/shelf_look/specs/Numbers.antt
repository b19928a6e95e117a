-- The numbers of an array that can be opened, by the definitions that a status of it has.
use Rattle.std.specs.Prelude.{◌≡◌, ◌-◌, length}
use Rattle.session_spec.specs.Prelude.{patch_segments, LOG_SLOTS, facts, patches, set_count, HasGroups, segments_in, stored}
use Rattle.shelf_look.specs.declared.finding.Opening.{Opening}
use Rattle.shelf_look.specs.declared.numbers.Numbers.{Numbers}

-- The record's generation, devices and patches, the room that it leaves, the data segments, and the free slots of the log.
pub record AreNumbersOf (o : Opening) (n : Numbers) : Type 0 where
  pub generation : n.generation ≡ o.loaded.record.generation
  pub drives : n.drives ≡ set_count o.loaded.record.members.drives
  pub holding : n.holding ≡ set_count o.loaded.drives
  pub nvrams : n.nvrams ≡ set_count o.loaded.record.members.nvrams
  pub answering : n.answering ≡ set_count o.log.members
  pub groups : HasGroups o.loaded.record (patches o.memory.memory.tables) n.groups
  pub segments : n.segments ≡ length (segments_in o.memory.memory)
  pub placed : n.placed ≡ stored (facts o.memory.memory.tables) o.memory.memory.next.segment
  pub patch_segments : n.patch_segments ≡ patch_segments o.loaded.record.patches
  pub free_slots : n.free_slots ≡ LOG_SLOTS - o.log.count
