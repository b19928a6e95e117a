-- The log that the NVRAM devices show, and the commands that wait in it.
use Rattle.std.specs.Prelude.{◌≡◌, ◌+◌, ◌<◌, ◌^◌, Bool, true, false, cond, List, count_by}
use Rattle.session_spec.specs.Prelude.{Command, Request, BootRecord, Shelved}
use Rattle.pur_base.specs.declared.request.Request.TheVariants as request
use Rattle.nvram_log.specs.declared.log.NvLog.{NvLog}
use Rattle.nvram_log.specs.Prelude.{shown_by, IsFewer, IsSome, DroppedCounted, IsReadFrom}
use Rattle.shelf_look.specs.declared.waiting.Waiting.{Waiting}

-- The log behind the commands that the record's tables hold, as the NVRAM devices show it that the record names. Each of them is a member, or a call on it failed.
pub record IsLogOf (old new : Shelved) (boot : BootRecord) (log : NvLog) : Type 0 where
  pub flushed : log.flushed ≡ boot.flushed
  pub named : IsFewer boot.members.nvrams log.members
  pub some : IsSome log.members
  pub dropped : DroppedCounted old new boot.members.nvrams log.members
  pub read : IsReadFrom old.honest (shown_by new log.members) log

-- ---- by kind

abbrev pub is_create : Request → Bool
is_create (request.Create name sectors) = true
is_create _ = false

abbrev pub is_write : Request → Bool
is_write (request.Write name lba count) = true
is_write _ = false

abbrev pub is_fill : Request → Bool
is_fill (request.Fill name lba count byte) = true
is_fill _ = false

abbrev pub is_zero : Request → Bool
is_zero (request.Zero name lba count) = true
is_zero _ = false

abbrev pub is_snapshot : Request → Bool
is_snapshot (request.Snapshot name new) = true
is_snapshot _ = false

abbrev pub is_clone : Request → Bool
is_clone (request.Clone name new) = true
is_clone _ = false

abbrev pub is_copy : Request → Bool
is_copy (request.Copy name lba other to count) = true
is_copy _ = false

abbrev pub is_destroy : Request → Bool
is_destroy (request.Destroy name) = true
is_destroy _ = false

-- a number of each kind that may be counted on
pub record AreFew (w : Waiting) : Type 0 where
  pub creates : w.creates < 2 ^ 63
  pub writes : w.writes < 2 ^ 63
  pub fills : w.fills < 2 ^ 63
  pub zeroes : w.zeroes < 2 ^ 63
  pub snapshots : w.snapshots < 2 ^ 63
  pub clones : w.clones < 2 ^ 63
  pub copies : w.copies < 2 ^ 63
  pub destroys : w.destroys < 2 ^ 63

-- one more of its kind
pub record CountsOne (was : Waiting) (r : Request) (now : Waiting) : Type 0 where
  pub creates : now.creates ≡ was.creates + cond (is_create r) 1 0
  pub writes : now.writes ≡ was.writes + cond (is_write r) 1 0
  pub fills : now.fills ≡ was.fills + cond (is_fill r) 1 0
  pub zeroes : now.zeroes ≡ was.zeroes + cond (is_zero r) 1 0
  pub snapshots : now.snapshots ≡ was.snapshots + cond (is_snapshot r) 1 0
  pub clones : now.clones ≡ was.clones + cond (is_clone r) 1 0
  pub copies : now.copies ≡ was.copies + cond (is_copy r) 1 0
  pub destroys : now.destroys ≡ was.destroys + cond (is_destroy r) 1 0

-- so many commands wait, of each kind
pub record AreWaiting (commands : List Command) (w : Waiting) : Type 0 where
  pub creates : w.creates ≡ count_by (λ c. is_create c.request) commands
  pub writes : w.writes ≡ count_by (λ c. is_write c.request) commands
  pub fills : w.fills ≡ count_by (λ c. is_fill c.request) commands
  pub zeroes : w.zeroes ≡ count_by (λ c. is_zero c.request) commands
  pub snapshots : w.snapshots ≡ count_by (λ c. is_snapshot c.request) commands
  pub clones : w.clones ≡ count_by (λ c. is_clone c.request) commands
  pub copies : w.copies ≡ count_by (λ c. is_copy c.request) commands
  pub destroys : w.destroys ≡ count_by (λ c. is_destroy c.request) commands
