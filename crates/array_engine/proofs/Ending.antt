-- What the end of a read leaves of the engine.
use Rattle.array_engine.proofs.Prelude.{◌≡◌, ℕ, ◌≤◌, Bool, true, false, List, Some, None, Result, Ok, Err, OnOk, IfErr, refl, ap, arith, length, drop, View, Asked, refusal, first_cause, read_causes, sectors_of, span, Sectors, REQUEST_SECTORS, geometry_of, Shelved, IsShelf, ContentsStand, Contents, ReadsAs, facts, Point, OfArray, ReadsOnly, ShowsDrives, LosesThree, Array, drives_view, IsArrayOf, IsLike, Engine, read_in, IsDataReply, LINE_ROOM, IsAt, IsAnsweredAt, said_of_read}
use Rattle.pur_base.specs.Plain as plain
use Rattle.pur_base.specs.declared.request.Request.TheVariants as request
use Rattle.target_io.specs.Targets.{IfRefused, IfLost}
use Rattle.target_io.specs.declared.fault.ReadFault.{ReadFault}
use Rattle.target_io.specs.declared.fault.ReadFault.TheVariants as read
use Rattle.array_engine.proofs.DataReplies.{length-sectors_in, whole_sectors}
use Rattle.array_engine.proofs.Points.{was_read, was_lost}
use Rattle.array_engine.proofs.Meanwhile.{read_keeps, read_keeps_segments}
use Rattle.array_engine.proofs.Numbers.{segment_same}
use Rattle.array_engine.proofs.Named.{named_at}
use Rattle.array_engine.proofs.Spans.{AreMissing, shows, loses_three}

-- ---- a read

-- what is known of a read that ended
pub record WasRead (old new : Shelved) (a : Array) (name : List ℕ) (lba count : ℕ) (missing : List Bool) (sectors : List (List ℕ)) (ended : Result Unit ReadFault) : Type 0 where
  pub refused : IfErr ended (λ f. IfRefused f (λ why. OfArray a.memory.memory (λ array. first_cause (read_causes array name lba count) ≡ Some why)))
  pub given : old.honest → OnOk ended ((contents : Contents) (array : plain.Array) (view : View) → ReadsAs contents a.memory.memory array → ShowsDrives old missing view → ContentsStand contents view (facts a.memory.memory.tables)
      → sectors ≡ span lba count (sectors_of array name))
  pub lost : IfErr ended (λ f. IfLost f (LosesThree old new (facts a.memory.memory.tables) missing))

module _ (told : Bool) (old new : Shelved) (e f : Engine) (like : IsLike e.array f.array) (halts : f.halted ≡ e.halted) (reads : ReadsOnly old new) (is_old : IsShelf old) (is_new : IsShelf new) (honest : told ≡ true → old.honest)
    (from : Point) (at : IsAt told old e from) (awake : e.halted ≡ false) (name : List ℕ) (lba count : ℕ) (few : count ≤ REQUEST_SECTORS) (missing : List Bool) (is_of : IsArrayOf (geometry_of old) e.array) (are : AreMissing e.array.register missing)
    (there : IsDataReply f.buffers.reply.items f.buffers.start count)
    (accepted : OfArray e.array.memory.memory (λ array. refusal array (request.Read name lba count) ≡ None)) (asked : List (List ℕ)) where
  none : refusal from.array (request.Read name lba count) ≡ None
  none = accepted (at.stands awake).contents from.array (at.stands awake).reads

  size : length (read_in count f.buffers.reply.items) ≡ count
  size = length-sectors_in count (drop LINE_ROOM f.buffers.reply.items)

  pub read_answered : (ended : Result Unit ReadFault) → WasRead old new e.array name lba count missing (read_in count f.buffers.reply.items) ended → IsAnsweredAt told old new e f (Asked (request.Read name lba count) asked) (said_of_read count ended) from
  read_answered (Ok u) w = was_read told old new e f like halts (read_keeps_segments told old new reads honest f.array) from at (read_keeps old new reads is_old is_new f.array) awake name lba count asked none
      (read_in count f.buffers.reply.items) refl size (whole_sectors f.buffers.reply.items f.buffers.start count there) (omega (arith, few))
      (λ t. ap Sectors (w.given (honest t) (at.stands awake).contents from.array (drives_view old e.array.register) (at.stands awake).reads (shows old e.array.register missing is_of.of_shelf are) ((at.stands awake).hold t)))
  read_answered (Err (read.Refused why)) w = absurd (cc (none, w.refused (at.stands awake).contents from.array (at.stands awake).reads))
  read_answered (Err read.Lost) w = was_lost told old new e f like halts (read_keeps_segments told old new reads honest f.array) from at (read_keeps old new reads is_old is_new f.array) awake name lba count asked none
      (loses_three old e.array.register missing is_of.of_shelf are new from e.array refl (segment_same (geometry_of old) is_of (at.stands awake)) (named_at told old e.array from is_of.of_shelf (at.stands awake)) w.lost)
