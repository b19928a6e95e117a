-- Memory to which a snapshot, a clone or a copy was added is sound, and reads as the array after it.
use Rattle.array_spec.specs.Prelude.{Array}
use Rattle.command_spec.proofs.Prelude.{facts, Memory, Contents, FactsRead, ReadsAs, Derived, HasDerived, snapshot_of, clone_of, copy_of, MayDerive, SnapshotReads, CloneReads, CopyReads}
use Rattle.command_spec.proofs.Says.{deriving_says}
use Rattle.command_spec.proofs.Sound.{deriving_sound}
use Rattle.command_spec.proofs.MayBeNamed.{snapshot_may_be, clone_may_be}
use Rattle.command_spec.proofs.MayBeCopied.{copy_may_be}
use Rattle.command_spec.proofs.Named.{snapshot_facts_read, clone_facts_read}
use Rattle.command_spec.proofs.Copied.{copy_facts_read}

-- what the facts read as, memory does with the sectors and numbers that it has
reads_as : (contents : Contents) (was now : Memory) (d : Derived) (before after : Array) → ReadsAs contents was before → MayDerive was d → HasDerived was now d
    → FactsRead contents was.staged (facts now.tables) d.next.object after → ReadsAs contents now after
reads_as contents was now d before after r may made reads = record {
  sound = deriving_sound was now d r.sound may made;
  reads = rw (made.staged, made.next) reads;
}

pub snapshot_reads : SnapshotReads
snapshot_reads contents was now x name array r named made =
    let may = snapshot_may_be was x name r.sound named in
    reads_as contents was now (snapshot_of was.next x name) array _ r may made
    (snapshot_facts_read contents was now x name array r named (deriving_says was now (snapshot_of was.next x name) r.sound may made))

pub clone_reads : CloneReads
clone_reads contents was now x name array r named made =
    let may = clone_may_be was x name r.sound named in
    reads_as contents was now (clone_of was.next x name) array _ r may made
    (clone_facts_read contents was now x name array r named (deriving_says was now (clone_of was.next x name) r.sound may made))

pub copy_reads : CopyReads
copy_reads contents was now x lba y to count array r copied made =
    let may = copy_may_be was x lba y to count r.sound copied in
    reads_as contents was now (copy_of was.next x lba y to count) array _ r may made
    (copy_facts_read contents was now x lba y to count array r copied (deriving_says was now (copy_of was.next x lba y to count) r.sound may made))
