-- The steps of a checkpoint, one after another.
use Rattle.memory_spec.proofs.Prelude.{arith, [], sym, subst, nat_tests, Array, all_facts, NextNumbers, patches, Memory, Contents, FactsRead, ReadsAs, IsWhole, patches_read, shrinking_reads, flush_shrinks}
use Rattle.memory_spec.specs.Checkpoint.{IsCheckpointed, CheckpointReads, CheckpointIsSound, CheckpointHolds, CheckpointDataHolds}
use Rattle.memory_spec.proofs.Standing.{written_holds, written_data_holds}
use Rattle.memory_spec.proofs.Records.{record_is_sound}
use Rattle.memory_spec.proofs.Placing.{placing_reads}
use Rattle.memory_spec.proofs.Eliding.{eliding_reads}

whole : (contents contents2 : Contents) (was now : Memory) → IsCheckpointed contents contents2 was now → IsWhole now
whole contents contents2 was now c = grind (arith, nat_tests)

reads : (contents contents2 : Contents) (was now : Memory) (array : Array) → ReadsAs contents was array → IsCheckpointed contents contents2 was now → ReadsAs contents2 now array
reads contents contents2 was now array r c =
    let elided = eliding_reads contents was c.elided c.elisions array r c.eliding in
    let placed = placing_reads contents contents2 c.elided c.placed c.place c.segments array elided c.placing in
    shrinking_reads contents2 c.placed now array placed (flush_shrinks c.placed now placed.sound c.flush)

pub checkpoint_reads : CheckpointReads
checkpoint_reads contents contents2 was now array r c = (whole contents contents2 was now c, reads contents contents2 was now array r c)

pub checkpoint_is_sound : CheckpointIsSound
checkpoint_is_sound shelf boot contents contents2 was now array r c record_is =
    let all = whole contents contents2 was now c in
    let after = reads contents contents2 was now array r c in (
      record_is_sound shelf boot now after.sound all c.layered record_is.segments record_is.next record_is.patches,
      subst (λ (n : NextNumbers). FactsRead contents2 [] (all_facts (patches now.tables)) n.object array) (sym record_is.next) (patches_read contents2 now array all after),
    )

pub checkpoint_holds : CheckpointHolds
checkpoint_holds shelf image slot boot contents contents2 was now array r c record_is stands =
    let s = checkpoint_is_sound shelf boot contents contents2 was now array r c record_is in
    written_holds shelf image slot boot (patches now.tables) contents2 array s.0 s.1 stands

pub checkpoint_data_holds : CheckpointDataHolds
checkpoint_data_holds shelf drives image boot contents contents2 was now array r c record_is stands =
    let s = checkpoint_is_sound shelf boot contents contents2 was now array r c record_is in
    written_data_holds shelf drives image boot (patches now.tables) contents2 array s.0 s.1 stands
