use Rattle.memory_spec.proofs.Prelude.{shrinking_reads, flush_shrinks, merge_shrinks}
use Rattle.memory_spec.proofs.Holding.{merged_patches_hold}
use Rattle.memory_spec.proofs.MergedSound.{merged_patches_are_sound, merged_patches_shrink}
use Rattle.memory_spec.proofs.checkpoints.flushes_keep_memory.Goals as goal

pub returns : goal.returns
returns c = record {
  reads = shrinking_reads;
  flush = flush_shrinks;
  merge = merge_shrinks;
  merged_shrink = merged_patches_shrink;
  merged_sound = merged_patches_are_sound;
  merged_hold = merged_patches_hold;
}
