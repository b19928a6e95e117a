use Rattle.boot_codec.proofs.Prelude.{◌++◌, u64, next_bytes}
use Rattle.boot_codec.proofs.WritingLemmas.{then_written}
use Rattle.boot_codec.proofs.writing.put_next.Goals as goal

pub returns : goal.returns
unfolding next_bytes
returns c =
    let n = c.args.next.now in
    let two = then_written _ _ _ _ _ _ (u64 n.object) (u64 n.medium) c.put_u64-at.ensures c.put_u64-at-2.ensures in
    let three = then_written _ _ _ _ _ _ (u64 n.object ++ u64 n.medium) (u64 n.segment) two c.put_u64-at-3.ensures in
    let four = then_written _ _ _ _ _ _ (u64 n.object ++ u64 n.medium ++ u64 n.segment) (u64 n.patch_segment) three c.put_u64-at-4.ensures in
    then_written _ _ _ _ _ _ (u64 n.object ++ u64 n.medium ++ u64 n.segment ++ u64 n.patch_segment) (u64 n.sequence) four c.put_u64.ensures
