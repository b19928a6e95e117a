use Rattle.boot_codec.proofs.Prelude.{◌≡◌, ◌++◌, ◌∙◌, length, sym, arith, u64, header_bytes, opening_bytes, members_bytes, next_bytes, counts_bytes}
use Rattle.boot_codec.proofs.WritingLemmas.{then_written, all_written}
use Rattle.boot_codec.proofs.SpellingLemmas.{length-opening_bytes, length-members_bytes, length-next_bytes, length-header_bytes}
use Rattle.boot_codec.proofs.writing.put_header.Goals as goal

pub put_u64-at-requires : goal.put_u64-at-requires
put_u64-at-requires c = omega (arith, length-opening_bytes)

pub put_members-at-requires : goal.put_members-at-requires
put_members-at-requires c = omega (arith, length-opening_bytes)

pub put_next-at-requires : goal.put_next-at-requires
put_next-at-requires c = omega (arith, length-opening_bytes, length-members_bytes)

pub put_u64-at-requires-2 : goal.put_u64-at-requires-2
put_u64-at-requires-2 c = omega (arith, length-opening_bytes, length-members_bytes, length-next_bytes)

pub put_counts-requires : goal.put_counts-requires
put_counts-requires c = omega (arith, length-opening_bytes, length-members_bytes, length-next_bytes)

pub returns : goal.returns
unfolding header_bytes
returns c =
    let r = c.args.boot.now in
    let counts = counts_bytes (length r.patches) c.args.len in
    let one = opening_bytes r.slots r.units in
    let two = one ++ u64 r.generation in
    let three = two ++ members_bytes r.members in
    let four = three ++ next_bytes r.next in
    let five = four ++ u64 r.flushed in
    let to_two = then_written _ _ _ _ _ _ one (u64 r.generation) c.put_opening-at.ensures c.put_u64-at.ensures in
    let to_three = then_written _ _ _ _ _ _ two (members_bytes r.members) to_two c.put_members-at.ensures in
    let to_four = then_written _ _ _ _ _ _ three (next_bytes r.next) to_three c.put_next-at.ensures in
    let to_five = then_written _ _ _ _ _ _ four (u64 r.flushed) to_four c.put_u64-at-2.ensures in
    let to_end = then_written _ _ _ _ _ _ five counts to_five (rw c.len.ensures at c.put_counts.ensures) in
    let len : length c.put_counts.new.into ≡ 88 = omega arith in
    all_written _ _ _ (five ++ counts) to_end (len ∙ sym (length-header_bytes r c.args.len))
