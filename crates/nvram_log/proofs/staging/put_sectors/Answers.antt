use Rattle.nvram_log.proofs.Prelude.{◌<◌, ◌≡◌, ◌+◌, ◌-◌, ◌*◌, ℕ, List, [], length, arith, below_more, sym, ◌∙◌, ap, get_or, get_or_read, IsBytesOf, SECTOR_BYTES}
use Rattle.nvram_log.proofs.Staged.{put_one, longer, are_bytes, all_by}
use Rattle.nvram_log.proofs.staging.put_sectors.Goals as goal

pub loop-i-preserved : goal.loop-i-preserved
loop-i-preserved c =
    let inv = c.loop-i.invariant in
    let i = c.loop-i.i in
    let sectors = c.args.sectors.now in
    let within : i < length sectors = c.loop-i-test.true in
    let sector : List ℕ = c.index-sectors-i.result in
    let is : sector ≡ get_or sectors i [] = get_or_read sectors i sector within c.index-sectors-i.is [] in
    let size : length (get_or sectors i []) ≡ 512 = sym (ap (length {A = ℕ}) is) ∙ c.as_bytes.ensures.len in
    let copied = put_one c.loop-i.into c.args.into.now c.copy_from_slice.new.self sectors i (512 * i + 512 - 512 * i) within (omega arith) (c.copy_from_slice.ensures.after ∙ c.as_bytes.ensures.bytes ∙ is) inv.size inv.copied in
    record {
      copied = copied;
      size = longer sectors i within size inv.size;
      each = below_more _ _ inv.each (size, are_bytes sectors i _ _ within size inv.size copied (λ n. omega (arith, c.type_inv.into n)));
    }

pub returns-clause-sectors : goal.returns-clause-sectors
returns-clause-sectors c = all_by (IsBytesOf SECTOR_BYTES) c.args.sectors.now (λ k lt. c.loop-i.invariant.each k (omega (arith, lt, c.loop-i-test.false)))
