use Rattle.boot_codec.proofs.Prelude.{◌≡◌, ℕ, ◌+◌, ◌-◌, ◌++◌, ◌∙◌, length, take, refl, ap, arith, zeros, padded, header_bytes, record_bytes, patches_bytes}
use Rattle.boot_codec.proofs.SpellingLemmas.{length-header_bytes, length-patches_bytes}
use Rattle.boot_codec.proofs.WritingLemmas.{padded_after}
use Rattle.boot_codec.proofs.writing.write_record.Goals as goal

pub put_patches-end-requires-clause-room : goal.put_patches-end-requires-clause-room
put_patches-end-requires-clause-room c =
    let r = c.args.boot.now in
    let len = length-patches_bytes r.slots r.units r.patches c.requires.lawful.patches.each in
    omega (arith, len, c.requires.lawful.patches.count, c.requires.lawful.patches.room, c.split_at_mut-header.ensures.back_len)

pub returns : goal.returns
unfolding record_bytes
returns c =
    let r = c.args.boot.now in
    let lists = c.put_patches-end.new.into in
    let stop = c.put_patches-end.result in
    let written = c.put_patches-end.ensures in
    let e : stop ≡ length (patches_bytes r.patches) = omega (arith, written.end) in
    let room : length lists ≡ 65448 = omega (arith, c.split_at_mut-header.ensures.back_len) in
    let header = header_bytes r (88 + stop) in
    let two : c.put_header.new.into ++ c.pad.new.into ≡ header ++ (take stop lists ++ zeros (length lists - stop)) = rw (c.put_header.ensures, c.pad.ensures) refl in
    two ∙ padded_after header _ lists (patches_bytes r.patches) stop (length-header_bytes r (88 + stop)) written room ∙ ap (λ (n : ℕ). padded 65536 (header_bytes r (88 + n) ++ patches_bytes r.patches)) e
