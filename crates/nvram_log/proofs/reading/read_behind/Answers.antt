use Rattle.nvram_log.proofs.Prelude.{◌≡◌, ◌∙◌, ◌+◌, ◌-◌, ◌*◌, ℕ, List, length, take, drop, slice_range, ap, arith, length-take, length-drop, nvram}
use Rattle.std.proofs.lemmas.Slice.{take-put_mid_below, between-put_mid}
use Rattle.nvram_log.proofs.Settled.{where_ok}
use Rattle.nvram_log.proofs.reading.read_behind.Goals as goal

-- nothing is behind
none_behind : (text bytes : List ℕ) (place : ℕ) → length text ≡ 512 → slice_range text 512 (length text) ≡ slice_range bytes (place + 512) (place + length text)
none_behind text bytes place is =
    ap (λ (n : ℕ). take n (drop 512 text)) (let e : length text - 512 ≡ 0 = omega (arith, is) in e)
    ∙ ap (λ (n : ℕ). take n (drop (place + 512) bytes)) (let e : 0 ≡ place + length text - (place + 512) = omega (arith, is) in e)

pub returns-then-text-eq-SECTOR_BYTES-clause-behind : goal.returns-then-text-eq-SECTOR_BYTES-clause-behind
returns-then-text-eq-SECTOR_BYTES-clause-behind g c h = none_behind c.args.text.now ((g.S.Shelf.shelf c.args.shelf.now).disk (nvram c.args.device.0)).bytes (4096 + 33280 * c.args.i) (omega arith)

pub returns-clause-first : goal.returns-clause-first
returns-clause-first g c = take-put_mid_below 512 _ c.args.text.now c.read_at.new.into 512 (omega arith) c.requires.size.0

pub returns-clause-behind : goal.returns-clause-behind
returns-clause-behind g c h =
    let text = c.args.text.now in
    let size = length text in
    let bytes : List ℕ = ((g.S.Shelf.shelf c.args.shelf.now).disk (nvram c.args.device.0)).bytes in
    let place = 4096 + 33280 * c.args.i in
    let part : length (take (size - 512) (drop 512 text)) ≡ size - 512 = omega (arith, length-take (size - 512) (drop 512 text), length-drop 512 text) in
    where_ok _ _ c.read_at.result (c.read_at.ensures.bytes h) (λ is.
    between-put_mid 512 _ text c.read_at.new.into size c.requires.size.0 (c.read_at.auto.into ∙ part) ∙ is
    ∙ ap (λ (k : ℕ). slice_range bytes k (k + length (take (size - 512) (drop 512 text)))) (let e : 4096 + (33280 * c.args.i + 512) ≡ place + 512 = omega arith in e)
    ∙ ap (λ (n : ℕ). slice_range bytes (place + 512) n) (let e : place + 512 + length (take (size - 512) (drop 512 text)) ≡ place + size = omega (arith, part, c.requires.size.0) in e))
