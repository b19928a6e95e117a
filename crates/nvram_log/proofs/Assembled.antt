-- What was read of a slot is what it shows.
use Rattle.nvram_log.proofs.Prelude.{◌≡◌, ◌∙◌, ◌≢◌, ◌+◌, ◌-◌, ◌≤◌, ◌++◌, ℕ, List, length, take, drop, slice_range, ap, sym, refl, arith, length-drop, take-append-drop, drop-drop, Command, Head, Decodes, ShowsIn, slot_at, slot_place}
use Rattle.std.proofs.Common.{take-take, take-add, take_all}
use Rattle.nvram_log.specs.lemmas.Heads.{head_of, shown_head}

-- the first sector of a slot
pub first_is : (sector bytes : List ℕ) (i : ℕ) → sector ≡ slice_range bytes (slot_place i) (slot_place i + 512) → sector ≡ take 512 (slot_at i bytes)
first_is sector bytes i is =
    is ∙ ap (λ (n : ℕ). take n (drop (slot_place i) bytes)) (let e : slot_place i + 512 - slot_place i ≡ 512 = omega arith in e)
    ∙ sym (take-take 512 33280 (drop (slot_place i) bytes) (omega arith))

-- a slot in which no such head is spelled shows nothing
pub none_shown : (sector bytes : List ℕ) (flushed i : ℕ) → sector ≡ take 512 (slot_at i bytes) → ((head : Head) → Decodes sector head → head.number ≢ flushed + 1 + i) → (c : Command) → ShowsIn bytes flushed i c → ⊥
none_shown sector bytes flushed i is none c shows =
    none (head_of (flushed + 1 + i) c) (shown_head bytes flushed i sector is c shows) refl

-- the text is the front of the slot
pub assembled : (text bytes : List ℕ) (i n : ℕ) → 512 ≤ n → n ≤ 33280 → length text ≡ n → take 512 text ≡ take 512 (slot_at i bytes) → slice_range text 512 n ≡ slice_range bytes (slot_place i + 512) (slot_place i + n) → take n (slot_at i bytes) ≡ text
assembled text bytes i n le few long first behind =
    let p = slot_place i in
    let rest = drop p bytes in
    let front : take n (slot_at i bytes) ≡ take n rest = take-take n 33280 rest few in
    let parts : take n rest ≡ take 512 rest ++ take (n - 512) (drop 512 rest) = ap (λ (k : ℕ). take k rest) (let e : n ≡ 512 + (n - 512) = omega (arith, le) in e) ∙ take-add 512 (n - 512) rest in
    let here : take 512 rest ≡ take 512 text = sym (first ∙ take-take 512 33280 rest (omega arith)) in
    let past : drop 512 rest ≡ drop (p + 512) bytes = drop-drop 512 p bytes in
    let there : take (n - 512) (drop 512 rest) ≡ drop 512 text =
    ap (take (n - 512)) past ∙ ap (λ (k : ℕ). take k (drop (p + 512) bytes)) (let e : n - 512 ≡ p + n - (p + 512) = omega (arith, le) in e)
    ∙ sym behind ∙ take_all (n - 512) (drop 512 text) (omega (arith, length-drop 512 text, long)) in
    front ∙ parts ∙ ap (λ (l : List ℕ). l ++ take (n - 512) (drop 512 rest)) here ∙ ap (λ (l : List ℕ). take 512 text ++ l) there ∙ take-append-drop 512 text
