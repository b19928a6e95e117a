-- Sectors that come in pieces.
use Rattle.request_codec.proofs.Prelude.{◌≡◌, ℕ, zero, suc, ◌+◌, ◌-◌, ◌*◌, ◌<◌, ◌≤◌, min, List, [], ◌∷◌, ◌++◌, length, take, drop, refl, sym, ap, ◌∙◌, arith, append_assoc, length-append, take-append-drop, drop-drop, take_at, drop_at, length-drop, length-take, length-take-le, sectors_in}

pub more-of-sector : (xs body old pend left gone : List ℕ) (count : ℕ) → xs ≡ body ++ old → old ≡ pend ++ left → gone ≡ drop count pend
    → xs ≡ (body ++ take count pend) ++ (gone ++ left)
more-of-sector xs body old pend left gone count is old-is gone-is =
    rw gone-is (is ∙ ap (λ (ys : List ℕ). body ++ ys) (old-is ∙ ap (λ (ys : List ℕ). ys ++ left) (sym (take-append-drop count pend)) ∙ append_assoc (take count pend) (drop count pend) left)
    ∙ sym (append_assoc body (take count pend) (drop count pend ++ left)))

-- nothing is pending, and the source has what it had
pub left-of : (xs body pend left left_after : List ℕ) → xs ≡ body ++ (pend ++ left) → pend ≡ [] → left_after ≡ left → xs ≡ body ++ left_after
left-of xs body pend left left_after is none same = is ∙ ap (λ (ys : List ℕ). body ++ (ys ++ left)) none ∙ ap (λ (ys : List ℕ). body ++ ys) (sym same)

pub behind-of : (xs body rest now : List ℕ) → xs ≡ body ++ rest → rest ≡ now → xs ≡ body ++ now
behind-of xs body rest now is same = is ∙ ap (λ (ys : List ℕ). body ++ ys) same

-- too few bytes for a sector, and for sectors
pub sector-cut : (xs body rest : List ℕ) → xs ≡ body ++ rest → rest ≡ [] → length body < 512 → length xs < 512
sector-cut xs body rest is none lt = omega (arith, ap length is, length-append body rest, ap length none, lt)

pub sectors-cut : (xs rest : List ℕ) (i n : ℕ) → i < n → 512 * i ≤ length xs → rest ≡ drop (512 * i) xs → length rest < 512 → length xs < 512 * n
sectors-cut xs rest i n lt long is short = omega (arith, lt, long, ap length is, length-drop (512 * i) xs, short)

-- one sector more
pub sectors-more : (n : ℕ) (xs : List ℕ) → sectors_in (suc n) xs ≡ sectors_in n xs ++ take 512 (drop (512 * n) xs) ∷ []
sectors-more zero xs = refl
sectors-more (suc n) xs =
    let far : 512 + 512 * n ≡ 512 * suc n = omega arith in
    let last : drop (512 * n) (drop 512 xs) ≡ drop (512 * suc n) xs = drop-drop (512 * n) 512 xs ∙ ap (λ (k : ℕ). drop k xs) far in
    ap (λ (ss : List (List ℕ)). take 512 xs ∷ ss) (sectors-more n (drop 512 xs) ∙ ap (λ (r : List ℕ). sectors_in n (drop 512 xs) ++ take 512 r ∷ []) last)

pub record SectorsMore (xs : List ℕ) (i : ℕ) (sectors : List (List ℕ)) (new : List ℕ) : Type 0 where
  pub long : 512 * (i + 1) ≤ length xs
  pub items : sectors ≡ sectors_in (i + 1) xs
  pub rest : new ≡ drop (512 * (i + 1)) xs

pub data-more : (xs : List ℕ) (i : ℕ) (sectors : List (List ℕ)) (sector old new : List ℕ) → 512 * i ≤ length xs → sectors ≡ sectors_in i xs → old ≡ drop (512 * i) xs
    → length sector ≡ 512 → old ≡ sector ++ new → SectorsMore xs i (sectors ++ sector ∷ []) new
data-more xs i sectors sector old new long items old-is len split =
    let next : i + 1 ≡ suc i = omega arith in
    let far : 512 * i + 512 ≡ 512 * (i + 1) = omega arith in
    let front : take 512 (drop (512 * i) xs) ≡ sector = ap (take 512) (sym old-is ∙ split) ∙ take_at sector new 512 len in
    let back : drop (512 * (i + 1)) xs ≡ new =
    ap (λ (k : ℕ). drop k xs) (sym far) ∙ sym (drop-drop 512 (512 * i) xs) ∙ ap (drop 512) (sym old-is ∙ split) ∙ drop_at sector new 512 len in
    record {
      long = omega (arith, length-drop (512 * i) xs, ap length old-is, ap length split, length-append sector new);
      items = rw (next, items) (ap (λ (s : List ℕ). sectors_in i xs ++ s ∷ []) (sym front) ∙ sym (sectors-more i xs));
      rest = sym back;
    }

pub sector-room : (body items pend : List ℕ) (count : ℕ) → length body < 512 → count ≡ min (length pend) (512 - length body) → items ≡ body ++ take count pend → length items ≤ 512
sector-room body items pend count lt is items-is = omega (arith, ap length items-is, length-append body (take count pend), length-take count pend)

pub record FirstSector (pend left sector gone : List ℕ) : Type 0 where
  pub len : length sector ≡ 512
  pub split : pend ++ left ≡ sector ++ (gone ++ left)

-- a sector that is pending whole
pub first-of : (pend left sector gone : List ℕ) → 512 ≤ length pend → sector ≡ take 512 pend → gone ≡ drop 512 pend → FirstSector pend left sector gone
first-of pend left sector gone long is gone-is = record {
  len = ap length is ∙ length-take-le 512 pend long;
  split = ap (λ (ys : List ℕ). ys ++ left) (sym (take-append-drop 512 pend) ∙ ap (λ (ys : List ℕ). ys ++ drop 512 pend) (sym is) ∙ ap (λ (ys : List ℕ). sector ++ ys) (sym gone-is)) ∙ append_assoc sector gone left;
}
