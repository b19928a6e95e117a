-- The first line of bytes that come in pieces.
use Rattle.std.proofs.Common.{◌≡◌, ◌≢◌, ℕ, suc, ◌+◌, ◌<◌, ◌≤◌, not, List, [], ◌∷◌, ◌++◌, length, take, drop, refl, sym, ap, ◌∙◌, arith, append_assoc, eq-eqb, zero-add, length-append}
use Rattle.std.specs.List.{position_or_len, before_first, after_first}
use Rattle.std.proofs.lemmas.List.{drop_all, length-drop, take-append-le, drop-append-le}
use Rattle.std.proofs.lemmas.List.Folds.{prefix_len-append}
use Rattle.std.proofs.lemmas.Bool.{ne_eqb}
use Rattle.pur_base.specs.Grammar.{is_line_end}

-- no byte of the text ends the line
pub record IsOpen (text : List ℕ) : Type 0 where
  pub none : position_or_len is_line_end text ≡ length text

past : (got ys : List ℕ) → IsOpen got → position_or_len is_line_end (got ++ ys) ≡ length got + position_or_len is_line_end ys
past got ys h =
    let e = eq-eqb (position_or_len is_line_end got) (length got) h.none in
    prefix_len-append (λ x. not (is_line_end x)) got ys ∙ rw e refl

pub open-nil : IsOpen []
open-nil = record { none = refl }

pub open-append : (got piece : List ℕ) → IsOpen got → IsOpen piece → IsOpen (got ++ piece)
open-append got piece g p = record { none = omega (arith, past got piece g, p.none, length-append got piece) }

take-past : (n : ℕ) (got ys : List ℕ) → take (length got + n) (got ++ ys) ≡ got ++ take n ys
take-past n [] ys = rw (zero-add n) refl
take-past n (g ∷ got) ys =
    let e : length (g ∷ got) + n ≡ suc (length got + n) = omega arith in
    rw e (ap (λ (xs : List ℕ). g ∷ xs) (take-past n got ys))

drop-past : (n : ℕ) (got ys : List ℕ) → drop (length got + n) (got ++ ys) ≡ drop n ys
drop-past n [] ys = rw (zero-add n) refl
drop-past n (g ∷ got) ys =
    let e : length (g ∷ got) + n ≡ suc (length got + n) = omega arith in
    rw e (drop-past n got ys)

pub before-past : (got ys : List ℕ) → IsOpen got → before_first is_line_end (got ++ ys) ≡ got ++ before_first is_line_end ys
before-past got ys g = rw (past got ys g) (take-past (position_or_len is_line_end ys) got ys)

pub after-past : (got ys : List ℕ) → IsOpen got → after_first is_line_end (got ++ ys) ≡ after_first is_line_end ys
after-past got ys g =
    let e : position_or_len is_line_end (got ++ ys) + 1 ≡ length got + (position_or_len is_line_end ys + 1) = omega (arith, past got ys g) in
    rw e (drop-past (position_or_len is_line_end ys + 1) got ys)

pub after-open : (got : List ℕ) → IsOpen got → after_first is_line_end got ≡ []
after-open got g = drop_all (position_or_len is_line_end got + 1) got (omega (arith, g.none))

-- the end stands in the piece
position-in : (piece ys : List ℕ) → position_or_len is_line_end piece < length piece → position_or_len is_line_end (piece ++ ys) ≡ position_or_len is_line_end piece
position-in piece ys h =
    let ne : position_or_len is_line_end piece ≢ length piece = omega arith in
    let e = ne_eqb (position_or_len is_line_end piece) (length piece) ne in
    prefix_len-append (λ x. not (is_line_end x)) piece ys ∙ rw e refl

pub before-in : (piece ys : List ℕ) → position_or_len is_line_end piece < length piece → before_first is_line_end (piece ++ ys) ≡ take (position_or_len is_line_end piece) piece
before-in piece ys h = rw (position-in piece ys h) (take-append-le (position_or_len is_line_end piece) piece ys (omega arith))

pub after-in : (piece ys : List ℕ) → position_or_len is_line_end piece < length piece → after_first is_line_end (piece ++ ys) ≡ drop (position_or_len is_line_end piece + 1) piece ++ ys
after-in piece ys h = rw (position-in piece ys h) (drop-append-le (position_or_len is_line_end piece + 1) piece ys (omega arith))

-- ---- the steps of reading a line: xs is what was unread, got the line so far, piece what is pending

pub record WholeLine (xs got piece left : List ℕ) (at : ℕ) : Type 0 where
  pub some : 0 < length xs
  pub line : got ++ take at piece ≡ before_first is_line_end xs
  pub rest : drop (at + 1) piece ++ left ≡ after_first is_line_end xs

pub whole-line : (xs got piece left : List ℕ) (at : ℕ) → IsOpen got → xs ≡ got ++ (piece ++ left) → at ≡ position_or_len is_line_end piece → at < length piece → WholeLine xs got piece left at
whole-line xs got piece left at no_end is at-is lt =
    let inside : position_or_len is_line_end piece < length piece = omega (arith, at-is) in
    let before : before_first is_line_end (got ++ (piece ++ left)) ≡ got ++ take at piece =
    before-past got (piece ++ left) no_end ∙ ap (λ (ys : List ℕ). got ++ ys) (before-in piece left inside ∙ ap (λ (n : ℕ). take n piece) (sym at-is)) in
    let after : after_first is_line_end (got ++ (piece ++ left)) ≡ drop (at + 1) piece ++ left =
    after-past got (piece ++ left) no_end ∙ after-in piece left inside ∙ ap (λ (n : ℕ). drop (n + 1) piece ++ left) (sym at-is) in
    record {
      some = omega (arith, ap length is, length-append got (piece ++ left), length-append piece left);
      line = sym (ap (before_first is_line_end) is ∙ before);
      rest = sym (ap (after_first is_line_end) is ∙ after);
    }

pub more-of-line : (xs got piece left old pend gone : List ℕ) → xs ≡ got ++ old → old ≡ pend ++ left → piece ≡ pend → gone ≡ drop (length piece) pend
    → xs ≡ (got ++ piece) ++ (gone ++ left)
more-of-line xs got piece left old pend gone is old-is piece-is gone-is =
    let none : gone ≡ [] = gone-is ∙ drop_all (length piece) pend (omega (arith, ap length piece-is)) in
    rw (none, piece-is) (is ∙ ap (λ (ys : List ℕ). got ++ ys) old-is ∙ sym (append_assoc got pend left))

pub spent : (budget0 rest0 budget1 taken : ℕ) (got piece pend gone : List ℕ) → budget1 + length got ≤ budget0 → rest0 + length pend ≡ budget1 → piece ≡ pend → gone ≡ drop (length piece) pend
    → (rest0 + length gone) + length (got ++ piece) ≤ budget0
spent budget0 rest0 budget1 taken got piece pend gone so_far budget piece-is gone-is =
    omega (arith, length-append got piece, ap length piece-is, ap length gone-is, length-drop (length piece) pend)
