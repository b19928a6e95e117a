-- What a failed read leaves: a part of an item.
use Rattle.std.proofs.Common.{◌≡◌, ℕ, suc, ◌+◌, ◌*◌, ◌<◌, ◌≤◌, Bool, true, false, cond, not, leb, ◌||◌, List, [], ◌∷◌, ◌++◌, length, take, drop, Some, refl, sym, ap, ◌∙◌, arith, append_assoc, length-append, take-append-drop, inl, inr}
use Rattle.std.specs.List.{position_or_len, before_first, after_first, list_any}
use Rattle.std.proofs.lemmas.Bool.{eqb-true, cases_lt, lt-leb}
use Rattle.std.proofs.lemmas.List.{append-nil, length-take}
use Rattle.std.proofs.lemmas.List.Sums.{prefix_len-le-length}
use Rattle.world.specs.Prelude.{Request, is_line_end, line_request, data_count, is_whole, IsOpen, open-nil, before-past, after-past, after-open}
use Rattle.line_input.specs.Reading.{Unfinished, Overruns}

later : (c : Bool) (n m : ℕ) → cond (not c) (1 + n) 0 ≡ suc m → (c ≡ false) × (n ≡ m)
later true n m e = absurd (omega (arith, e))
later false n m e = (refl, omega (arith, e))

open-any : (xs : List ℕ) → position_or_len is_line_end xs ≡ length xs → list_any is_line_end xs ≡ false
open-any [] e = refl
open-any (b ∷ xs) e =
    let s = later (is_line_end b) (position_or_len is_line_end xs) (length xs) e in
    rw s.0 (open-any xs s.1)

pub record SplitLine (xs : List ℕ) : Type 0 where
  pub parts : xs ≡ before_first is_line_end xs ++ 10 ∷ after_first is_line_end xs
  pub no_end : IsOpen (before_first is_line_end xs)

here : (b : ℕ) (xs : List ℕ) → is_line_end b ≡ true → SplitLine (b ∷ xs)
here b xs e = record {
  parts = rw e (ap (λ (x : ℕ). x ∷ xs) (eqb-true b 10 e));
  no_end = rw e open-nil;
}

there : (b : ℕ) (xs : List ℕ) → is_line_end b ≡ false → SplitLine xs → SplitLine (b ∷ xs)
there b xs e s =
    let n = position_or_len is_line_end xs in
    let front : take (1 + n) (b ∷ xs) ≡ b ∷ take n xs = let k : 1 + n ≡ suc n = omega arith in rw k refl in
    let back : drop (1 + n + 1) (b ∷ xs) ≡ drop (n + 1) xs = let k : 1 + n + 1 ≡ suc (n + 1) = omega arith in rw k refl in
    record {
      parts = rw (e, front, back) (ap (λ (ys : List ℕ). b ∷ ys) s.parts);
      no_end = rw (e, front) (record { none = rw e (omega (arith, s.no_end.none)) });
    }

at-either : (c : Bool) (n m : ℕ) → cond (not c) (1 + n) 0 < suc m → c ≡ false → n < m
at-either true n m h e = absurd cc
at-either false n m h e = omega (arith, h)

either-line : (c : Bool) (b : ℕ) (xs : List ℕ) → is_line_end b ≡ c → (is_line_end b ≡ false → SplitLine xs) → SplitLine (b ∷ xs)
either-line true b xs e f = here b xs e
either-line false b xs e f = there b xs e (f e)

split-line : (xs : List ℕ) → position_or_len is_line_end xs < length xs → SplitLine xs
split-line [] h = absurd (omega (arith, h))
split-line (b ∷ xs) h = either-line (is_line_end b) b xs refl (λ e. split-line xs (at-either (is_line_end b) (position_or_len is_line_end xs) (length xs) h e))

either-true : (c d : Bool) → d ≡ true → (c || d) ≡ true
either-true true d e = refl
either-true false d e = e

nil-right : (xs ys : List ℕ) → xs ++ ys ≡ [] → ys ≡ []
nil-right [] ys e = e
nil-right (x ∷ xs) ys e = absurd (omega (arith, ap length e))

any-end : (line rest : List ℕ) → list_any is_line_end (line ++ 10 ∷ rest) ≡ true
any-end [] rest = refl
any-end (b ∷ line) rest = either-true (is_line_end b) (list_any is_line_end (line ++ 10 ∷ rest)) (any-end line rest)

pub line-failed : (xs left rest : List ℕ) → xs ≡ rest ++ left → position_or_len is_line_end rest ≡ length rest → Unfinished xs left (λ r. is_whole r ≡ false)
line-failed xs left rest split open-rest = record { rest = rest; split = split; part = rw (open-any rest open-rest) refl }

short-data : (line rest : List ℕ) (r : Request) → IsOpen line → line_request line ≡ Some r → length rest < 512 * data_count r → is_whole (line ++ 10 ∷ rest) ≡ false
short-data line rest r is request short =
    let before : before_first is_line_end (line ++ 10 ∷ rest) ≡ line = before-past line (10 ∷ rest) is ∙ append-nil line in
    let many : leb (512 * data_count r) (length rest) ≡ false = lt-leb (512 * data_count r) (length rest) short in
    rw (any-end line rest, before, after-past line (10 ∷ rest) is, request, many) refl

pub data-failed : (xs behind left rest : List ℕ) (r : Request) → behind ≡ after_first is_line_end xs → line_request (before_first is_line_end xs) ≡ Some r
    → behind ≡ rest ++ left → length rest < 512 * data_count r → Unfinished xs left (λ p. is_whole p ≡ false)
data-failed xs behind left rest r behind-is request split short =
    elim (cases_lt (position_or_len is_line_end xs) (length xs)) [
      | inl lt ↦
          let s = split-line xs lt in
          record {
            rest = before_first is_line_end xs ++ 10 ∷ rest;
            split = s.parts ∙ ap (λ (ys : List ℕ). before_first is_line_end xs ++ 10 ∷ ys) (sym behind-is ∙ split) ∙ sym (append_assoc (before_first is_line_end xs) (10 ∷ rest) left);
            part = short-data (before_first is_line_end xs) rest r s.no_end request short;
          }
      | inr le ↦
          let is : position_or_len is_line_end xs ≡ length xs = omega (arith, le, prefix_len-le-length (λ x. not (is_line_end x)) xs) in
          let none : behind ≡ [] = behind-is ∙ after-open xs (record { none = is }) in
          let empty : left ≡ [] = nil-right rest left (sym split ∙ none) in
          record { rest = xs; split = rw empty (sym (append-nil xs)); part = rw (open-any xs is) refl }
    ]

pub sectors-failed : (xs left rest old : List ℕ) (i count : ℕ) → i < count → 512 * i ≤ length xs → old ≡ drop (512 * i) xs → old ≡ rest ++ left → length rest < 512
    → Unfinished xs left (λ p. length p < 512 * count)
sectors-failed xs left rest old i count lt long old-is split short = record {
  rest = take (512 * i) xs ++ rest;
  split = sym (take-append-drop (512 * i) xs) ∙ ap (λ (ys : List ℕ). take (512 * i) xs ++ ys) (sym old-is ∙ split) ∙ sym (append_assoc (take (512 * i) xs) rest left);
  part = omega (arith, length-append (take (512 * i) xs) rest, length-take (512 * i) xs);
}

-- the same where a byte more was probed
pub sectors-overrun : (xs after rest old : List ℕ) (byte i count : ℕ) → i < count → 512 * i ≤ length xs → old ≡ drop (512 * i) xs → old ≡ rest ++ byte ∷ after → length rest < 512
    → Overruns xs after (λ p. length p < 512 * count)
sectors-overrun xs after rest old byte i count lt long old-is split short =
    let part = sectors-failed xs (byte ∷ after) rest old i count lt long old-is split short in
    (part.rest, byte, part.split, part.part)

pub line-overrun : (xs after rest : List ℕ) (byte : ℕ) → xs ≡ rest ++ byte ∷ after → position_or_len is_line_end rest ≡ length rest → Overruns xs after (λ r. is_whole r ≡ false)
line-overrun xs after rest byte split open-rest =
    let part = line-failed xs (byte ∷ after) rest split open-rest in
    (part.rest, byte, part.split, part.part)

pub data-overrun : (xs behind after rest : List ℕ) (byte : ℕ) (r : Request) → behind ≡ after_first is_line_end xs → line_request (before_first is_line_end xs) ≡ Some r
    → behind ≡ rest ++ byte ∷ after → length rest < 512 * data_count r → Overruns xs after (λ p. is_whole p ≡ false)
data-overrun xs behind after rest byte r behind-is request split short =
    let part = data-failed xs behind (byte ∷ after) rest r behind-is request split short in
    (part.rest, byte, part.split, part.part)

-- a line that ends in the piece
pub has-end : (xs got piece left : List ℕ) → xs ≡ got ++ (piece ++ left) → position_or_len is_line_end piece < length piece → list_any is_line_end xs ≡ true
has-end xs got piece left is inside =
    let s = split-line piece inside in
    let front = before_first is_line_end piece in
    let back = after_first is_line_end piece in
    ap (list_any is_line_end)
    (is ∙ ap (λ (ys : List ℕ). got ++ (ys ++ left)) s.parts ∙ ap (λ (ys : List ℕ). got ++ ys) (append_assoc front (10 ∷ back) left) ∙ sym (append_assoc got front (10 ∷ (back ++ left))))
    ∙ any-end (got ++ front) (back ++ left)
