-- The items of an input, one by one.
use Rattle.std.proofs.Common.{◌≡◌, ℕ, zero, suc, ◌+◌, ◌*◌, ◌<◌, ◌≤◌, Bool, true, false, cond, ltb, List, [], ◌∷◌, length, drop, Option, Some, None, refl, sym, ap, ◌∙◌, arith}
use Rattle.std.specs.List.{before_first, after_first, position_or_len}
use Rattle.std.proofs.lemmas.List.{length-drop}
use Rattle.pur_base.specs.declared.limits.TheConstants.{SECTOR_BYTES}
use Rattle.pur_base.specs.declared.request.Request.{Request}
use Rattle.pur_base.specs.Grammar.{Item, Asked, Syntax, Cut, requests, items_within, first_item, line_item, line_request, data_count, sectors_in, is_line_end}

either-short : (b : Bool) (p q : Item × List ℕ) (n : ℕ) → length p.1 ≤ n → length q.1 ≤ n → length (cond {A = Item × List ℕ} b p q).1 ≤ n
either-short true p q n h k = h
either-short false p q n h k = k

rest-short : (o : Option Request) (behind : List ℕ) → length (line_item o behind).1 ≤ length behind
rest-short None behind = omega arith
rest-short (Some r) behind =
    either-short (ltb (length behind) (SECTOR_BYTES * data_count r)) (Cut, []) (Asked r (sectors_in (data_count r) behind), drop (SECTOR_BYTES * data_count r) behind) (length behind)
    (omega arith) (omega (arith, length-drop (SECTOR_BYTES * data_count r) behind))

after-short : (xs : List ℕ) → 0 < length xs → length (after_first is_line_end xs) < length xs
after-short xs h = omega (arith, length-drop (position_or_len is_line_end xs + 1) xs)

-- an item takes a byte at least
pub first-short : (xs : List ℕ) → 0 < length xs → length (first_item xs).1 < length xs
first-short xs h = omega (arith, rest-short (line_request (before_first is_line_end xs)) (after_first is_line_end xs), after-short xs h)

within-more : (n m : ℕ) (xs : List ℕ) → length xs ≤ n → length xs ≤ m → items_within n xs ≡ items_within m xs
within-more zero zero xs h k = refl
within-more zero (suc m) [] h k = refl
within-more zero (suc m) (x ∷ xs) h k = absurd (omega (arith, h))
within-more (suc n) zero [] h k = refl
within-more (suc n) zero (x ∷ xs) h k = absurd (omega (arith, k))
within-more (suc n) (suc m) [] h k = refl
within-more (suc n) (suc m) (x ∷ xs) h k =
    let some : 0 < length (x ∷ xs) = omega arith in
    ap (λ (is : List Item). (first_item (x ∷ xs)).0 ∷ is)
    (within-more n m (first_item (x ∷ xs)).1 (omega (arith, h, first-short (x ∷ xs) some)) (omega (arith, k, first-short (x ∷ xs) some)))

requests-more : (xs : List ℕ) → 0 < length xs → requests xs ≡ (first_item xs).0 ∷ requests (first_item xs).1
requests-more [] h = absurd (omega (arith, h))
requests-more (x ∷ xs) h =
    ap (λ (is : List Item). (first_item (x ∷ xs)).0 ∷ is)
    (within-more (length xs) (length (first_item (x ∷ xs)).1) (first_item (x ∷ xs)).1 (omega (arith, first-short (x ∷ xs) h)) (omega arith))

-- the items of an input are its first one and those of what follows it
pub requests-step : (xs : List ℕ) (item : Item) (ys : List ℕ) → 0 < length xs → first_item xs ≡ (item, ys) → requests xs ≡ item ∷ requests ys
requests-step xs item ys h is = requests-more xs h ∙ ap (λ (p : Item × List ℕ). p.0 ∷ requests p.1) is

cut-of : (b : Bool) (r : Request) (sectors : List (List ℕ)) (rest ys : List ℕ) → cond {A = Item × List ℕ} b (Cut, []) (Asked r sectors, rest) ≡ (Cut, ys) → ys ≡ []
cut-of true r sectors rest ys e = sym (ap (λ (p : Item × List ℕ). p.1) e)
cut-of false r sectors rest ys e = let f : Asked r sectors ≡ Cut = ap (λ (p : Item × List ℕ). p.0) e in absurd cc

cut-last : (o : Option Request) (behind ys : List ℕ) → line_item o behind ≡ (Cut, ys) → ys ≡ []
cut-last None behind ys e = let f : Syntax ≡ Cut = ap (λ (p : Item × List ℕ). p.0) e in absurd cc
cut-last (Some r) behind ys e = cut-of (ltb (length behind) (SECTOR_BYTES * data_count r)) r (sectors_in (data_count r) behind) (drop (SECTOR_BYTES * data_count r) behind) ys e

-- nothing follows a write that is cut
pub nothing-after-cut : (xs ys : List ℕ) → first_item xs ≡ (Cut, ys) → ys ≡ []
nothing-after-cut xs ys is = cut-last (line_request (before_first is_line_end xs)) (after_first is_line_end xs) ys is
