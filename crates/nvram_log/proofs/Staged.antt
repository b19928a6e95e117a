-- Sectors, and records, as they are copied.
use Rattle.nvram_log.proofs.Prelude.{nat_tests, ◌≡◌, ◌≤◌, ◌-◌, ℕ, suc, ◌+◌, ◌*◌, ◌<◌, List, [], ◌∷◌, ◌++◌, length, take, drop, get_or, slice_index_or, sym, ◌∙◌, ap, refl, arith, append_assoc, length-append, take_at, drop_at, drop-drop, append-nil, get_or-append-add, take_more, get_or_past, get_or_append_left, AllByRecursion, concat, between, IsBytes, bytes_at}
use Rattle.std.proofs.lemmas.Slice.{between_is, take-put_mid_below, between-put_mid}
use borrow.Rule.Slice.PartMut.{put_mid}

pub concat-append : (xs ys : List (List ℕ)) → concat (xs ++ ys) ≡ concat xs ++ concat ys
concat-append [] ys = refl
concat-append (x ∷ xs) ys = ap (λ (l : List ℕ). x ++ l) (concat-append xs ys) ∙ sym (append_assoc x (concat xs) (concat ys))

-- one sector more
more : (sectors : List (List ℕ)) (i : ℕ) → i < length sectors → concat (take (i + 1) sectors) ≡ concat (take i sectors) ++ get_or sectors i []
more sectors i within = ap concat (take_more sectors i [] within) ∙ concat-append (take i sectors) (get_or sectors i [] ∷ []) ∙ ap (λ (l : List ℕ). concat (take i sectors) ++ l) (append-nil (get_or sectors i []))

pub put_one : (into init sector : List ℕ) (sectors : List (List ℕ)) (i k : ℕ) → i < length sectors → k ≡ 512 → sector ≡ get_or sectors i [] → length (concat (take i sectors)) ≡ 512 * i → into ≡ concat (take i sectors) ++ drop (512 * i) init
    → put_mid (512 * i) k into sector ≡ concat (take (i + 1) sectors) ++ drop (512 * (i + 1)) init
put_one into init sector sectors i k within size is long copied = grind (arith, nat_tests, take_at, drop_at, drop-drop, append_assoc, more)

pub longer : (sectors : List (List ℕ)) (i : ℕ) → i < length sectors → length (get_or sectors i []) ≡ 512 → length (concat (take i sectors)) ≡ 512 * i → length (concat (take (i + 1) sectors)) ≡ 512 * (i + 1)
longer sectors i within size long = omega (arith, ap (length {A = ℕ}) (more sectors i within), length-append (concat (take i sectors)) (get_or sectors i []))

-- what was copied is bytes
pub are_bytes : (sectors : List (List ℕ)) (i : ℕ) (all rest : List ℕ) → i < length sectors → length (get_or sectors i []) ≡ 512 → length (concat (take i sectors)) ≡ 512 * i → all ≡ concat (take (i + 1) sectors) ++ rest
    → ((n : ℕ) → get_or all n 0 < 256) → IsBytes (get_or sectors i [])
are_bytes sectors i all rest within size long is fits o = grind (arith, nat_tests, more, get_or_append_left, length-append, get_or-append-add, get_or_past)

pub all_by : (P : List ℕ → Type 0) (xs : List (List ℕ)) → ((k : ℕ) → k < length xs → P (slice_index_or xs k [])) → AllByRecursion P xs
all_by P [] each = tt
all_by P (x ∷ xs) each = (each 0 (omega arith), all_by P xs (λ k lt. each (suc k) (omega arith)))

-- ---- a write to a part

pub at_range : (p n : ℕ) (xs : List ℕ) → bytes_at p n xs ≡ between p (p + n) xs
at_range p n xs = ap (λ (m : ℕ). take m (drop p xs)) (let e : n ≡ p + n - p = omega arith in e)

-- bytes in front of the part stay
pub same_below : (p n a k : ℕ) (xs ys : List ℕ) → p + n ≤ a → a ≤ length xs → bytes_at p n (put_mid a k xs ys) ≡ bytes_at p n xs
same_below p n a k xs ys below within = grind (arith, nat_tests, at_range, between_is, take-put_mid_below)

pub in_part : (n a k : ℕ) (xs ys : List ℕ) → a ≤ length xs → length ys ≡ n → bytes_at a n (put_mid a k xs ys) ≡ ys
in_part n a k xs ys within long = at_range a n (put_mid a k xs ys) ∙ between-put_mid a k xs ys (a + n) within (omega (arith, long))
