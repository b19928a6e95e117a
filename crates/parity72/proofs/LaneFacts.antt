-- Facts of lanes, over plain variables.
use Rattle.parity72.proofs.Prelude.{append_assoc, ◌≡◌, ℕ, ◌+◌, ◌-◌, ◌%◌, ◌<◌, ◌++◌, inl, inr, sym, drop, List, cond, false, length, get_or, replicate, map, leb, ltb, eqb, refl, ap, ◌∙◌, arith, w8, bit_xor, take_all, length-drop, length-append, range_with_len, nat_tests, length-zip2, get_or-zip2, tops_compared, length-sel_l, get_or-sel_l, get_or-replicate, length-replicate, chunk-drop, pick_l_left, pick_l_whole, pick_l-range_with_len, cases_lt, get_or_append_left, get_or-append_right, doubled}
use lib.Bits.{xor_zero_r}
use lib.Lanes.{zip2, sel_l, top, chunk, pick_l}
use borrow.Author.Tests.{eqb-true}
use Rattle.parity72.proofs.Checks.{all_below-at}

pub len-rep : (n a : ℕ) → length (replicate n a) ≡ n
len-rep n a = length-replicate n a

-- the doubling of each lane, by a carry that is selected where the top bit is set
abbrev carries : ℕ → List ℕ → List ℕ
carries n v = sel_l (map (top 7) (zip2 (λ a b. cond (leb a b) 255 0) (replicate n 128) v)) (replicate n 29) (replicate n 0)

abbrev doubles : ℕ → List ℕ → List ℕ
doubles n v = zip2 bit_xor (zip2 (λ a b. (a + b) % 256) v v) (carries n v)

carries-is : (n : ℕ) (v : List ℕ) → carries n v ≡ sel_l (zip2 leb (replicate n 128) v) (replicate n 29) (replicate n 0)
carries-is n v = ap (λ ms. sel_l ms (replicate n 29) (replicate n 0)) (tops_compared w8 leb (replicate n 128) v)

length-carries : (n : ℕ) (v : List ℕ) → length v ≡ n → length (carries n v) ≡ n
length-carries n v long =
    let tests = zip2 leb (replicate n 128) v in
    let r128 = len-rep n 128 in
    let r29 = len-rep n 29 in
    let r0 = len-rep n 0 in
    let lt = length-zip2 leb (replicate n 128) v (omega arith) in
    ap length (carries-is n v) ∙ omega (arith, length-sel_l {X = ℕ} tests (replicate n 29) (replicate n 0) (omega arith) (omega arith))

carries-at : (n : ℕ) (v : List ℕ) → length v ≡ n → (k : ℕ) → k < n → get_or (carries n v) k 0 ≡ cond (leb 128 (get_or v k 0)) 29 0
carries-at n v long k lt =
    let tests = zip2 leb (replicate n 128) v in
    let r128 = len-rep n 128 in
    let r29 = len-rep n 29 in
    let r0 = len-rep n 0 in
    let lz = length-zip2 leb (replicate n 128) v (omega arith) in
    ap (λ l. get_or l k 0) (carries-is n v)
    ∙ get_or-sel_l tests (replicate n 29) (replicate n 0) k 0 (omega arith) (omega arith) (omega arith)
    ∙ ap (λ t. cond t (get_or (replicate n 29) k 0) (get_or (replicate n 0) k 0)) (get_or-zip2 leb (replicate n 128) v k 0 0 false (omega arith) (omega arith))
    ∙ ap (λ x. cond (leb x (get_or v k 0)) (get_or (replicate n 29) k 0) (get_or (replicate n 0) k 0)) (get_or-replicate n k 128 0 lt)
    ∙ ap (λ x. cond (leb 128 (get_or v k 0)) x (get_or (replicate n 0) k 0)) (get_or-replicate n k 29 0 lt)
    ∙ ap (λ x. cond (leb 128 (get_or v k 0)) 29 x) (get_or-replicate n k 0 0 lt)

one-double : (b : ℕ) → b < 256 → bit_xor ((b + b) % 256) (cond (leb 128 b) 29 0) ≡ doubled b
one-double b lt = grind (arith, nat_tests, xor_zero_r)

pub doubles-at : (n : ℕ) (v : List ℕ) → length v ≡ n → (k : ℕ) → k < n → get_or v k 0 < 256 → get_or (doubles n v) k 0 ≡ doubled (get_or v k 0)
doubles-at n v long k lt fit =
    let sums = zip2 (λ a b. (a + b) % 256) v v in
    let la = length-zip2 (λ a b. (a + b) % 256) v v refl in
    let lc = length-carries n v long in
    get_or-zip2 bit_xor sums (carries n v) k 0 0 0 (omega arith) (omega arith)
    ∙ ap (λ a. bit_xor a (get_or (carries n v) k 0)) (get_or-zip2 (λ a b. (a + b) % 256) v v k 0 0 0 (omega arith) (omega arith))
    ∙ ap (bit_xor ((get_or v k 0 + get_or v k 0) % 256)) (carries-at n v long k lt)
    ∙ one-double (get_or v k 0) fit

-- an operator on two vectors of n lanes, at a lane
pub zip-at : (f : ℕ → ℕ → ℕ) (n : ℕ) (xs ys : List ℕ) → length xs ≡ n → length ys ≡ n → (k : ℕ) → k < n → get_or (zip2 f xs ys) k 0 ≡ f (get_or xs k 0) (get_or ys k 0)
zip-at f n xs ys lx ly k lt = get_or-zip2 f xs ys k 0 0 0 (omega arith) (omega arith)

-- what holds of each lane of two vectors, holds of each lane of the two joined
appended-at : (f : ℕ → ℕ) (n m : ℕ) (xs ys fs gs : List ℕ) → length xs ≡ n → length fs ≡ n
    → ((k : ℕ) → k < n → get_or fs k 0 ≡ f (get_or xs k 0)) → ((k : ℕ) → k < m → get_or gs k 0 ≡ f (get_or ys k 0))
    → (k : ℕ) → k < n + m → get_or (fs ++ gs) k 0 ≡ f (get_or (xs ++ ys) k 0)
appended-at f n m xs ys fs gs lx lf first second k lt =
    elim (cases_lt k n) [
      | inl l ↦ get_or_append_left fs gs 0 k (omega arith) ∙ first k l ∙ ap f (sym (get_or_append_left xs ys 0 k (omega arith)))
      | inr r ↦ get_or-append_right fs gs n k 0 lf r ∙ second (k - n) (omega arith) ∙ ap f (sym (get_or-append_right xs ys n k 0 lx r))
    ]

-- f of each lane of a vector, by its quarters
pub record IsEach (f : ℕ → ℕ) (xs fs : List ℕ) : Type 0 where
  pub from_long : length xs ≡ 16
  pub to_long : length fs ≡ 16
  pub each : (k : ℕ) → k < 16 → get_or fs k 0 ≡ f (get_or xs k 0)

pub by_quarters : (f : ℕ → ℕ) (v a b c d fa fb fc fd : List ℕ) → v ≡ a ++ (b ++ (c ++ d)) → IsEach f a fa → IsEach f b fb → IsEach f c fc
    → ((k : ℕ) → k < 16 → get_or fd k 0 ≡ f (get_or d k 0)) → (k : ℕ) → k < 64 → get_or (fa ++ (fb ++ (fc ++ fd))) k 0 ≡ f (get_or v k 0)
by_quarters f v a b c d fa fb fc fd whole is_a is_b is_c is_d k lt =
    appended-at f 16 48 a (b ++ (c ++ d)) fa (fb ++ (fc ++ fd)) is_a.from_long is_a.to_long is_a.each
    (appended-at f 16 32 b (c ++ d) fb (fc ++ fd) is_b.from_long is_b.to_long is_b.each
    (appended-at f 16 16 c d fc fd is_c.from_long is_c.to_long is_c.each is_d)) k lt
    ∙ ap (λ w. f (get_or w k 0)) (sym whole)

-- the four quarters of a vector
parts : (v : List ℕ) → length v ≡ 64 → v ≡ chunk 0 16 v ++ (chunk 16 16 v ++ (chunk 32 16 v ++ chunk 48 16 v))
parts v long =
    chunk-drop 0 16 v
    ∙ ap (λ t. chunk 0 16 v ++ t) (chunk-drop 16 16 v ∙ ap (λ t. chunk 16 16 v ++ t) (chunk-drop 32 16 v ∙ ap (λ t. chunk 32 16 v ++ t) (sym (take_all 16 (drop 48 v) (omega (arith, length-drop 48 v))))))

-- sixteen lanes of a vector, as `extract` picks them
abbrev sixteen : List ℕ → ℕ → List ℕ
sixteen v a = pick_l 0 (v ++ v) (range_with_len a 16)

pub quarters-in_order : (v : List ℕ) → length v ≡ 64 → v ≡ sixteen v 0 ++ (sixteen v 16 ++ (sixteen v 32 ++ sixteen v 48))
quarters-in_order v long =
    let a : chunk 0 16 v ≡ sixteen v 0 = sym (pick_l_left 0 v v 64 (range_with_len 0 16) long tt ∙ pick_l-range_with_len 0 v 0 16 (omega arith)) in
    let b : chunk 16 16 v ≡ sixteen v 16 = sym (pick_l_left 0 v v 64 (range_with_len 16 16) long tt ∙ pick_l-range_with_len 0 v 16 16 (omega arith)) in
    let c : chunk 32 16 v ≡ sixteen v 32 = sym (pick_l_left 0 v v 64 (range_with_len 32 16) long tt ∙ pick_l-range_with_len 0 v 32 16 (omega arith)) in
    let d : chunk 48 16 v ≡ sixteen v 48 = sym (pick_l_left 0 v v 64 (range_with_len 48 16) long tt ∙ pick_l-range_with_len 0 v 48 16 (omega arith)) in
    parts v long
    ∙ ap (λ t. t ++ (chunk 16 16 v ++ (chunk 32 16 v ++ chunk 48 16 v))) a
    ∙ ap (λ t. sixteen v 0 ++ (t ++ (chunk 32 16 v ++ chunk 48 16 v))) b
    ∙ ap (λ t. sixteen v 0 ++ (sixteen v 16 ++ (t ++ chunk 48 16 v))) c
    ∙ ap (λ t. sixteen v 0 ++ (sixteen v 16 ++ (sixteen v 32 ++ t))) d

-- the first n lanes of two vectors in a row, as `shuffle` picks them
abbrev in_a_row : ℕ → List ℕ → List ℕ → List ℕ
in_a_row n xs ys = pick_l 0 (xs ++ ys) (range_with_len 0 n)

pub quarters-joined : (a b c d : List ℕ) → length a ≡ 16 → length b ≡ 16 → length c ≡ 16 → length d ≡ 16
    → in_a_row 64 (in_a_row 32 a b) (in_a_row 32 c d) ≡ a ++ (b ++ (c ++ d))
quarters-joined a b c d la lb lc ld =
    let ab = length-append a b in
    let cd = length-append c d in
    let abcd = length-append (a ++ b) (c ++ d) in
    ap (λ t. in_a_row 64 t (in_a_row 32 c d)) (pick_l_whole 0 (a ++ b) 32 (omega arith))
    ∙ ap (in_a_row 64 (a ++ b)) (pick_l_whole 0 (c ++ d) 32 (omega arith))
    ∙ pick_l_whole 0 ((a ++ b) ++ (c ++ d)) 64 (omega arith)
    ∙ append_assoc a b (c ++ d)

pub four-long : (a b c d : List ℕ) → length a ≡ 16 → length b ≡ 16 → length c ≡ 16 → length d ≡ 16 → length (a ++ (b ++ (c ++ d))) ≡ 64
four-long a b c d la lb lc ld = omega (arith, length-append a (b ++ (c ++ d)), length-append b (c ++ d), length-append c d)

-- one more copy of a table in front
repeated : (t ys : List ℕ) (m : ℕ) → length t ≡ 16 → ((k : ℕ) → k < m → get_or ys k 0 ≡ get_or t (k % 16) 0) → (k : ℕ) → k < 16 + m → get_or (t ++ ys) k 0 ≡ get_or t (k % 16) 0
repeated t ys m long rest k lt =
    elim (cases_lt k 16) [
      | inl l ↦ let e : k ≡ k % 16 = omega arith in get_or_append_left t ys 0 k (omega arith) ∙ ap (λ j. get_or t j 0) e
      | inr r ↦ let e : (k - 16) % 16 ≡ k % 16 = omega arith in get_or-append_right t ys 16 k 0 long r ∙ rest (k - 16) (omega arith) ∙ ap (λ j. get_or t j 0) e
    ]

-- a table at each quarter
pub spread-at : (t : List ℕ) → length t ≡ 16 → (k : ℕ) → k < 64 → get_or (t ++ (t ++ (t ++ t))) k 0 ≡ get_or t (k % 16) 0
spread-at t long =
    repeated t (t ++ (t ++ t)) 48 long (repeated t (t ++ t) 32 long (repeated t t 16 long (λ k lt. let e : k ≡ k % 16 = omega arith in ap (λ j. get_or t j 0) e)))

one-double_and_1d : (b : ℕ) → b < 256 → bit_xor ((b + b) % 256) (cond (ltb b 128) 29 0) ≡ bit_xor (doubled b) 29
one-double_and_1d b lt = eqb-true (bit_xor ((b + b) % 256) (cond (ltb b 128) 29 0)) (bit_xor (doubled b) 29) (all_below-at (λ b. eqb (bit_xor ((b + b) % 256) (cond (ltb b 128) 29 0)) (bit_xor (doubled b) 29)) 256 refl b lt)

-- the doubling of each lane, and 29, by what is left out where the top bit is set
pub doubles_and_1d-at : (n : ℕ) (v outs : List ℕ) → length v ≡ n → length outs ≡ n → (k : ℕ) → k < n → get_or v k 0 < 256
    → get_or outs k 0 ≡ cond (ltb (get_or v k 0) 128) 29 0 → get_or (zip2 bit_xor (zip2 (λ a b. (a + b) % 256) v v) outs) k 0 ≡ bit_xor (doubled (get_or v k 0)) 29
doubles_and_1d-at n v outs long outs_long k lt fit out =
    let sums = zip2 (λ a b. (a + b) % 256) v v in
    let la = length-zip2 (λ a b. (a + b) % 256) v v refl in
    zip-at bit_xor n sums outs (la ∙ long) outs_long k lt
    ∙ ap (λ a. bit_xor a (get_or outs k 0)) (zip-at (λ a b. (a + b) % 256) n v v long long k lt)
    ∙ ap (bit_xor ((get_or v k 0 + get_or v k 0) % 256)) out
    ∙ one-double_and_1d (get_or v k 0) fit
