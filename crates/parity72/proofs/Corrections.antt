-- Shards that are corrected or encoded again, block by block.
use Rattle.parity72.proofs.Prelude.{◌≡◌, ◌≢◌, ◌⊎◌, ℕ, ◌+◌, ◌-◌, ◌*◌, ◌<◌, ◌≤◌, List, [], length, get_or, ap, sym, ◌∙◌, arith, inl, inr, subst, get_or-set_other, get_or-set_same, set, length-set, cases_eq, nat_tests, byte_of, shard_of, p_of, q_of, Encodes, Fixes, column_of, with_byte}
use mathlib.Core.Path.{fun_ext}
use Rattle.parity72.proofs.Progress.{below_block}
use Rattle.parity72.proofs.Codewords.{p_of-same, q_of-same}

pub set-same : (shards : List (List ℕ)) (i : ℕ) (s : List ℕ) → i < length shards → shard_of (set shards i s) i ≡ s
set-same shards i s lt = get_or-set_same shards i s [] lt

pub set-other : (shards : List (List ℕ)) (i j : ℕ) (s : List ℕ) → j ≢ i → shard_of (set shards i s) j ≡ shard_of shards j
set-other shards i j s ne = get_or-set_other shards i j s [] ne

-- the n bytes from `at` on, by their places
ranged : (X : ℕ → Type 0) (at n : ℕ) → ((k : ℕ) → k < n → X (at + k)) → (k : ℕ) → at ≤ k → k < at + n → X k
ranged X at n here k from to = let e : at + (k - at) ≡ k = omega arith in subst X e (here (k - at) (omega arith))

-- the n bytes of a shard from `at` on are f, and the others are what they were
pub record IsPutAt (f : ℕ → ℕ) (old new : List ℕ) (at n : ℕ) : Type 0 where
  pub here : (k : ℕ) → at ≤ k → k < at + n → get_or new k 0 ≡ f k
  pub outside : (k : ℕ) → (k < at) ⊎ (at + n ≤ k) → get_or new k 0 ≡ get_or old k 0
  pub same_size : length new ≡ length old

pub put-at : (f : ℕ → ℕ) (old new : List ℕ) (at n : ℕ) → ((k : ℕ) → k < at → get_or new k 0 ≡ get_or old k 0)
    → ((k : ℕ) → k < n → get_or new (at + k) 0 ≡ f (at + k))
    → ((k : ℕ) → at + n ≤ k → get_or new k 0 ≡ get_or old k 0) → length new ≡ length old → IsPutAt f old new at n
put-at f old new at n below here above size =
    record {
      here = ranged (λ k. get_or new k 0 ≡ f k) at n here;
      outside = λ k out. elim out [ inl l ↦ below k l | inr r ↦ above k r ];
      same_size = size;
    }

-- ---- a column with another byte
with_byte-here : (a x : ℕ) (column : ℕ → ℕ) → with_byte a x column a ≡ x
with_byte-here a x column = grind (arith, nat_tests)

pub byte-here : (a x : ℕ) (column : ℕ → ℕ) (i : ℕ) → i ≡ a → with_byte a x column i ≡ x
byte-here a x column i e = ap (with_byte a x column) e ∙ with_byte-here a x column

pub byte-other : (a x : ℕ) (column : ℕ → ℕ) (i : ℕ) → i ≢ a → with_byte a x column i ≡ column i
byte-other a x column i ne = grind (arith, nat_tests)

-- one shard that is written, at each of its n bytes from `at` on
pub fixes-one : (x : ℕ → ℕ) (old : List (List ℕ)) (a : ℕ) (s : List ℕ) (at n : ℕ) → a < length old → IsPutAt x (shard_of old a) s at n
    → (i k : ℕ) → at ≤ k → k < at + n → byte_of (set old a s) i k ≡ with_byte a (x k) (column_of old k) i
fixes-one x old a s at n lt puts i k from to =
    elim (cases_eq i a) [
      | inl e ↦ ap (λ j. byte_of (set old a s) j k) e ∙ ap (λ t. get_or t k 0) (set-same old a s lt) ∙ puts.here k from to ∙ sym (byte-here a (x k) (column_of old k) i e)
      | inr ne ↦ ap (λ t. get_or t k 0) (set-other old a i s ne) ∙ sym (byte-other a (x k) (column_of old k) i ne)
    ]

pub outside-one : (x : ℕ → ℕ) (old : List (List ℕ)) (a : ℕ) (s : List ℕ) (at n : ℕ) → a < length old → IsPutAt x (shard_of old a) s at n
    → (i k : ℕ) → (k < at) ⊎ (at + n ≤ k) → byte_of (set old a s) i k ≡ byte_of old i k
outside-one x old a s at n lt puts i k out =
    elim (cases_eq i a) [
      | inl e ↦ ap (λ j. byte_of (set old a s) j k) e ∙ ap (λ t. get_or t k 0) (set-same old a s lt) ∙ puts.outside k out ∙ ap (λ j. byte_of old j k) (sym e)
      | inr ne ↦ ap (λ t. get_or t k 0) (set-other old a i s ne)
    ]

pub sizes-one : (x : ℕ → ℕ) (old : List (List ℕ)) (a : ℕ) (s : List ℕ) (at n : ℕ) → a < length old → IsPutAt x (shard_of old a) s at n
    → (i : ℕ) → length (shard_of (set old a s) i) ≡ length (shard_of old i)
sizes-one x old a s at n lt puts i =
    elim (cases_eq i a) [
      | inl e ↦ ap (λ j. length (shard_of (set old a s) j)) e ∙ ap length (set-same old a s lt) ∙ puts.same_size ∙ ap (λ j. length (shard_of old j)) (sym e)
      | inr ne ↦ ap length (set-other old a i s ne)
    ]

-- two shards that are written one after the other
pub fixes-two : (fix : (ℕ → ℕ) → ℕ → ℕ) (x y : ℕ → ℕ) (old : List (List ℕ)) (a b : ℕ) (s t : List ℕ) (at n : ℕ) → a < length old → b < length old
    → IsPutAt x (shard_of old b) s at n → IsPutAt y (shard_of (set old b s) a) t at n
    → ((i : ℕ) → i < length old → length (shard_of old i) ≡ 4096)
    → ((i k : ℕ) → with_byte a (y k) (with_byte b (x k) (column_of old k)) i ≡ fix (column_of old k) i)
    → Fixes fix old (set (set old b s) a t) at (at + n)
fixes-two fix x y old a b s t at n a_in b_in puts_b puts_a sizes same =
    let mid = set old b s in
    let mid_count : length mid ≡ length old = length-set old b s in
    let a_mid : a < length mid = omega arith in
    record {
      sizes = λ i lt some. sizes i lt;
      fixed = λ i k from to.
          fixes-one y mid a t at n a_mid puts_a i k from to
          ∙ ap (λ column. with_byte a (y k) column i) (fun_ext (λ j. fixes-one x old b s at n b_in puts_b j k from to))
          ∙ same i k;
      outside = λ i k out. outside-one y mid a t at n a_mid puts_a i k out ∙ outside-one x old b s at n b_in puts_b i k out;
      same_count = length-set mid a t ∙ mid_count;
      same_sizes = λ i. sizes-one y mid a t at n a_mid puts_a i ∙ sizes-one x old b s at n b_in puts_b i;
    }

-- ---- shards whose columns are fixed
pub fixes-none : (fix : (ℕ → ℕ) → ℕ → ℕ) (old : List (List ℕ)) → Fixes fix old old 0 0
fixes-none fix old = grind (arith, nat_tests)

-- up to `mid`, and from there on
fixes-more : (fix : (ℕ → ℕ) → ℕ → ℕ) (old now new : List (List ℕ)) (mid to : ℕ) → mid ≤ to → Fixes fix old now 0 mid → Fixes fix now new mid to → Fixes fix old new 0 to
fixes-more fix old now new mid to le done more = grind (arith, nat_tests)

-- block m, behind those that are fixed
pub fixes-next : (fix : (ℕ → ℕ) → ℕ → ℕ) (old now new : List (List ℕ)) (m : ℕ) → Fixes fix old now 0 (m * 64) → Fixes fix now new (m * 64) (m * 64 + 64) → Fixes fix old new 0 ((m + 1) * 64)
fixes-next fix old now new m done more =
    let end : m * 64 + 64 ≡ (m + 1) * 64 = omega arith in
    subst (Fixes fix old new 0) end (fixes-more fix old now new (m * 64) (m * 64 + 64) (omega arith) done more)

-- ---- P and Q written anew, block by block
pub encodes-none : (old : List (List ℕ)) → Encodes old old 0
encodes-none old = grind (arith, nat_tests)

-- the n bytes of a shard from `at` on are f
pub record PutsAt (f : ℕ → ℕ) (old new : List ℕ) (at n : ℕ) : Type 0 where
  pub below : (k : ℕ) → k < at → get_or new k 0 ≡ get_or old k 0
  pub here : (k : ℕ) → k < n → get_or new (at + k) 0 ≡ f (at + k)
  pub same_size : length new ≡ length old

pub encodes-more : (old now : List (List ℕ)) (s t : List ℕ) (at n : ℕ) → length old ≡ 9 → Encodes old now at
    → ((i : ℕ) → i < 9 → length (shard_of now i) ≡ 4096)
    → PutsAt (p_of now) (shard_of now 7) s at n
    → PutsAt (q_of now) (shard_of (set now 7 s) 8) t at n
    → Encodes old (set (set now 7 s) 8 t) (at + n)
encodes-more old now s t at n nine done sizes p_puts q_puts =
    let mid = set now 7 s in
    let new = set mid 8 t in
    let now_nine : length now ≡ 9 = done.same_count ∙ nine in
    let mid_nine : length mid ≡ 9 = length-set now 7 s ∙ now_nine in
    let seven : ◌≢◌ {A = ℕ} 7 8 = omega arith in
    let eight : ◌≢◌ {A = ℕ} 8 7 = omega arith in
    let at_p : shard_of new 7 ≡ s = set-other mid 8 7 t seven ∙ set-same now 7 s (omega arith) in
    let at_q : shard_of new 8 ≡ t = set-same mid 8 t (omega arith) in
    let was_q : shard_of mid 8 ≡ shard_of now 8 = set-other now 7 8 s eight in
    let others : (i : ℕ) → i ≢ 7 → i ≢ 8 → shard_of new i ≡ shard_of now i = λ i np nq. set-other mid 8 i t nq ∙ set-other now 7 i s np in
    let data_is : (k i : ℕ) → i < 7 → byte_of now i k ≡ byte_of old i k =
    λ k i lt. let np : i ≢ 7 = omega arith in let nq : i ≢ 8 = omega arith in ap (λ x. get_or x k 0) (done.others i np nq) in
    record {
      was_read = λ i lt some. sym (done.same_sizes i) ∙ sizes i lt;
      p = below_block (λ k. byte_of new 7 k ≡ p_of old k) at n
          (λ k lt. ap (λ x. get_or x k 0) at_p ∙ p_puts.below k lt ∙ done.p k lt)
          (λ k lt. ap (λ x. get_or x (at + k) 0) at_p ∙ p_puts.here k lt ∙ p_of-same now old (at + k) (data_is (at + k)));
      q = below_block (λ k. byte_of new 8 k ≡ q_of old k) at n
          (λ k lt. ap (λ x. get_or x k 0) at_q ∙ q_puts.below k lt ∙ ap (λ x. get_or x k 0) was_q ∙ done.q k lt)
          (λ k lt. ap (λ x. get_or x (at + k) 0) at_q ∙ q_puts.here k lt ∙ q_of-same now old (at + k) (data_is (at + k)));
      others = λ i np nq. others i np nq ∙ done.others i np nq;
      same_count = length-set mid 8 t ∙ length-set now 7 s ∙ done.same_count;
      same_sizes = λ i. elim (cases_eq i 7) [
        | inl e ↦ ap (λ j. length (shard_of new j)) e ∙ ap length at_p ∙ p_puts.same_size ∙ done.same_sizes 7 ∙ ap (λ j. length (shard_of old j)) (sym e)
        | inr np ↦ elim (cases_eq i 8) [
          | inl e ↦ ap (λ j. length (shard_of new j)) e ∙ ap length at_q ∙ q_puts.same_size ∙ ap length was_q ∙ done.same_sizes 8 ∙ ap (λ j. length (shard_of old j)) (sym e)
          | inr nq ↦ ap length (others i np nq) ∙ done.same_sizes i
        ]
      ];
    }
