-- The numbers of the unknown shards, one after another.
use Rattle.segment_io.proofs.Prelude.{nat_tests, ◌≡◌, ◌≢◌, ℕ, zero, suc, ◌+◌, ◌<◌, Bool, true, false, List, [], ◌∷◌, ◌++◌, length, get_or, ◌∙◌, arith, below_more, length-append, All, AllPairs, Contains, get_or_append_left, get_or_at, is_unknown, ThreeUnknown}
use Rattle.std.proofs.lemmas.List.Elements.{All-append}
use Rattle.std.proofs.lemmas.List.Quantifiers.{all_pairs_push}

pub record Numbers (unknown : List Bool) (numbers : List ℕ) (upto : ℕ) : Type 0 where
  pub below : All (λ i. i < upto) numbers
  pub ascending : AllPairs (λ i j. i < j) numbers
  pub are : All (λ i. is_unknown unknown i ≡ true) numbers
  pub complete : (k : ℕ) → k < upto → is_unknown unknown k ≡ true → Contains numbers k

pub no_numbers : (unknown : List Bool) → Numbers unknown [] 0
no_numbers unknown = grind (arith, nat_tests)

pub known_number : (unknown : List Bool) (numbers : List ℕ) (shard : ℕ) → is_unknown unknown shard ≡ false → Numbers unknown numbers shard → Numbers unknown numbers (shard + 1)
known_number unknown numbers shard known so_far = grind (arith, nat_tests, below_more)

all_one : (P : ℕ → Type 0) (x : ℕ) → P x → All P (x ∷ [])
all_one P x p zero d lt = p
all_one P x p (suc k) d lt = absurd (omega (arith, lt))

contains_left : (xs ys : List ℕ) (x : ℕ) → Contains xs x → Contains (xs ++ ys) x
contains_left xs ys x (k, lt, e) = (k, omega (arith, lt, length-append xs ys), get_or_append_left xs ys x k lt ∙ e)

contains_last : (xs : List ℕ) (x : ℕ) → Contains (xs ++ x ∷ []) x
contains_last xs x = grind (arith, nat_tests, length-append, get_or_at)

pub one_number : (unknown : List Bool) (numbers : List ℕ) (shard : ℕ) → is_unknown unknown shard ≡ true → Numbers unknown numbers shard → Numbers unknown (numbers ++ shard ∷ []) (shard + 1)
one_number unknown numbers shard is so_far = record {
  below = All-append (λ i. i < shard + 1) numbers (shard ∷ []) (λ k d lt. let h = so_far.below k d lt in omega (arith, h)) (all_one (λ i. i < shard + 1) shard (omega arith));
  ascending = all_pairs_push (λ i j. i < j) numbers shard so_far.ascending (λ k d lt. so_far.below k d lt);
  are = All-append (λ i. is_unknown unknown i ≡ true) numbers (shard ∷ []) so_far.are (all_one (λ i. is_unknown unknown i ≡ true) shard is);
  complete = below_more (λ k. is_unknown unknown k ≡ true → Contains (numbers ++ shard ∷ []) k) shard (λ k lt is. contains_left numbers (shard ∷ []) k (so_far.complete k lt is)) (λ yes. contains_last numbers shard);
}

-- a third one
pub third_number : (unknown : List Bool) (numbers : List ℕ) (shard : ℕ) → length numbers ≡ 2 → shard < 9 → is_unknown unknown shard ≡ true → Numbers unknown numbers shard → ThreeUnknown unknown
third_number unknown numbers shard two within is so_far = record {
  first = get_or numbers 0 0;
  second = get_or numbers 1 0;
  third = shard;
  in_order = (so_far.ascending 0 1 0 (omega arith) (omega (arith, two)), so_far.below 1 0 (omega (arith, two)), within);
  are = (so_far.are 0 0 (omega (arith, two)), so_far.are 1 0 (omega (arith, two)), is);
}

pub apart_numbers : (unknown : List Bool) (numbers : List ℕ) (upto : ℕ) → Numbers unknown numbers upto → AllPairs (λ i j. i ≢ j) numbers
apart_numbers unknown numbers upto so_far i j d less lt e = let h = so_far.ascending i j d less lt in omega (arith, h, e)
