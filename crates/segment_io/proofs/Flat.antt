-- Write units that stand one behind another.
use Rattle.segment_io.proofs.Prelude.{nat_tests, ◌≡◌, ℕ, zero, suc, ◌+◌, ◌*◌, ◌<◌, ◌≤◌, Bool, List, [], ◌∷◌, ◌++◌, length, take, drop, sym, ◌∙◌, ap, subst, arith, append_assoc, length-append, below_more, slice_set, get_or-take, length-take-le, get_or-set_same, get_or-set_other, flat_map, get_or_append_left, get_or_at, take-append_seam, drop-append-add, take-length, bytes_at, Place, Shelved, IsCodeword, shard_of, place_of, drive_of, write_unit_at, bytes_of, stripe_in, shards_in, IsRunOf, RunHolds}
use Rattle.segment_io.proofs.Progress.{Hold}
use Rattle.segment_io.proofs.Tried.{part_of_part}

front_of : (x rest : List ℕ) → length x ≡ 4096 → take 4096 (x ++ rest) ≡ x
front_of x rest long = ap (λ (k : ℕ). take k (x ++ rest)) (sym long) ∙ take-append_seam x rest

behind : (x rest : List ℕ) (number : ℕ) → length x ≡ 4096 → drop (4096 * suc number) (x ++ rest) ≡ drop (4096 * number) rest
behind x rest number long = ap (λ (k : ℕ). drop k (x ++ rest)) (let e : 4096 * suc number ≡ length x + 4096 * number = omega (arith, long) in e) ∙ drop-append-add x rest (4096 * number)

-- of write units one behind another, the one of that number stands there
pub part_of_flat : (xs : List (List ℕ)) (number : ℕ) → ((k : ℕ) → k < length xs → length (shard_of xs k) ≡ 4096) → number < length xs → bytes_at (4096 * number) 4096 (flat_map (λ (x : List ℕ). x) xs) ≡ shard_of xs number
part_of_flat [] number sizes lt = absurd (omega (arith, lt))
part_of_flat (x ∷ xs) zero sizes lt = front_of x (flat_map (λ (y : List ℕ). y) xs) (sizes 0 (omega arith))
part_of_flat (x ∷ xs) (suc number) sizes lt =
    ap (take 4096) (behind x (flat_map (λ (y : List ℕ). y) xs) number (sizes 0 (omega arith)))
    ∙ part_of_flat xs number (λ k less. sizes (suc k) (omega (arith, less))) (omega (arith, lt))

-- the first lists of some, one behind another
pub run_of_taken : (xs : List (List ℕ)) (count : ℕ) (units : ℕ → List ℕ) → count ≤ length xs → ((k : ℕ) → k < length xs → length (shard_of xs k) ≡ 4096) → ((number : ℕ) → number < count → shard_of xs number ≡ units number)
    → IsRunOf units count (flat_map (λ (x : List ℕ). x) (take count xs))
run_of_taken xs count units fits sizes are number lt = grind (arith, nat_tests, part_of_flat, get_or-take, length-take-le)

-- a run of one is the only one
pub run_of_one : (units : ℕ → List ℕ) (count : ℕ) (bytes : List ℕ) → count ≡ 1 → length bytes ≡ 4096 → bytes ≡ units 0 → IsRunOf units count bytes
run_of_one units count bytes one long is number lt =
    let first : number ≡ 0 = omega (arith, lt, one) in
    subst (λ (k : ℕ). bytes_at (4096 * k) 4096 bytes ≡ units k) (sym first) (ap (λ (k : ℕ). take k bytes) (sym long) ∙ take-length bytes ∙ is)

pub run_holds : (b : Shelved) (places : List Place) (now : List Bool) (n count : ℕ) (units : ℕ → ℕ → List ℕ) → Hold b places now n count (λ shard bytes. IsRunOf (λ number. units number shard) count bytes) 9 → RunHolds (bytes_of b) places now n count units
run_holds b places now n count units hold number lt shard within none =
    ap (λ (at : ℕ). bytes_at at 4096 (bytes_of b (drive_of places shard))) (let e : write_unit_at (place_of places shard) (n + number) ≡ write_unit_at (place_of places shard) n + 4096 * number = omega arith in e)
    ∙ part_of_part (write_unit_at (place_of places shard) n) (4096 * count) (4096 * number) 4096 (bytes_of b (drive_of places shard)) (omega (arith, lt))
    ∙ hold shard within none number lt

-- ---- stripes in lists

-- a shard of data of a stripe of a run
data_in : (stripes : List (List (List ℕ))) (p q : List (List ℕ)) (number shard : ℕ) → shard < 7 → length (stripe_in stripes number) ≡ 7 → shard_of (shards_in stripes p q number) shard ≡ shard_of (stripe_in stripes number) shard
data_in stripes p q number shard lt seven = get_or_append_left (stripe_in stripes number) (shard_of p number ∷ shard_of q number ∷ []) [] shard (omega (arith, lt, seven))

p_in : (stripes : List (List (List ℕ))) (p q : List (List ℕ)) (number shard : ℕ) → shard ≡ 7 → length (stripe_in stripes number) ≡ 7 → shard_of (shards_in stripes p q number) shard ≡ shard_of p number
p_in stripes p q number shard is seven = get_or_at (stripe_in stripes number) (shard_of p number) (shard_of q number ∷ []) [] shard (omega (arith, is, seven))

q_in : (stripes : List (List (List ℕ))) (p q : List (List ℕ)) (number shard : ℕ) → shard ≡ 8 → length (stripe_in stripes number) ≡ 7 → shard_of (shards_in stripes p q number) shard ≡ shard_of q number
q_in stripes p q number shard is seven =
    let front = stripe_in stripes number ++ shard_of p number ∷ [] in
    ap (λ (l : List (List ℕ)). shard_of l shard) (sym (append_assoc (stripe_in stripes number) (shard_of p number ∷ []) (shard_of q number ∷ [])))
    ∙ get_or_at front (shard_of q number) [] [] shard (omega (arith, is, seven, length-append (stripe_in stripes number) (shard_of p number ∷ [])))

-- the runs of a shard of data, of P and of Q
pub data_run : (stripes : List (List (List ℕ))) (run p q : List (List ℕ)) (shard : ℕ) → shard < 7 → length stripes ≤ length run → ((k : ℕ) → k < length run → length (shard_of run k) ≡ 4096) → ((k : ℕ) → k < length stripes → length (stripe_in stripes k) ≡ 7)
    → ((k : ℕ) → k < length stripes → shard_of run k ≡ shard_of (stripe_in stripes k) shard)
    → IsRunOf (λ number. shard_of (shards_in stripes p q number) shard) (length stripes) (flat_map (λ (x : List ℕ). x) (take (length stripes) run))
data_run stripes run p q shard lt fits sizes sevens gathered =
    run_of_taken run (length stripes) (λ number. shard_of (shards_in stripes p q number) shard) fits sizes (λ k less. gathered k less ∙ sym (data_in stripes p q k shard lt (sevens k less)))

pub p_run : (stripes : List (List (List ℕ))) (p q : List (List ℕ)) (shard : ℕ) → shard ≡ 7 → length stripes ≤ length p → ((k : ℕ) → k < length p → length (shard_of p k) ≡ 4096) → ((k : ℕ) → k < length stripes → length (stripe_in stripes k) ≡ 7)
    → IsRunOf (λ number. shard_of (shards_in stripes p q number) shard) (length stripes) (flat_map (λ (x : List ℕ). x) (take (length stripes) p))
p_run stripes p q shard is fits sizes sevens = run_of_taken p (length stripes) (λ number. shard_of (shards_in stripes p q number) shard) fits sizes (λ k less. sym (p_in stripes p q k shard is (sevens k less)))

pub q_run : (stripes : List (List (List ℕ))) (p q : List (List ℕ)) (shard : ℕ) → shard ≡ 8 → length stripes ≤ length q → ((k : ℕ) → k < length q → length (shard_of q k) ≡ 4096) → ((k : ℕ) → k < length stripes → length (stripe_in stripes k) ≡ 7)
    → IsRunOf (λ number. shard_of (shards_in stripes p q number) shard) (length stripes) (flat_map (λ (x : List ℕ). x) (take (length stripes) q))
q_run stripes p q shard is fits sizes sevens = run_of_taken q (length stripes) (λ number. shard_of (shards_in stripes p q number) shard) fits sizes (λ k less. sym (q_in stripes p q k shard is (sevens k less)))

pub single_run : (stripes : List (List (List ℕ))) (p q : List (List ℕ)) (shard : ℕ) → shard < 7 → length stripes ≡ 1 → length (shard_of (stripe_in stripes 0) shard) ≡ 4096 → length (stripe_in stripes 0) ≡ 7
    → IsRunOf (λ number. shard_of (shards_in stripes p q number) shard) (length stripes) (shard_of (stripe_in stripes 0) shard)
single_run stripes p q shard lt one long seven =
    run_of_one (λ number. shard_of (shards_in stripes p q number) shard) (length stripes) (shard_of (stripe_in stripes 0) shard) one long (sym (data_in stripes p q 0 shard lt seven))

-- one more stripe has its P and Q
pub codewords_more : (stripes : List (List (List ℕ))) (p q : List (List ℕ)) (number : ℕ) (x y : List ℕ) → number < length p → number < length q → IsCodeword (stripe_in stripes number ++ x ∷ y ∷ []) → ((k : ℕ) → k < number → IsCodeword (shards_in stripes p q k))
    → (k : ℕ) → k < number + 1 → IsCodeword (shards_in stripes (slice_set p number x) (slice_set q number y) k)
codewords_more stripes p q number x y in_p in_q codeword before = grind (arith, nat_tests, below_more, slice_set, get_or-set_other, get_or-set_same)
