-- A piece is put into a shard, and the shard into its stripe.
use Rattle.segment_writer.proofs.Prelude.{nat_tests, ◌≡◌, inl, inr, ℕ, ◌+◌, ◌<◌, ◌≤◌, List, [], ◌++◌, length, take, drop, slice_index, slice_set, sym, subst, ◌∙◌, ap, arith, get_or-drop, get_or-set_same, get_or-set_other, drop_at, take_at, length-take-le, cases_eq, bytes_at, part_length, same_at}
use Rattle.std.proofs.Math.Seq.{get_or-append_right}
use borrow.Rule.Slice.PartMut.{put_mid, same_len_mid}
use Rattle.parity72.specs.Parity.{shard_of}
use Rattle.segment_io.proofs.Pieces.{put_below}

put_above : (at k i : ℕ) (xs ys : List ℕ) → at + k ≤ length xs → length ys ≡ k → at + k ≤ i → slice_index (put_mid at k xs ys) i ≡ slice_index xs i
put_above at k i xs ys fits long from = grind (arith, nat_tests, length-take-le, get_or-append_right, slice_index, get_or-drop)

module _ (shard piece : List ℕ) (at size k : ℕ) (fits : at + size ≤ length shard) (long : length piece ≡ size) (as_long : k ≡ size) where
  pub put_here : bytes_at at size (put_mid at k shard piece) ≡ piece
  put_here =
      ap (take size) (drop_at (take at shard) (piece ++ drop k (drop at shard)) at (length-take-le at shard (omega (arith, fits))))
      ∙ take_at piece (drop k (drop at shard)) size long

  each : (i : ℕ) → (at ≤ i → i < at + size → ⊥) → slice_index (put_mid at k shard piece) i ≡ slice_index shard i
  each i out = grind (arith, nat_tests, put_below, put_above)

  pub put_elsewhere : (other : ℕ) → ((i : ℕ) → other ≤ i → i < other + size → at ≤ i → i < at + size → ⊥) → bytes_at other size (put_mid at k shard piece) ≡ bytes_at other size shard
  put_elsewhere other apart =
      same_at (put_mid at k shard piece) shard other size (same_len_mid at k shard piece (omega (arith, part_length at k shard, fits, long, as_long))) (λ i from to. each i (apart i from to))

module _ (read : List ℕ → ℕ → List ℕ) (stripe : List (List ℕ)) (new : List ℕ) (i : ℕ) (lt : i < length stripe) where
  pub piece_here : (p : ℕ) → read (shard_of (slice_set stripe i new) i) p ≡ read new p
  piece_here p = ap (λ (s : List ℕ). read s p) (get_or-set_same stripe i new [] lt)

  pub piece_elsewhere : (j p : ℕ) → (j ≡ i → read new p ≡ read (shard_of stripe i) p) → read (shard_of (slice_set stripe i new) j) p ≡ read (shard_of stripe j) p
  piece_elsewhere j p same = elim (cases_eq j i) [
    | inr apart ↦ ap (λ (s : List ℕ). read s p) (get_or-set_other stripe i j new [] apart)
    | inl here ↦ subst (λ (n : ℕ). read (shard_of (slice_set stripe i new) n) p ≡ read (shard_of stripe n) p) (sym here) (piece_here p ∙ same here)
  ]
