-- What a view shows of a stripe.
use Rattle.segment_io.proofs.Prelude.{nat_tests, ◌≡◌, ◌⊎◌, inl, inr, ℕ, zero, suc, ◌+◌, ◌<◌, Bool, false, cond, List, [], ◌∷◌, length, map, refl, sym, ◌∙◌, subst, arith, Option, Some, None, IfSome, is_some, is_none, count_by, option_map, AllZip, bytes_at, Image, View, drive, Place, Shelved, Stop, MayStop, as_read, shard_of, write_unit, StripeStands, is_in, place_of, drive_of, write_unit_at, bytes_of, HoldsStripe}
use Rattle.std.proofs.lemmas.List.Sums.{sum_by-cons}
use Rattle.segment_io.specs.Views.{ShowsMost}

counted : {X : Type 0} (p : X → Bool) (x : X) (xs : List X) → count_by p (x ∷ xs) ≡ cond (p x) 1 0 + count_by p xs
counted p x xs = sum_by-cons (λ y. cond (p y) 1 0) x xs

-- each unit is shown or it isn't
shown_or_not : (view : View) (n : ℕ) (places : List Place) → count_by is_some (map (λ p. write_unit n p view) places) + count_by (λ p. is_none (view (drive p.slot))) places ≡ length places
shown_or_not view n [] = refl
shown_or_not view n (p ∷ ps) =
    rw (counted is_some (write_unit n p view) (map (λ p. write_unit n p view) ps)) (rw (counted (λ p. is_none (view (drive p.slot))) p ps) (one (view (drive p.slot)) (shown_or_not view n ps)))
  where
    part : List ℕ → List ℕ
    part bytes = bytes_at (write_unit_at p n) 4096 bytes

    one : (o : Option (List ℕ)) → count_by is_some (map (λ p. write_unit n p view) ps) + count_by (λ p. is_none (view (drive p.slot))) ps ≡ length ps
        → (cond (is_some (option_map part o)) 1 0 + count_by is_some (map (λ p. write_unit n p view) ps)) + (cond (is_none o) 1 0 + count_by (λ p. is_none (view (drive p.slot))) ps) ≡ suc (length ps)
    one (Some b) e = omega (arith, e)
    one None e = omega (arith, e)

agree_each : (view : View) (n : ℕ) (shards : List (List ℕ)) (places : List Place) → length shards ≡ length places → ((k : ℕ) → k < length places → IfSome (write_unit n (place_of places k) view) (λ bytes. bytes ≡ shard_of shards k))
    → AllZip (λ shard shown. IfSome shown (λ bytes. bytes ≡ shard)) shards (map (λ p. write_unit n p view) places)
agree_each view n [] [] same each = tt
agree_each view n [] (p ∷ ps) same each = absurd (omega (arith, same))
agree_each view n (s ∷ ss) [] same each = absurd (omega (arith, same))
agree_each view n (s ∷ ss) (p ∷ ps) same each = (each zero (omega arith), agree_each view n ss ps (omega (arith, same)) (λ k lt. each (suc k) (omega (arith, lt))))

-- a stripe that stands on the drives is shown by each view of them
pub stripe_shown : (image : Image) (places : List Place) (lost : List Bool) (view : View) (stripe : ℕ) (shards : List (List ℕ)) → length places ≡ 9 → stripe < 15 → HoldsStripe image places lost stripe shards → ShowsMost image places lost view
    → StripeStands view places stripe shards
stripe_shown image places lost view stripe shards nine there holds shows = record {
  there = there;
  codeword = holds.codeword;
  agrees = agree_each view (stripe + 1) shards places (holds.codeword.count ∙ sym nine) (λ k lt. one k (omega (arith, lt, nine)));
  enough = omega (arith, shown_or_not view (stripe + 1) places, shows.missing, nine);
}
  where
    here : (o : Option (List ℕ)) (k : ℕ) → k < 9 → (o ≡ None) ⊎ ((o ≡ Some (image (drive_of places k))) × (is_in lost (place_of places k).slot ≡ false))
        → IfSome (option_map (bytes_at (write_unit_at (place_of places k) (stripe + 1)) 4096) o) (λ bytes. bytes ≡ shard_of shards k)
    here o k lt (inl none) = subst (λ (x : Option (List ℕ)). IfSome (option_map (bytes_at (write_unit_at (place_of places k) (stripe + 1)) 4096) x) (λ bytes. bytes ≡ shard_of shards k)) (sym none) tt
    here o k lt (inr some) = subst (λ (x : Option (List ℕ)). IfSome (option_map (bytes_at (write_unit_at (place_of places k) (stripe + 1)) 4096) x) (λ bytes. bytes ≡ shard_of shards k)) (sym some.0) (holds.units k lt some.1)

    one : (k : ℕ) → k < 9 → IfSome (write_unit (stripe + 1) (place_of places k) view) (λ bytes. bytes ≡ shard_of shards k)
    one k lt = here (view (drive_of places k)) k lt (shows.each k lt)

-- so what stands on clean drives stands at a stop
pub holds_at_stop : (shelf : Shelved) (places : List Place) (lost : List Bool) (stripe : ℕ) (shards : List (List ℕ)) (stop : Stop) → MayStop shelf stop
    → ((shard : ℕ) → shard < 9 → is_in lost (place_of places shard).slot ≡ false → (shelf.disk (drive_of places shard)).dirty ≡ [])
    → HoldsStripe (bytes_of shelf) places lost stripe shards → HoldsStripe stop.image places lost stripe shards
holds_at_stop shelf places lost stripe shards stop may clean holds = grind (arith, nat_tests, bytes_at, as_read)
