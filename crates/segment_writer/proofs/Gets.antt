-- Lists by their places.
use Rattle.segment_writer.proofs.Prelude.{nat_tests, ◌≡◌, ◌≢◌, ◌⊎◌, inl, inr, ℕ, zero, suc, ◌<◌, List, [], ◌∷◌, length, get_or, refl, sym, subst, ◌∙◌, ap, arith, Some, slice_get, slice_set, get_or-set_same, get_or-set_other, length-set, AllZip, cases_eq, same_Some, slice_get_within, slice_get-get_or, get_or_from_slice_get}

-- what stands at the same place of both lists
pub zip_at : {X Y : Type 0} (R : X → Y → Type 0) (xs : List X) (ys : List Y) (k : ℕ) (x : X) → AllZip R xs ys → slice_get xs k ≡ Some x → (y : Y) × (slice_get ys k ≡ Some y) × R x y
zip_at R [] ys k x zip at = absurd (cc)
zip_at R (a ∷ xs) [] k x zip at = absurd zip
zip_at R (a ∷ xs) (b ∷ ys) zero x zip at = let e : a ≡ x = same_Some a x at in (b, refl, subst (λ z. R z b) e zip.0)
zip_at R (a ∷ xs) (b ∷ ys) (suc k) x zip at = zip_at R xs ys k x zip.1 at

pub zip_both : {X Y : Type 0} (R : X → Y → Type 0) (xs : List X) (ys : List Y) (k : ℕ) (x : X) (y : Y) → AllZip R xs ys → slice_get xs k ≡ Some x → slice_get ys k ≡ Some y → R x y
zip_both R xs ys k x y zip at there = grind (arith, nat_tests, zip_at, same_Some)

-- what stands in a list of which one element was set
pub get_set : {X : Type 0} (xs : List X) (k i : ℕ) (v x : X) → slice_get (slice_set xs k v) i ≡ Some x → ((i ≡ k) × (v ≡ x)) ⊎ ((i ≢ k) × (slice_get xs i ≡ Some x))
get_set {X} xs k i v x at =
    let within : i < length xs = omega (arith, slice_get_within (slice_set xs k v) i x at, length-set xs k v) in
    let is : get_or (slice_set xs k v) i v ≡ x = get_or_from_slice_get (slice_set xs k v) i x v at in
    elim (cases_eq i k) [
      | inl e ↦ inl (e, sym (get_or-set_same xs k v v (omega (arith, within, e))) ∙ ap (λ (n : ℕ). get_or (slice_set xs k v) n v) (sym e) ∙ is)
      | inr ne ↦ inr (ne, slice_get-get_or xs i v within ∙ ap (λ (z : X). Some z) (sym (get_or-set_other xs k i v v ne) ∙ is))
    ]
