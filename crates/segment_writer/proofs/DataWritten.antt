-- What stands in the stripes of a segment is shown by views of it.
use Rattle.segment_writer.proofs.Prelude.{◌≡◌, ℕ, ◌+◌, ◌*◌, ◌/◌, ◌%◌, ◌<◌, ◌≤◌, Bool, List, [], length, get_or, sym, subst, arith, div_ceil, slice_get-get_or, MatchOption-at_some, Image, View, filled, Place, StripeStands, StripesStand, ShowsMost, sector_of_stripe, IsSectorOf, HoldsSectors, HoldsSegment, StandIn}
use Rattle.segment_io.proofs.Views.{stripe_shown}

-- the sector of a place before the end
sector_is : (staged : List (List ℕ)) (order : List ℕ) (place : ℕ) (sector : List ℕ) → place < length order → IsSectorOf staged order place sector → sector ≡ get_or staged (get_or order place 0) []
sector_is staged order place sector lt is = MatchOption-at_some (sector ≡ filled 0) (λ (i : ℕ). sector ≡ get_or staged i []) (get_or order place 0) (slice_get-get_or order place 0 lt) is

module _ (image : Image) (places : List Place) (lost : List Bool) (staged : List (List ℕ)) (order : List ℕ) (view : View) (nine : length places ≡ 9) (fits : length order ≤ 840) (holds : HoldsSegment image places lost (div_ceil (length order) 56) (HoldsSectors staged order)) (shows : ShowsMost image places lost view) where
  shown : (stripe : ℕ) → stripe < div_ceil (length order) 56 → (shards : List (List ℕ)) × StripeStands view places stripe shards × HoldsSectors staged order stripe shards
  shown stripe lt =
      let x = holds stripe lt in
      (x.0, stripe_shown image places lost view stripe x.0 nine (omega (arith, lt, fits)) x.1 shows, x.2)

  pub stripes_shown : StripesStand view places (length order)
  stripes_shown stripe lt = let x = shown stripe lt in (x.0, x.1)

  pub sectors_shown : StandIn view places staged order
  sectors_shown index lt =
      let x = shown (index / 56) (omega (arith, lt)) in
      let e : 56 * (index / 56) + index % 56 ≡ index = omega arith in
      let is = subst (λ (n : ℕ). IsSectorOf staged order n (sector_of_stripe x.0 (index % 56))) e (x.2 (index % 56) (omega arith)) in
      (x.0, x.1, sym (sector_is staged order index (sector_of_stripe x.0 (index % 56)) lt is))
