-- What stands in the stripes of a segment is shown by views of it.
use Rattle.segment_writer.proofs.Prelude.{nat_tests, ◌≡◌, ℕ, ◌+◌, ◌*◌, ◌/◌, ◌%◌, ◌<◌, ◌≤◌, Bool, List, length, refl, sym, subst, ◌∙◌, ap, arith, Some, slice_get, div_ceil, slice_get_within, MatchOption-at_some, bytes_at, zeros, Image, View, Place, AnyFact, Decodes, StripeStands, StripesStand, sector_in, pages, ShowsMost, fact_text, StandsAt, text_in, HoldsFacts, HoldsSegment}
use Rattle.segment_codec.specs.Position as position
use Rattle.segment_io.proofs.Views.{stripe_shown}
use Rattle.patch_io.specs.Prelude.{StandIn}
use Rattle.patch_io.proofs.Segments.{in_sector}

-- where the fact r of stripe q stands
module _ (q r : ℕ) (lt : r < 448) where
  page_is : (448 * q + r) / 8 ≡ 56 * q + r / 8
  page_is = omega (arith, lt)

  stripe_is : position.stripe_of ((448 * q + r) / 8) ≡ q
  stripe_is = omega (arith, lt, page_is)

  in_stripe : (448 * q + r) / 8 % 56 ≡ r / 8
  in_stripe = omega (arith, lt, page_is)

  shard_is : position.shard_of ((448 * q + r) / 8) ≡ r / 64
  shard_is = ap (λ (x : ℕ). x / 8) in_stripe ∙ (let e : r / 8 / 8 ≡ r / 64 = omega arith in e)

  eighth_is : position.eighth_of ((448 * q + r) / 8) ≡ r % 64 / 8
  eighth_is = ap (λ (x : ℕ). x % 8) in_stripe ∙ (let e : r / 8 % 8 ≡ r % 64 / 8 = omega arith in e)

  last_is : (448 * q + r) % 8 ≡ r % 64 % 8
  last_is = omega arith

  -- its bytes in its sector are those in its stripe
  pub text_is : (shards : List (List ℕ)) → fact_text (sector_in shards ((448 * q + r) / 8)) ((448 * q + r) % 8) ≡ text_in shards r
  text_is shards = grind (arith, nat_tests, fact_text, sector_in, last_is, bytes_at, eighth_is, shard_is, in_sector)

module _ (image : Image) (places : List Place) (lost : List Bool) (facts : List AnyFact) (view : View) (nine : length places ≡ 9) (fits : length facts ≤ 6720) (holds : HoldsSegment image places lost (div_ceil (length facts) 448) (HoldsFacts facts)) (shows : ShowsMost image places lost view) where
  shown : (stripe : ℕ) → stripe < div_ceil (length facts) 448 → (shards : List (List ℕ)) × StripeStands view places stripe shards × HoldsFacts facts stripe shards
  shown stripe lt =
      let x = holds stripe lt in
      (x.0, stripe_shown image places lost view stripe x.0 nine (omega (arith, lt, fits)) x.1 shows, x.2)

  pub stripes_shown : StripesStand view places (pages (length facts))
  stripes_shown stripe lt = let x = shown stripe (omega (arith, lt)) in (x.0, x.1)

  one_shown : (q r : ℕ) (f : AnyFact) → r < 448 → slice_get facts (448 * q + r) ≡ Some f → StandsAt view places (448 * q + r) f
  one_shown q r f lt at =
      let within : 448 * q + r < length facts = slice_get_within facts (448 * q + r) f at in
      let x = shown q (omega (arith, within, lt)) in
      let decodes : Decodes (text_in x.0 r) f = MatchOption-at_some (text_in x.0 r ≡ zeros 64) (λ (g : AnyFact). Decodes (text_in x.0 r) g) f at (x.2 r lt) in (
        sector_in x.0 ((448 * q + r) / 8),
        (x.0, subst (λ (s : ℕ). StripeStands view places s x.0) (sym (stripe_is q r lt)) x.1, refl),
        subst (λ (t : List ℕ). Decodes t f) (sym (text_is q r lt x.0)) decodes,
      )

  pub facts_shown : StandIn view places facts
  facts_shown k f at =
      let e : 448 * (k / 448) + k % 448 ≡ k = omega arith in
      subst (λ (n : ℕ). StandsAt view places n f) e (one_shown (k / 448) (k % 448) f (omega arith) (subst (λ (n : ℕ). slice_get facts n ≡ Some f) (sym e) at))
