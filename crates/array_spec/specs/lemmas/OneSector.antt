-- One sector stands at an index: a stripe of which seven shards are shown is one codeword.
use Rattle.std.proofs.Common.{◌≡◌, ◌≢◌, ℕ, zero, suc, ◌+◌, ◌<◌, ◌≤◌, List, [], ◌∷◌, length, refl, sym, ap, ◌∙◌, arith, inl, inr}
use Rattle.std.specs.Prelude.{Option, Some, None, IsSome, IfSome, is_some, count_by, slice_index_or}
use Rattle.std.specs.List.{AllZip}
use Rattle.std.proofs.lemmas.Bool.{cases_lt}
use Rattle.parity72.specs.Parity.{shard_of}
use Rattle.parity72.proofs.SevenDecide.{seven-decide}
use Rattle.boot_codec.specs.Prelude.{View, Place}
use Rattle.segment_codec.specs.Prelude.{stripe_of, shards_shown, StripeStands, SectorStands, sector_in}
use Rattle.array_spec.specs.lemmas.Votes.{counted}

-- each of them is shown
AllShown : List (Option (List ℕ)) → Type 0
AllShown os = (i : ℕ) → i < length os → IsSome (slice_index_or os i None)

-- each of them but one is shown, and each but two
record OneHidden (os : List (Option (List ℕ))) : Type 0 where
  at : ℕ
  there : at < length os
  others : (i : ℕ) → i < length os → i ≢ at → IsSome (slice_index_or os i None)

record TwoHidden (os : List (Option (List ℕ))) : Type 0 where
  first : ℕ
  second : ℕ
  below : first < second
  there : second < length os
  others : (i : ℕ) → i < length os → i ≢ first → i ≢ second → IsSome (slice_index_or os i None)

hidden_more : (os : List (Option (List ℕ))) → count_by is_some (None ∷ os) ≡ count_by is_some os
hidden_more os = counted is_some None os ∙ omega arith

shown_more : (o : List ℕ) (os : List (Option (List ℕ))) → count_by is_some (Some o ∷ os) ≡ 1 + count_by is_some os
shown_more o os = counted is_some (Some o) os

most : (os : List (Option (List ℕ))) → count_by is_some os ≤ length os
most [] = omega arith
most (None ∷ os) = omega (arith, hidden_more os, most os)
most (Some o ∷ os) = omega (arith, shown_more o os, most os)

none_hidden : (os : List (Option (List ℕ))) → length os ≤ count_by is_some os → AllShown os
unfolding AllShown
none_hidden [] enough = λ i below. absurd (omega (arith, below))
none_hidden (None ∷ os) enough = absurd (omega (arith, enough, hidden_more os, most os))
none_hidden (Some o ∷ os) enough = each (none_hidden os (omega (arith, enough, shown_more o os)))
  where
    each : AllShown os → (i : ℕ) → i < suc (length os) → IsSome (slice_index_or (Some o ∷ os) i None)
    each rest zero below = refl
    each rest (suc i) below = rest i (omega (arith, below))

one_hidden : (os : List (Option (List ℕ))) → length os ≤ count_by is_some os + 1 → 1 ≤ length os → OneHidden os
unfolding AllShown
one_hidden [] enough some = absurd (omega (arith, some))
one_hidden (None ∷ os) enough some = record { at = 0; there = omega arith; others = each }
  where
    each : (i : ℕ) → i < suc (length os) → i ≢ 0 → IsSome (slice_index_or (None ∷ os) i None)
    each zero below ne = absurd (ne refl)
    each (suc i) below ne = none_hidden os (omega (arith, enough, hidden_more os)) i (omega (arith, below))
one_hidden (Some o ∷ os) enough some = elim (cases_lt 0 (length os)) [
  | inl more ↦ shifted (one_hidden os (omega (arith, enough, shown_more o os)) (omega (arith, more)))
  | inr none ↦ record { at = 0; there = omega arith; others = λ i below ne. absurd (ne (omega (arith, below, none))) }
]
  where
    shifted : OneHidden os → OneHidden (Some o ∷ os)
    shifted h = record { at = suc h.at; there = omega (arith, h.there); others = each }
      where
        each : (i : ℕ) → i < suc (length os) → i ≢ suc h.at → IsSome (slice_index_or (Some o ∷ os) i None)
        each zero below ne = refl
        each (suc i) below ne = h.others i (omega (arith, below)) (λ e. ne (ap suc e))

two_hidden : (os : List (Option (List ℕ))) → length os ≤ count_by is_some os + 2 → 2 ≤ length os → TwoHidden os
two_hidden [] enough some = absurd (omega (arith, some))
two_hidden (None ∷ os) enough some = beside (one_hidden os (omega (arith, enough, hidden_more os)) (omega (arith, some)))
  where
    beside : OneHidden os → TwoHidden (None ∷ os)
    beside h = record { first = 0; second = suc h.at; below = omega arith; there = omega (arith, h.there); others = each }
      where
        each : (i : ℕ) → i < suc (length os) → i ≢ 0 → i ≢ suc h.at → IsSome (slice_index_or (None ∷ os) i None)
        each zero below ne other = absurd (ne refl)
        each (suc i) below ne other = h.others i (omega (arith, below)) (λ e. other (ap suc e))
two_hidden (Some o ∷ os) enough some = elim (cases_lt 1 (length os)) [
  | inl more ↦ shifted (two_hidden os (omega (arith, enough, shown_more o os)) (omega (arith, more)))
  | inr none ↦ record { first = 0; second = 1; below = omega arith; there = omega (arith, some); others = λ i below ne other. absurd (both i below ne other none) }
]
  where
    both : (i : ℕ) → i < suc (length os) → i ≢ 0 → i ≢ 1 → length os ≤ 1 → ⊥
    both zero below ne other none = ne refl
    both (suc zero) below ne other none = other refl
    both (suc (suc i)) below ne other none = omega (arith, below, none)

    shifted : TwoHidden os → TwoHidden (Some o ∷ os)
    shifted h = record { first = suc h.first; second = suc h.second; below = omega (arith, h.below); there = omega (arith, h.there); others = each }
      where
        each : (i : ℕ) → i < suc (length os) → i ≢ suc h.first → i ≢ suc h.second → IsSome (slice_index_or (Some o ∷ os) i None)
        each zero below ne other = refl
        each (suc i) below ne other = h.others i (omega (arith, below)) (λ e. ne (ap suc e)) (λ e. other (ap suc e))

Agree : List (List ℕ) → List (Option (List ℕ)) → Type 0
Agree shards shown = AllZip (λ shard one. IfSome one (λ bytes. bytes ≡ shard)) shards shown

same_length : (shards : List (List ℕ)) (os : List (Option (List ℕ))) → Agree shards os → length os ≡ length shards
unfolding Agree
same_length [] [] h = refl
same_length [] (o ∷ os) h = absurd h
same_length (s ∷ ss) [] h = absurd h
same_length (s ∷ ss) (o ∷ os) h = ap suc (same_length ss os h.1)

-- a shard that is shown is the one of each that agrees
agree_at : (xs ys : List (List ℕ)) (os : List (Option (List ℕ))) → Agree xs os → Agree ys os → (i : ℕ) → IsSome (slice_index_or os i None) → shard_of xs i ≡ shard_of ys i
unfolding Agree
agree_at [] [] os h k i shown = refl
agree_at (a ∷ xs) [] [] h k i shown = absurd h
agree_at (a ∷ xs) [] (o ∷ os) h k i shown = absurd k
agree_at [] (b ∷ ys) [] h k i shown = absurd k
agree_at [] (b ∷ ys) (o ∷ os) h k i shown = absurd h
agree_at (a ∷ xs) (b ∷ ys) [] h k i shown = absurd h
agree_at (a ∷ xs) (b ∷ ys) (o ∷ os) h k zero shown = here o h.0 k.0 shown
  where
    here : (o : Option (List ℕ)) → IfSome o (λ bytes. bytes ≡ a) → IfSome o (λ bytes. bytes ≡ b) → IsSome o → a ≡ b
    here None e f none = cc
    here (Some bytes) e f some = sym e ∙ f
agree_at (a ∷ xs) (b ∷ ys) (o ∷ os) h k (suc i) shown = agree_at xs ys os h.1 k.1 i shown

-- the stripe that stands on those places is one
pub one_stripe : (view : View) (places : List Place) (stripe : ℕ) (a b : List (List ℕ)) → StripeStands view places stripe a → StripeStands view places stripe b → a ≡ b
unfolding Agree
one_stripe view places stripe a b first second =
    let os = shards_shown view places stripe in
    let nine : length os ≡ 9 = same_length a os first.agrees ∙ first.codeword.count in
    let hidden = two_hidden os (omega (arith, nine, first.enough)) (omega (arith, nine)) in
    seven-decide a b hidden.first hidden.second first.codeword second.codeword hidden.below (omega (arith, hidden.there, nine))
    (λ k below ne other. agree_at a b os first.agrees second.agrees k (hidden.others k (omega (arith, below, nine)) ne other))

pub one_sector : (view : View) (places : List Place) (index : ℕ) (a b : List ℕ) → SectorStands view places index a → SectorStands view places index b → a ≡ b
one_sector view places index a b (shards, stands, is) (shards2, stands2, is2) =
    is ∙ ap (λ x. sector_in x index) (one_stripe view places (stripe_of index) shards shards2 stands stands2) ∙ sym is2
