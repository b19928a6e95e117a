-- The headers of segments are written, from the last segment to the first.
use Rattle.segment_writer.proofs.Prelude.{nat_tests, ◌≡◌, inl, inr, ℕ, ◌+◌, ◌<◌, ◌≤◌, Bool, true, List, [], ◌∷◌, ◌++◌, length, subst, sym, ◌∙◌, ap, arith, slice_get, cases_eq, Image, Shelved, Continues, WritesOnly, Open, is_in, LosesOnly, place_of, OnUnits, bytes_of, HoldsStripe, not_before, still_places, Layout, units_of, AreApart, HaveStripes, HoldAll, HoldsHeader, IsOpenOf, AreOpenOf}
use Rattle.segment_writer.specs.Layout.{MayBeHeaded}
use Rattle.patch_io.proofs.Lists.{get_front, get_behind}
use Rattle.segment_writer.proofs.Apart.{unit_kept, stripe_kept, segment_kept}
use Rattle.segment_writer.proofs.Appends.{disjoint, still_open}

-- the last open segment
pub open_last : (l : Layout) (lost : List Bool) (all opened : List Open) (next : Open) → all ≡ opened ++ next ∷ [] → AreOpenOf l lost all → IsOpenOf (l.header (length opened)) lost next
open_last l lost all opened next is each =
    each (length opened) next (ap (λ (o : List Open). slice_get o (length opened)) is ∙ (let e : length opened ≡ length opened + 0 = omega arith in ap (slice_get (opened ++ next ∷ [])) e) ∙ get_behind opened (next ∷ []) 0)

-- and those before it
pub open_front : (l : Layout) (was now : List Bool) (all opened : List Open) (next : Open) → all ≡ opened ++ next ∷ [] → ((slot : ℕ) → is_in was slot ≡ true → is_in now slot ≡ true) → AreOpenOf l was all → AreOpenOf l now opened
open_front l was now all opened next is stays each number segment at =
    still_open (l.header number) was now segment stays (each number segment (ap (λ (o : List Open). slice_get o number) is ∙ get_front opened (next ∷ []) number segment at))

module _ (b c : Shelved) (l : Layout) (was now : List Bool) (number : ℕ) (apart : AreApart l.count (units_of l)) (within : number < l.count) (loses : LosesOnly b c was now) (writes : WritesOnly (OnUnits (units_of l number) 0 1) b c) where
  -- one more header
  pub headers_more : ((k : ℕ) → number + 1 ≤ k → k < l.count → HoldsHeader (bytes_of b) (l.header k) was) → HoldsHeader (bytes_of c) (l.header number) now → (k : ℕ) → number ≤ k → k < l.count → HoldsHeader (bytes_of c) (l.header k) now
  headers_more before here k from lt = elim (cases_eq k number) [
    | inl e ↦ subst (λ (n : ℕ). HoldsHeader (bytes_of c) (l.header n) now) (sym e) here
    | inr ne ↦ λ shard shard_lt none.
        unit_kept b c (units_of l k) (units_of l number) 0 1 0 shard (disjoint l k number apart ne lt within) shard_lt (omega arith) (omega arith) writes
        ∙ before k (omega (arith, ne, from)) lt shard shard_lt (not_before b c was now (place_of (units_of l k) shard).slot loses none)
  ]

  -- the stripes of all segments stay
  pub stripes_stay : ((stripe : ℕ) (shards : List (List ℕ)) → HoldsStripe (bytes_of b) (units_of l number) was stripe shards → HoldsStripe (bytes_of c) (units_of l number) now stripe shards)
      → (k stripe : ℕ) (shards : List (List ℕ)) → k < l.count → stripe < 15 → HoldsStripe (bytes_of b) (units_of l k) was stripe shards → HoldsStripe (bytes_of c) (units_of l k) now stripe shards
  stripes_stay own k stripe shards lt low holds = elim (cases_eq k number) [
    | inl e ↦ subst (λ (n : ℕ). HoldsStripe (bytes_of c) (units_of l n) now stripe shards) (sym e) (own stripe shards (subst (λ (n : ℕ). HoldsStripe (bytes_of b) (units_of l n) was stripe shards) e holds))
    | inr ne ↦ stripe_kept b c (units_of l k) (units_of l number) 0 1 stripe was now shards (disjoint l k number apart ne lt within) low (omega arith) loses writes holds
  ]

-- what all hold stays where the stripes do
pub all_kept : (image next : Image) (l : Layout) (was now : List Bool) (stripes : ℕ → ℕ) (Holds : ℕ → ℕ → List (List ℕ) → Type 0) → HaveStripes l stripes
    → ((k stripe : ℕ) (shards : List (List ℕ)) → k < l.count → stripe < 15 → HoldsStripe image (units_of l k) was stripe shards → HoldsStripe next (units_of l k) now stripe shards) → HoldAll image l was stripes Holds → HoldAll next l now stripes Holds
all_kept image next l was now stripes Holds some stay holds number within =
    segment_kept image next (units_of l number) was now (stripes number) (Holds number) (some number within).1 (λ stripe shards low. stay number stripe shards within low) (holds number within)

-- a shelf of the same size
pub headed_later : (a b : Shelved) (l : Layout) → Continues a b → MayBeHeaded a l → MayBeHeaded b l
headed_later a b l continues headed = grind (arith, nat_tests, still_places)
