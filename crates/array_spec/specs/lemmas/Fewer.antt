-- Tables that stand with all members do so with two fewer.
use Rattle.std.proofs.lemmas.Bool.Decides.{nat_tests}
use Rattle.std.proofs.Common.{◌≡◌, ℕ, zero, suc, ◌+◌, ◌-◌, ◌*◌, ◌≤◌, ◌<◌, List, [], ◌∷◌, length, refl, sym, subst, arith, inl, inr, ◌∙◌, Bool, cond}
use Rattle.std.specs.Prelude.{Option, Some, None, ◌⊎◌, count_by, option_map, is_some, is_none, IfSome}
use Rattle.std.specs.List.{AllByRecursion, AllZip, range_with_len}
use Rattle.std.proofs.lemmas.Bool.{cases_eq}
use Rattle.boot_codec.specs.Prelude.{bytes_at, Geometry, drive, View, slots_of, Place, AscendFrom, IsSegment, IsPatch, IsRecordOf}
use Rattle.boot_codec.specs.declared.record.BootRecord.{BootRecord}
use Rattle.boot_codec.specs.declared.patch.Patch.{Patch}
use Rattle.boot_codec.specs.declared.patch.PatchSegment.{PatchSegment}
use Rattle.segment_codec.specs.Prelude.{write_unit, shards_shown}
use Rattle.array_spec.specs.lemmas.Moves.{Keeps, holds_kept}
use Rattle.array_spec.specs.lemmas.Votes.{counted}
use Rattle.array_spec.specs.Laws.{FewerHold}
use Rattle.array_spec.specs.Sound.{ArePlaces}

-- a number in a range and those above it count at most as the range
pub split_count : (f : ℕ → Bool) (a n b m : ℕ) → a ≤ b → b < a + n → b + 1 + m ≡ a + n → cond (f b) 1 0 + count_by f (range_with_len (b + 1) m) ≤ count_by f (range_with_len a n)
split_count f a zero b m low high is = absurd (omega (arith, low, high))
split_count f a (suc n) b m low high is =
    rw (counted f a (range_with_len (a + 1) n))
    (elim (cases_eq a b) [
      | inl e ↦
          let k : m ≡ n = omega (arith, e, is) in
          subst (λ x. cond (f x) 1 0 + count_by f (range_with_len (x + 1) m) ≤ cond (f a) 1 0 + count_by f (range_with_len (a + 1) n)) e
          (subst (λ x. cond (f a) 1 0 + count_by f (range_with_len (a + 1) x) ≤ cond (f a) 1 0 + count_by f (range_with_len (a + 1) n)) (sym k) (omega arith))
      | inr other ↦
          let rest : cond (f b) 1 0 + count_by f (range_with_len (b + 1) m) ≤ count_by f (range_with_len (a + 1) n) =
          split_count f (a + 1) n b m (omega (arith, low, other)) (omega (arith, high)) (omega (arith, is)) in
          omega (arith, rest)
    ])

-- places on ascending slots count at most as the slots do
pub places_count : (slots units : ℕ) (f : ℕ → Bool) (ps : List Place) (a n : ℕ) → a + n ≡ slots → AscendFrom slots units a ps
    → count_by (λ p. f p.slot) ps ≤ count_by f (range_with_len a n)
places_count slots units f [] a n is ascend = omega arith
places_count slots units f (p ∷ ps) a n is ascend =
    let h : p.slot < slots = ascend.1.slot in
    let m : p.slot + 1 + (a + n - (p.slot + 1)) ≡ a + n = omega (arith, h, is) in
    let one : cond (f p.slot) 1 0 + count_by f (range_with_len (p.slot + 1) (a + n - (p.slot + 1))) ≤ count_by f (range_with_len a n) =
    split_count f a n p.slot (a + n - (p.slot + 1)) ascend.0 (omega (arith, h, is)) m in
    let rest : count_by (λ x. f x.slot) ps ≤ count_by f (range_with_len (p.slot + 1) (a + n - (p.slot + 1))) =
    places_count slots units f ps (p.slot + 1) (a + n - (p.slot + 1)) (m ∙ is) ascend.2 in
    rw (counted (λ x. f x.slot) p ps) (omega (arith, one, rest))

module _ (shelf : Geometry) (more fewer : View) (less : (i : ℕ) → (fewer (drive i) ≡ more (drive i)) ⊎ (fewer (drive i) ≡ None))
    (two : count_by (λ i. is_none (fewer (drive i))) (slots_of shelf) ≤ 2) where
  lost : ℕ → Bool
  lost i = is_none (fewer (drive i))

  shown_or_lost : (ps : List Place) (stripe : ℕ) → count_by is_some (shards_shown fewer ps stripe) + count_by (λ p. lost p.slot) ps ≡ length ps
  unfolding lost
  shown_or_lost [] stripe = refl
  shown_or_lost (p ∷ ps) stripe =
      rw (counted is_some (write_unit (stripe + 1) p fewer) (shards_shown fewer ps stripe)) (rw (counted (λ q. is_none (fewer (drive q.slot))) p ps)
      (one (fewer (drive p.slot)) (shown_or_lost ps stripe)))
    where
      one : (o : Option (List ℕ)) → count_by is_some (shards_shown fewer ps stripe) + count_by (λ q. is_none (fewer (drive q.slot))) ps ≡ length ps
          → (cond (is_some (option_map (bytes_at (65536 * p.unit + 4096 * (stripe + 1)) 4096) o)) 1 0 + count_by is_some (shards_shown fewer ps stripe))
          + (cond (is_none o) 1 0 + count_by (λ q. is_none (fewer (drive q.slot))) ps) ≡ suc (length ps)
      one None h = omega (arith, h)
      one (Some bytes) h = omega (arith, h)

  Agree : List (List ℕ) → List (Option (List ℕ)) → Type 0
  Agree shards shown = AllZip (λ shard one. IfSome one (λ bytes. bytes ≡ shard)) shards shown

  still_agree : (ps : List Place) (stripe : ℕ) (shards : List (List ℕ)) → Agree shards (shards_shown more ps stripe) → Agree shards (shards_shown fewer ps stripe)
  unfolding Agree
  still_agree [] stripe [] h = tt
  still_agree [] stripe (s ∷ ss) h = h
  still_agree (p ∷ ps) stripe [] h = h
  still_agree (p ∷ ps) stripe (s ∷ ss) h = (one (less p.slot) h.0, still_agree ps stripe ss h.1)
    where
      one : (fewer (drive p.slot) ≡ more (drive p.slot)) ⊎ (fewer (drive p.slot) ≡ None) → IfSome (write_unit (stripe + 1) p more) (λ bytes. bytes ≡ s) → IfSome (write_unit (stripe + 1) p fewer) (λ bytes. bytes ≡ s)
      one (inl e) k = subst (λ o. IfSome (option_map (bytes_at (65536 * p.unit + 4096 * (stripe + 1)) 4096) o) (λ bytes. bytes ≡ s)) (sym e) k
      one (inr e) k = subst (λ o. IfSome (option_map (bytes_at (65536 * p.unit + 4096 * (stripe + 1)) 4096) o) (λ bytes. bytes ≡ s)) (sym e) tt

  pub places_keep : (places : List Place) → ArePlaces shelf places → Keeps more fewer places
  unfolding Keeps Agree lost
  places_keep places lawful stripe shards s = record {
    there = s.there;
    codeword = s.codeword;
    agrees = still_agree places stripe shards s.agrees;
    enough =
        let count : count_by is_some (shards_shown fewer places stripe) + count_by (λ p. is_none (fewer (drive p.slot))) places ≡ length places = shown_or_lost places stripe in
        let nine : length places ≡ 9 = lawful.nine in
        let few : count_by (λ p. is_none (fewer (drive p.slot))) places ≤ count_by (λ i. is_none (fewer (drive i))) (range_with_len 0 shelf.slots) =
        places_count shelf.slots shelf.units (λ i. is_none (fewer (drive i))) places 0 shelf.slots (omega arith) lawful.ascending in
        omega (arith, count, nine, few, two);
  }

  segments_keep : (ss : List PatchSegment) → AllByRecursion (IsSegment shelf.slots shelf.units) ss → AllByRecursion (λ s. Keeps more fewer s.places) ss
  segments_keep [] all = tt
  segments_keep (s ∷ ss) all = (places_keep s.places (record { nine = all.0.nine; ascending = all.0.places }), segments_keep ss all.1)

  pub patches_keep : (ps : List Patch) → AllByRecursion (IsPatch shelf.slots shelf.units) ps → AllByRecursion (λ p. AllByRecursion (λ s. Keeps more fewer s.places) p.segments) ps
  patches_keep [] all = tt
  patches_keep (p ∷ ps) all = (segments_keep p.segments all.0.segments, patches_keep ps all.1)

-- the patches of a record of the shelf are lawful on it
pub patches_on : (shelf : Geometry) (boot : BootRecord) → IsRecordOf shelf boot → AllByRecursion (IsPatch shelf.slots shelf.units) boot.patches
patches_on shelf boot lawful = grind (arith, nat_tests)

pub fewer_hold : FewerHold
fewer_hold shelf more fewer boot base lawful less two h =
    holds_kept more fewer shelf boot base h (patches_keep shelf more fewer less two boot.patches (patches_on shelf boot lawful))
    (λ id d is. places_keep shelf more fewer less two d.places (h.tables.sound.segments.places id d is))
