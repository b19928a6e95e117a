-- A patch that stands in its segments is shown by views of them.
use Rattle.segment_writer.proofs.Prelude.{◌≡◌, ℕ, zero, suc, ◌+◌, ◌-◌, ◌*◌, ◌/◌, ◌%◌, ◌<◌, min, Bool, List, [], ◌∷◌, length, take, drop, refl, sym, subst, ◌∙◌, ap, arith, Some, slice_get, length-take, length-drop, slice_get_within, Image, View, AnyFact, IsPatch, IsSegment, Patch, SectorStands, StripesStand, PatchStands, FactStands, pages, places_of_part, pages_in_part, Shelved, Stop, MayStop, AreInOrder, facts_of_part, HoldsPatch, MayBeStored, HasWrittenPatch, layout_of_patch, stripes_of_facts, FactsOf}
use Rattle.segment_writer.specs.PatchStoring.{ShowsMostOf}
use Rattle.segment_writer.proofs.PatchLayout.{may_be_spelled, have_stripes}
use Rattle.segment_writer.proofs.Synced.{holds_after}
use Rattle.patch_io.proofs.Lists.{some_at, all_at}
use Rattle.patch_io.proofs.Parts.{in_patch, places_are}
use Rattle.segment_writer.proofs.PatchWritten.{stripes_shown, facts_shown}

-- what stands among the first ones
get_of_taken : {X : Type 0} (n : ℕ) (xs : List X) (k : ℕ) (x : X) → k < n → slice_get xs k ≡ Some x → slice_get (take n xs) k ≡ Some x
get_of_taken zero xs k x lt is = absurd (omega (arith, lt))
get_of_taken (suc n) [] k x lt is = absurd (cc)
get_of_taken (suc n) (y ∷ xs) zero x lt is = is
get_of_taken (suc n) (y ∷ xs) (suc k) x lt is = get_of_taken n xs k x (omega (arith, lt)) is

-- what stands behind the first ones
get_dropped : {X : Type 0} (m : ℕ) (xs : List X) (k : ℕ) → slice_get (drop m xs) k ≡ slice_get xs (m + k)
get_dropped zero xs k = ap (slice_get xs) (let e : k ≡ 0 + k = omega arith in e)
get_dropped (suc m) [] k = refl
get_dropped (suc m) (x ∷ xs) k = get_dropped m xs k ∙ ap (slice_get (x ∷ xs)) (let e : suc (m + k) ≡ suc m + k = omega arith in e)

module _ (image : Image) (slots units : ℕ) (p : Patch) (lost : List Bool) (facts : List AnyFact) (view : View) (lawful : IsPatch slots units p) (count : length facts ≡ p.facts) (holds : HoldsPatch image p lost facts) (shows : ShowsMostOf image p lost view) where
  nine : (part : ℕ) → part < length p.segments → length (places_of_part p part) ≡ 9
  nine part within =
      let s = some_at p.segments part within in
      ap length (places_are p part s.0 s.1) ∙ (all_at (IsSegment slots units) p.segments part s.0 lawful.segments s.1).nine

  size : (part : ℕ) → length (facts_of_part facts part) ≡ min 6720 (length facts - 6720 * part)
  size part = length-take 6720 (drop (6720 * part) facts) ∙ ap (min 6720) (length-drop (6720 * part) facts)

  stripes_of : (part : ℕ) → part < length p.segments → StripesStand view (places_of_part p part) (pages_in_part p.facts part)
  stripes_of part within =
      let same : pages (length (facts_of_part facts part)) ≡ pages_in_part p.facts part = omega (arith, size part, count, within, lawful.room) in
      subst (λ (n : ℕ). StripesStand view (places_of_part p part) n) same
      (stripes_shown image (places_of_part p part) lost (facts_of_part facts part) view (nine part within) (omega (arith, size part)) (holds part within) (shows part within))

  one_fact_of : (part j : ℕ) (f : AnyFact) → j < 6720 → slice_get facts (6720 * part + j) ≡ Some f → FactStands view p (6720 * part + j) f
  one_fact_of part j f lt at =
      let within : part < length p.segments = omega (arith, slice_get_within facts (6720 * part + j) f at, count, lawful.room) in
      let here : slice_get (facts_of_part facts part) j ≡ Some f = get_of_taken 6720 (drop (6720 * part) facts) j f lt (get_dropped (6720 * part) facts j ∙ at) in
      in_patch view p part j f lt (SectorStands view)
      (facts_shown image (places_of_part p part) lost (facts_of_part facts part) view (nine part within) (omega (arith, size part)) (holds part within) (shows part within) j f here)

  pub patch_shown : AreInOrder p.tag facts → PatchStands view p facts
  patch_shown order = record {
    count = count;
    each = λ k f at.
        let e : 6720 * (k / 6720) + k % 6720 ≡ k = omega arith in
        subst (λ (n : ℕ). FactStands view p n f) e (one_fact_of (k / 6720) (k % 6720) f (omega arith) (subst (λ (n : ℕ). slice_get facts n ≡ Some f) (sym e) at));
    table = order.table;
    ascending = order.ascending;
    stripes = stripes_of;
  }

-- what was written is shown after a stop
pub shown_after : (a e : Shelved) (p : Patch) (generation : ℕ) (lost : List Bool) (facts : List AnyFact) (stop : Stop) (view : View) → MayBeStored a p facts → HasWrittenPatch e p generation lost facts → MayStop e stop → ShowsMostOf stop.image p lost view → PatchStands view p facts
shown_after a e p generation lost facts stop view stored written may shows =
    patch_shown stop.image a.drives a.units p lost facts view stored.lawful stored.count
    (holds_after e (layout_of_patch p generation) lost (stripes_of_facts facts) (FactsOf facts) stop (have_stripes p generation facts (may_be_spelled a p facts stored)) written may) shows stored.in_order
