-- Segments by ascending id.
use Rattle.std.proofs.lemmas.Bool.Decides.{nat_tests}
use Rattle.segment_table.proofs.Prelude.{◌≡◌, ◌≢◌, ◌⊎◌, ℕ, ◌^◌, ◌<◌, ◌≤◌, Bool, true, false, not, filter, List, [], ◌∷◌, ◌++◌, length, get_or, refl, sym, ap, ◌∙◌, arith, All, Contains, ◌↔◌, IsTrue, nat_lt, eqb-true, lt-ltb, ltb-true, ltb-false, cases_lt, All-contains, filter-append, id_of, key_of, Ascends, has_key, newest, says, segment_key, never, SegmentFact, AreDistinct, facts_of, IsShown, filtered, here, of_filter, there, ascends_filter, ascends_push, said_found, listed_by_id, passes_filter, shown_added, shown_elided, taken_of, number, AreOwnFrom}
use Rattle.std.specs.List.{filter_map, range_with_len}
use Rattle.std.specs.List.Sorted.{IsPartitionedBy, IsPartitionPoint}

-- a segment's key has its id
pub key_id : (d : SegmentFact) → id_of (segment_key d) ≡ d.segment.0
key_id d = omega arith

-- ---- the place of an id

abbrev pub is_below : ℕ → SegmentFact → Bool
is_below id d = nat_lt d.segment.0 id

-- ids rise, so the lower ones come first
pub parted : (id : ℕ) (ds : List SegmentFact) → Ascends segment_key ds → IsPartitionedBy (is_below id) ds
parted id ds h i j d low within holds = grind (arith, nat_tests, cases_lt, ltb-true, lt-ltb)

-- none has the id, where the first that isn't below hasn't
pub absent_at : (id : ℕ) (ds : List SegmentFact) (at : ℕ) (e : SegmentFact) → Ascends segment_key ds → at ≤ length ds
    → IsPartitionPoint (λ d. is_below id d ≡ true) (λ d. is_below id d ≡ false) ds at → ((d : SegmentFact) → e ≡ get_or ds at d) → e.segment.0 ≢ id → All (λ d. d.segment.0 ≢ id) ds
absent_at id ds at e h within point is ne k d l same = grind (arith, nat_tests, cases_lt, ltb-true, ltb-false)

pub absent_past : (id : ℕ) (ds : List SegmentFact) (at : ℕ) → at ≤ length ds
    → IsPartitionPoint (λ d. is_below id d ≡ true) (λ d. is_below id d ≡ false) ds at → length ds ≤ at → All (λ d. d.segment.0 ≢ id) ds
absent_past id ds at within point all k d l same = grind (arith, nat_tests, ltb-true)

-- ---- what the facts say

pub ascends_last : (ds : List SegmentFact) (x : SegmentFact) → All (λ d. d.segment.0 < x.segment.0) ds → Ascends segment_key ds → Ascends segment_key (ds ++ x ∷ [])
ascends_last ds x last h = ascends_push segment_key number never ds x (λ i d l. let less : (get_or ds i d).segment.0 < x.segment.0 = last i d l in omega (arith, less)) h

-- a new segment
pub shown_push : (ps : List (List SegmentFact)) (us new : List SegmentFact) (x : SegmentFact) → ((f : SegmentFact) → Contains new f ↔ (Contains us f ⊎ Contains (x ∷ []) f))
    → All (λ f. f.seq.0 < x.seq.0) (facts_of ps ++ us) → AreDistinct number (facts_of ps ++ us) → (elided : ℕ → Bool) (shown : List SegmentFact) → All (λ d. d.segment.0 < x.segment.0) shown
    → elided x.segment.0 ≡ false → IsShown segment_key number never (facts_of ps ++ us) elided shown → IsShown segment_key number never (facts_of ps ++ new) elided (shown ++ x ∷ [])
shown_push ps us new x taken newer_than distinct elided shown last left old =
    shown_added segment_key number never (facts_of ps ++ us) (facts_of ps ++ new) x (taken_of ps us new x taken) newer_than distinct elided shown
    (λ i d l. let less : (get_or shown i d).segment.0 < x.segment.0 = last i d l in omega (arith, less)) (ap elided (key_id x) ∙ left) refl old

-- more elided ids
pub shown_less : (facts : List SegmentFact) (elided wider : ℕ → Bool) (shown : List SegmentFact) → ((id : ℕ) → IsTrue (elided id) → IsTrue (wider id))
    → IsShown segment_key number never facts elided shown → IsShown segment_key number never facts wider (filter (λ d. not (wider d.segment.0)) shown)
shown_less facts elided wider shown more old = shown_elided segment_key number never facts elided wider shown (λ d. not (wider d.segment.0)) more (λ f c. ap (λ i. not (wider i)) (sym (key_id f))) old

-- the visible segments are those of the ids below the next one
pub by_ids : (facts : List SegmentFact) (elided : ℕ → Bool) (next : ℕ) (shown : List SegmentFact) → next ≤ 2 ^ 64 → All (λ f. f.segment.0 < next) facts
    → IsShown segment_key number never facts elided shown → shown ≡ filter_map (λ id. says segment_key number never facts elided (key_of id 0)) (range_with_len 0 next)
by_ids facts elided next shown small below h = listed_by_id (λ (x : SegmentFact). x.segment.0) (λ id. says segment_key number never facts elided (key_of id 0)) next 0 shown (record {
  ascends = λ i j d low l. let less = h.ascends i j d low l in omega (arith, less);
  each = λ x c. let s = h.said x c in let low : x.segment.0 < next = All-contains (λ f. f.segment.0 < next) facts x below (said_found segment_key number never facts elided (segment_key x) x s).0 in (omega arith, omega (arith, low), s);
  all = grind (arith, nat_tests, said_found);
})

-- ---- what is taken back

abbrev pub is_before : ℕ → SegmentFact → Bool
is_before from f = nat_lt (number f) from

-- facts that aren't taken back with another one of their key stay the newest
newest_kept : (p test : SegmentFact → Bool) (fs : List SegmentFact) → ((f : SegmentFact) → Contains fs f → test f ≡ true → p f ≡ true) → newest number test (filter p fs) ≡ newest number test fs
newest_kept p test [] h = refl
newest_kept p test (f ∷ fs) h = one (p f) refl (test f) refl (newest_kept p test fs (λ g c e. h g (there f g fs c) e))
  where
    one : (b : Bool) → p f ≡ b → (t : Bool) → test f ≡ t → newest number test (filter p fs) ≡ newest number test fs → newest number test (filter p (f ∷ fs)) ≡ newest number test (f ∷ fs)
    one true passes true is inner = rw (passes, is, inner) refl
    one true passes false is inner = rw (passes, is) inner
    one false passes true is inner = let no : p f ≡ true = h f (here f fs) is in cc
    one false passes false is inner = rw (passes, is) inner

-- flushed facts stay
filter_all : (p : SegmentFact → Bool) (fs : List SegmentFact) → ((f : SegmentFact) → Contains fs f → p f ≡ true) → filter p fs ≡ fs
filter_all p [] h = refl
filter_all p (f ∷ fs) h = rw (h f (here f fs)) (ap (λ l. f ∷ l) (filter_all p fs (λ g c. h g (there f g fs c))))

module _ (from : ℕ) (facts : List SegmentFact) (elided : ℕ → Bool) where
  -- at the key of a fact that stays nothing is taken back
  says_kept : AreOwnFrom from facts → (f : SegmentFact) → Contains facts f → number f < from
      → says segment_key number never (filter (is_before from) facts) elided (segment_key f) ≡ says segment_key number never facts elided (segment_key f)
  says_kept own f c low = rw (newest_kept (is_before from) (has_key segment_key (segment_key f)) facts stays) refl
    where
      stays : (g : SegmentFact) → Contains facts g → has_key segment_key (segment_key f) g ≡ true → is_before from g ≡ true
      stays g d e = grind (arith, nat_tests, cases_lt, lt-ltb, eqb-true)

  -- what is taken back isn't visible, and nothing else changes
  pub shown_back : AreOwnFrom from facts → (shown : List SegmentFact) → IsShown segment_key number never facts elided shown
      → IsShown segment_key number never (filter (is_before from) facts) elided (filter (is_before from) shown)
  shown_back own shown h = record {
    ascends = ascends_filter segment_key (is_before from) shown h.ascends;
    said = λ f c.
        let s = h.said f (of_filter (is_before from) shown f c) in
        let there = (said_found segment_key number never facts elided (segment_key f) f s).0 in
        says_kept own f there (ltb-true _ _ (passes_filter (is_before from) shown f c)) ∙ s;
    all = λ f l s.
        let there = (said_found segment_key number never (filter (is_before from) facts) elided (segment_key f) f s).0 in
        let low = passes_filter (is_before from) facts f there in
        let old = sym (says_kept own f (of_filter (is_before from) facts f there) (ltb-true _ _ low)) ∙ s in
        filtered (is_before from) shown f (h.all f l old) low;
  }

-- the facts that are left where the flushed ones all stay
pub left_back : (from : ℕ) (ps : List (List SegmentFact)) (us : List SegmentFact) → All (λ f. number f < from) (facts_of ps)
    → filter (is_before from) (facts_of ps ++ us) ≡ facts_of ps ++ filter (is_before from) us
left_back from ps us low = grind (arith, nat_tests, filter-append, filter_all, lt-ltb)
