-- Segments that are added behind all others.
use Rattle.std.proofs.lemmas.Bool.Decides.{nat_tests}
use Rattle.segment_table.proofs.Prelude.{◌≡◌, ◌⊎◌, ◌↔◌, ℕ, ◌<◌, Bool, false, List, [], ◌∷◌, ◌++◌, refl, sym, ap, ◌∙◌, arith, inl, inr, subst, All, Contains, append-nil, append_assoc, Option, All-contains, Contains-append_left, Contains-append_right, Contains-append_cases, Contains-push, Contains-push_cases, segment_key, never, Ascends, SegmentFact, AreBelow, AreDistinct, IsFlushed, facts_of, patch_facts, patches_of, IsShown, here, there, all_contained, all_below, below_at, ascends-cons, ascends-head, ascends-tail, newest-append, shown_added, shown_same, number}
use Rattle.pyramid.proofs.PlaceLemmas.{says_flushed}
use Rattle.segment_table.proofs.SegmentLemmas.{key_id}

-- ---- a list behind another

module _ {F : Type 0} (key : F → ℕ) where
  pub ascends_behind : (fs xs : List F) → Ascends key fs → Ascends key xs → ((f x : F) → Contains fs f → Contains xs x → key f < key x) → Ascends key (fs ++ xs)
  ascends_behind [] xs h g last = g
  ascends_behind (f ∷ fs) xs h g last = ascends-cons key f (fs ++ xs) (all_contained (λ y. key f < key y) (fs ++ xs) above)
      (ascends_behind fs xs (ascends-tail key f fs h) g (λ y x c d. last y x (there f y fs c) d))
    where
      above : (y : F) → Contains (fs ++ xs) y → key f < key y
      above y c = elim (Contains-append_cases fs xs y c) [
        | inl a ↦ All-contains (λ z. key f < key z) fs y (ascends-head key f fs h) a
        | inr b ↦ last f y (here f fs) b
      ]

-- what is flushed with facts of later keys
pub flushed_behind : {F : Type 0} (key number : F → ℕ) (us new xs : List F) → IsFlushed key number us new → Ascends key xs → ((f x : F) → Contains us f → Contains xs x → key f < key x)
    → IsFlushed key number (us ++ xs) (new ++ xs)
flushed_behind {F} key number us new xs h up last = record {
  ascends = ascends_behind key new xs h.ascends up (λ f x c d. last f x (h.source f c) d);
  source = λ f c. elim (Contains-append_cases new xs f c) [
    | inl a ↦ Contains-append_left us xs f (h.source f a)
    | inr b ↦ Contains-append_right us xs f b
  ];
  dropped = λ f c. elim (Contains-append_cases us xs f c) [
    | inl a ↦ elim (h.dropped f a) [
      | inl d ↦ inl (Contains-append_left new xs f d)
      | inr n ↦ inr (n.0, Contains-append_left us xs n.0 n.1, n.2, n.3)
    ]
    | inr b ↦ inl (Contains-append_right new xs f b)
  ];
  newest = grind (arith, nat_tests, newest-append);
}

-- ---- what the facts say

push_is : (facts : List SegmentFact) (x f : SegmentFact) → Contains (facts ++ x ∷ []) f ↔ (Contains facts f ⊎ (f ≡ x))
push_is facts x f = (
  λ c. elim (Contains-push_cases facts x f c) [ inl a ↦ inl a | inr e ↦ inr (sym e) ],
  λ c. elim c [ inl a ↦ Contains-append_left facts (x ∷ []) f a | inr e ↦ subst (Contains (facts ++ x ∷ [])) (sym e) (Contains-push facts x) ],
)

distinct_push : (facts : List SegmentFact) (x : SegmentFact) → AreDistinct number facts → All (λ f. number f < number x) facts → AreDistinct number (facts ++ x ∷ [])
distinct_push facts x h newer f g c d e = elim (Contains-push_cases facts x f c) [
  | inl a ↦ elim (Contains-push_cases facts x g d) [
    | inl b ↦ h f g a b e
    | inr s ↦ (let less = All-contains (λ y. number y < number x) facts f newer a in let at : number x ≡ number g = ap number s in absurd (omega (arith, less, at, e)))
  ]
  | inr t ↦ elim (Contains-push_cases facts x g d) [
    | inl b ↦ (let less = All-contains (λ y. number y < number x) facts g newer b in let at : number x ≡ number f = ap number t in absurd (omega (arith, less, at, e)))
    | inr s ↦ sym t ∙ s
  ]
]

newer_than : (facts : List SegmentFact) (x : SegmentFact) (xs : List SegmentFact) → AreBelow number facts (x ∷ xs) → All (λ f. number f < number x) facts
newer_than facts x xs h = all_contained (λ f. number f < number x) facts (λ f c. below_at number facts (x ∷ xs) f x h c (here x xs))

below_push : (facts : List SegmentFact) (x : SegmentFact) (xs : List SegmentFact) → AreBelow number facts (x ∷ xs) → Ascends number (x ∷ xs) → AreBelow number (facts ++ x ∷ []) xs
below_push facts x xs h up = all_below number (facts ++ x ∷ []) xs (λ f g c d. elim (Contains-push_cases facts x f c) [
  | inl a ↦ below_at number facts (x ∷ xs) f g h a (there x g xs d)
  | inr s ↦ (let less = All-contains (λ y. number x < number y) xs g (ascends-head number x xs up) d in let at : number x ≡ number f = ap number s in omega (arith, less, at))
])

-- new segments, whose ids are above those that are visible
pub shown_behind : (facts xs : List SegmentFact) (elided : ℕ → Bool) (shown : List SegmentFact) → AreDistinct number facts → AreBelow number facts xs → Ascends number xs → Ascends segment_key xs
    → ((d e : SegmentFact) → Contains shown d → Contains xs e → d.segment.0 < e.segment.0) → All (λ d. elided d.segment.0 ≡ false) xs
    → IsShown segment_key number never facts elided shown → IsShown segment_key number never (facts ++ xs) elided (shown ++ xs)
shown_behind facts [] elided shown distinct below rise up last left h = rw (append-nil facts, append-nil shown) h
shown_behind facts (x ∷ xs) elided shown distinct below rise up last left h =
    rw (← append_assoc facts (x ∷ []) xs, ← append_assoc shown (x ∷ []) xs)
    (shown_behind (facts ++ x ∷ []) xs elided (shown ++ x ∷ []) (distinct_push facts x distinct newer) (below_push facts x xs below rise) (ascends-tail number x xs rise) (ascends-tail segment_key x xs up)
    later_ids (all_contained (λ d. elided d.segment.0 ≡ false) xs (λ d c. All-contains (λ d. elided d.segment.0 ≡ false) (x ∷ xs) d left (there x d xs c)))
    (shown_added segment_key number never facts (facts ++ x ∷ []) x (push_is facts x) newer distinct elided shown keys
    (ap elided (key_id x) ∙ All-contains (λ d. elided d.segment.0 ≡ false) (x ∷ xs) x left (here x xs)) refl h))
  where
    newer : All (λ f. number f < number x) facts
    newer = newer_than facts x xs below

    keys : All (λ d. segment_key d < segment_key x) shown
    keys = all_contained (λ d. segment_key d < segment_key x) shown (λ d c. let less = last d x c (here x xs) in omega (arith, less))

    later_ids : (d e : SegmentFact) → Contains (shown ++ x ∷ []) d → Contains xs e → d.segment.0 < e.segment.0
    later_ids d e c b = elim (Contains-push_cases shown x d c) [
      | inl a ↦ last d e a (there x e xs b)
      | inr s ↦
          let less = All-contains (λ y. segment_key x < segment_key y) xs e (ascends-head segment_key x xs up) b in
          let at : x.segment.0 ≡ d.segment.0 = ap (λ (z : SegmentFact). z.segment.0) s in
          omega (arith, less, at)
    ]

-- flushed with the others
pub shown_with : (ps : List (List SegmentFact)) (us xs : List SegmentFact) (patch : Option (List SegmentFact)) (elided : ℕ → Bool) (shown : List SegmentFact)
    → IsFlushed segment_key number (us ++ xs) (patch_facts patch) → AreDistinct number (facts_of ps ++ us) → AreBelow number (facts_of ps ++ us) xs → Ascends number xs → Ascends segment_key xs
    → ((d e : SegmentFact) → Contains shown d → Contains xs e → d.segment.0 < e.segment.0) → All (λ d. elided d.segment.0 ≡ false) xs
    → IsShown segment_key number never (facts_of ps ++ us) elided shown → IsShown segment_key number never (facts_of (ps ++ patches_of patch) ++ []) elided (shown ++ xs)
shown_with ps us xs patch elided shown flushed distinct below rise up last left h =
    shown_same segment_key number never (facts_of ps ++ (us ++ xs)) (facts_of (ps ++ patches_of patch) ++ []) elided (shown ++ xs)
    (λ k. says_flushed segment_key number never ps (us ++ xs) patch flushed elided k)
    (rw (← append_assoc (facts_of ps) us xs) (shown_behind (facts_of ps ++ us) xs elided shown distinct below rise up last left h))

-- the new patch is behind all others
pub rising_with : (ps : List (List SegmentFact)) (us xs new : List SegmentFact) → AreBelow number (facts_of ps) us → AreBelow number (facts_of ps ++ us) xs → ((f : SegmentFact) → Contains new f → Contains (us ++ xs) f)
    → AreBelow number (facts_of ps) new
rising_with ps us xs new old below source = all_below number (facts_of ps) new (λ f g c d. elim (Contains-append_cases us xs g (source g d)) [
  | inl a ↦ below_at number (facts_of ps) us f g old c a
  | inr b ↦ below_at number (facts_of ps ++ us) xs f g below (Contains-append_left (facts_of ps) us f c) b
])
