-- Where no unit stands in two lists, the numbers of all units differ.
use Rattle.table_soundness.proofs.Prelude.{nat_tests, ◌≡◌, ◌≢◌, ℕ, ◌+◌, ◌<◌, ◌≤◌, List, [], ◌∷◌, map, ap₂, arith, All, AllPairs, Contains, AllByRecursion, flat_map, map-append, All-nil, All-cons, All-head, All-tail, All-map, All-weaker, All-contains, All-from_recursion, recursion_from_All, Place, AscendFrom, AreApart, all_contained, code_of, all_flat, of_flat, all_unmap, pairs_nil, pairs_head, pairs_tail, pairs_cons, pairs_right, pairs_across, pairs_join, ⊤}

abbrev Differ : ℕ → ℕ → Type 0
Differ m n = m ≢ n

-- on ascending slots, each unit below 2^16
abbrev pub IsStrictFrom : ℕ → List Place → Type 0
IsStrictFrom least [] = ⊤
IsStrictFrom least (p ∷ ps) = (least ≤ p.slot) × (p.unit < 65536) × IsStrictFrom (p.slot + 1) ps

pub strict_of_ascend : (slots units least : ℕ) (ps : List Place) → units ≤ 65536 → AscendFrom slots units least ps → IsStrictFrom least ps
strict_of_ascend slots units least [] small h = tt
strict_of_ascend slots units least (p ∷ ps) small h = let unit = h.1.unit in (h.0, omega (arith, unit, small), strict_of_ascend slots units (p.slot + 1) ps small h.2)

strict_later : (a b : ℕ) (ps : List Place) → a ≤ b → IsStrictFrom b ps → IsStrictFrom a ps
strict_later a b [] l h = tt
strict_later a b (p ∷ ps) l h = let low = h.0 in (omega (arith, l, low), h.1, h.2)

abbrev IsAbove : ℕ → Place → Type 0
IsAbove least q = (least ≤ q.slot) × (q.unit < 65536)

abbrev IsSmall : Place → Type 0
IsSmall q = q.unit < 65536

strict_above : (least : ℕ) (ps : List Place) → IsStrictFrom least ps → All (IsAbove least) ps
strict_above least [] h = All-nil (IsAbove least)
strict_above least (p ∷ ps) h = let low = h.0 in All-cons (IsAbove least) p ps (h.0, h.1) (strict_above least ps (strict_later least (p.slot + 1) ps (omega (arith, low)) h.2))

strict_small : (ps : List Place) → IsStrictFrom 0 ps → All IsSmall ps
strict_small ps h = All-weaker (IsAbove 0) IsSmall (λ q a. a.1) ps (strict_above 0 ps h)

other_code : (p q : Place) → p.unit < 65536 → p.slot + 1 ≤ q.slot → q.unit < 65536 → code_of p ≢ code_of q
other_code p q a b c same = omega (arith, a, b, c, same)

strict_distinct : (least : ℕ) (ps : List Place) → IsStrictFrom least ps → AllPairs Differ (map code_of ps)
strict_distinct least [] h = pairs_nil Differ
strict_distinct least (p ∷ ps) h =
    pairs_cons Differ (code_of p) (map code_of ps)
    (All-map (Differ (code_of p)) code_of ps (All-weaker (IsAbove (p.slot + 1)) (λ q. code_of p ≢ code_of q) (λ q a. other_code p q h.1 a.0 a.1) ps (strict_above (p.slot + 1) ps h.2)))
    (strict_distinct (p.slot + 1) ps h.2)

same_place : (p q : Place) → p.unit < 65536 → q.unit < 65536 → code_of p ≡ code_of q → p ≡ q
same_place p q a b same = grind (arith, nat_tests, ap₂)

codes_of : (ps qs : List Place) → All IsSmall ps → All IsSmall qs → AreApart ps qs → All (λ p. All (λ q. code_of p ≢ code_of q) qs) ps
codes_of ps qs a b h = all_contained (λ p. All (λ q. code_of p ≢ code_of q) qs) ps (λ p c. all_contained (λ q. code_of p ≢ code_of q) qs (λ q d same.
    let one = All-contains (λ x. AllByRecursion (λ y. x ≢ y) qs) ps p (All-from_recursion (λ x. AllByRecursion (λ y. x ≢ y) qs) ps h) c in
    let ne = All-contains (λ y. p ≢ y) qs q (All-from_recursion (λ y. p ≢ y) qs one) d in
    ne (same_place p q (All-contains IsSmall ps p a c) (All-contains IsSmall qs q b d) same)))

apart_of : (ps qs : List Place) → All (λ p. All (λ q. code_of p ≢ code_of q) qs) ps → AreApart ps qs
apart_of ps qs h = grind (arith, nat_tests, recursion_from_All, all_contained)

-- all places of these lists
abbrev pub flat : List (List Place) → List Place
flat used = flat_map (λ ps. ps) used

pub apart_codes : (used : List (List Place)) → All (IsStrictFrom 0) used → AllPairs AreApart used → AllPairs Differ (map code_of (flat used))
apart_codes [] s h = pairs_nil Differ
apart_codes (ps ∷ used) s h =
    rw (map-append code_of ps (flat used)) (pairs_join Differ (map code_of ps) (map code_of (flat used)) (strict_distinct 0 ps first) (apart_codes used rest (pairs_tail AreApart ps used h))
    (All-map (λ m. All (Differ m) (map code_of (flat used))) code_of ps (all_contained (λ p. All (Differ (code_of p)) (map code_of (flat used))) ps across)))
  where
    first : IsStrictFrom 0 ps
    first = All-head (IsStrictFrom 0) ps used s

    rest : All (IsStrictFrom 0) used
    rest = All-tail (IsStrictFrom 0) ps used s

    across : (p : Place) → Contains ps p → All (Differ (code_of p)) (map code_of (flat used))
    across p c = All-map (Differ (code_of p)) code_of (flat used) (all_flat (λ q. code_of p ≢ code_of q) used (all_contained (λ qs. All (λ q. code_of p ≢ code_of q) qs) used (λ qs d.
        All-contains (λ x. All (λ y. code_of x ≢ code_of y) qs) ps p
        (codes_of ps qs (strict_small ps first) (strict_small qs (All-contains (IsStrictFrom 0) used qs rest d)) (All-contains (AreApart ps) used qs (pairs_head AreApart ps used h) d)) c)))

pub codes_apart : (used : List (List Place)) → AllPairs Differ (map code_of (flat used)) → AllPairs AreApart used
codes_apart [] h = pairs_nil AreApart
codes_apart (ps ∷ used) h =
    let parts = rw (map-append code_of ps (flat used)) at h in
    let across = all_unmap (λ m. All (Differ m) (map code_of (flat used))) code_of ps (pairs_across Differ (map code_of ps) (map code_of (flat used)) parts) in
    pairs_cons AreApart ps used (all_contained (AreApart ps) used (λ qs d. apart_of ps qs (all_contained (λ p. All (λ q. code_of p ≢ code_of q) qs) ps (λ p c.
    All-contains (λ ys. All (λ q. code_of p ≢ code_of q) ys) used qs
    (of_flat (λ q. code_of p ≢ code_of q) used (all_unmap (Differ (code_of p)) code_of (flat used) (All-contains (λ x. All (Differ (code_of x)) (map code_of (flat used))) ps p across c))) d))))
    (codes_apart used (pairs_right Differ (map code_of ps) (map code_of (flat used)) parts))
