-- The new patches and their segments.
use Rattle.record_tables.proofs.Prelude.{◌≡◌, ℕ, zero, suc, ◌+◌, ◌<◌, ◌≤◌, cond, List, [], ◌∷◌, ◌++◌, length, refl, sym, ap, ◌∙◌, arith, subst, map, take, drop, sum_by, append-nil, append_assoc, get_or, ne_eqb, length-take, length-drop, take-append-drop, drop-drop, AllByRecursion, flat_map, flat_map-append, map-append, drop_more, sum_by-cons, sum_by-drop_more, Place, PatchSegment, Patch, all_append, segments_for, segments_from, new_patch, added_from}

-- ---- segments

pub segments_long : (id : ℕ) (units : List (List Place)) → length (segments_from id units) ≡ length units
segments_long id [] = refl
segments_long id (u ∷ units) = ap suc (segments_long (id + 1) units)

pub segments_places : (id : ℕ) (units : List (List Place)) → map (λ s. s.places) (segments_from id units) ≡ units
segments_places id [] = refl
segments_places id (u ∷ units) = ap (λ l. u ∷ l) (segments_places (id + 1) units)

pub segments_append : (id : ℕ) (us vs : List (List Place)) → segments_from id (us ++ vs) ≡ segments_from id us ++ segments_from (id + length us) vs
segments_append id [] vs = ap (λ n. segments_from n vs) (let e : id ≡ id + 0 = omega arith in e)
segments_append id (u ∷ us) vs =
    ap (λ l. record { id = id; places = u } ∷ l)
    (segments_append (id + 1) us vs ∙ ap (λ n. segments_from (id + 1) us ++ segments_from n vs) (let e : id + 1 + length us ≡ id + suc (length us) = omega arith in e))

-- the first so many, and the others
segments_cut : (id n : ℕ) (units : List (List Place)) → n ≤ length units → segments_from id (take n units) ++ segments_from (id + n) (drop n units) ≡ segments_from id units
segments_cut id n units l =
    let long : length (take n units) ≡ n = length-take n units ∙ omega (arith, l) in
    sym (segments_append id (take n units) (drop n units) ∙ ap (λ k. segments_from id (take n units) ++ segments_from (id + k) (drop n units)) long)
    ∙ ap (λ u. segments_from id u) (take-append-drop n units)

-- ---- one new patch

-- the patch of so many facts
abbrev pub the_patch : ℕ → ℕ → ℕ → List (List Place) → Patch
the_patch tag facts id units = record { tag = tag; facts = facts; segments = segments_from id units }

pub new_some : (tag n id : ℕ) (units : List (List Place)) → 1 ≤ n → new_patch tag n id units ≡ the_patch tag n id units ∷ []
new_some tag n id units l = ap (λ b. cond b [] (the_patch tag n id units ∷ [])) (ne_eqb n 0 (λ e. omega (arith, l, e)))

no_places : (id : ℕ) (units : List (List Place)) → length units ≡ 0 → [] ≡ segments_from id units
no_places id [] e = refl
no_places id (u ∷ units) e = absurd (omega (arith, e))

pub patch_segments_are : (tag n id : ℕ) (units : List (List Place)) → length units ≡ segments_for n → flat_map (λ p. p.segments) (new_patch tag n id units) ≡ segments_from id units
patch_segments_are tag zero id units e = no_places id units e
patch_segments_are tag (suc n) id units e = ap (λ ps. flat_map (λ (p : Patch). p.segments) ps) (new_some tag (suc n) id units (omega arith)) ∙ append-nil (segments_from id units)

-- there is one at most
pub one_at_most : (tag n id : ℕ) (units : List (List Place)) → length (new_patch tag n id units) ≤ 1
one_at_most tag zero id units = omega arith
one_at_most tag (suc n) id units = let one = ap length (new_some tag (suc n) id units (omega arith)) in omega (arith, one)

-- what holds of it holds of each new patch
pub new_each : (P : Patch → Type 0) (tag n id : ℕ) (units : List (List Place)) → (1 ≤ n → P (the_patch tag n id units)) → AllByRecursion P (new_patch tag n id units)
new_each P tag zero id units h = tt
new_each P tag (suc n) id units h = subst (λ ps. AllByRecursion P ps) (sym (new_some tag (suc n) id units (omega arith))) (h (omega arith), tt)

-- ---- all of them

pub added_filled : (tag : ℕ) (counts : List ℕ) (id : ℕ) (units : List (List Place)) → AllByRecursion (λ p. 1 ≤ p.facts) (added_from tag counts id units)
added_filled tag [] id units = tt
added_filled tag (n ∷ counts) id units =
    all_append (λ p. 1 ≤ p.facts) (new_patch tag n id (take (segments_for n) units)) (added_from (tag + 1) counts (id + segments_for n) (drop (segments_for n) units))
    (new_each (λ p. 1 ≤ p.facts) tag n id (take (segments_for n) units) (λ some. some)) (added_filled (tag + 1) counts (id + segments_for n) (drop (segments_for n) units))

-- what a table takes of the units
pub taken_long : (n : ℕ) (counts : List ℕ) (units : List (List Place)) → sum_by segments_for (n ∷ counts) ≡ length units → length (take (segments_for n) units) ≡ segments_for n
taken_long n counts units e =
    omega (arith, e, sum_by-cons segments_for n counts, length-take (segments_for n) units)

-- what it leaves
pub left_long : (n : ℕ) (counts : List ℕ) (units : List (List Place)) → sum_by segments_for (n ∷ counts) ≡ length units → sum_by segments_for counts ≡ length (drop (segments_for n) units)
left_long n counts units e =
    omega (arith, e, sum_by-cons segments_for n counts, length-drop (segments_for n) units)

-- their segments stand on the units, in order
pub added_segments : (tag : ℕ) (counts : List ℕ) (id : ℕ) (units : List (List Place)) → sum_by segments_for counts ≡ length units → flat_map (λ p. p.segments) (added_from tag counts id units) ≡ segments_from id units
added_segments tag [] id [] e = refl
added_segments tag [] id (u ∷ units) e = absurd (omega (arith, e))
added_segments tag (n ∷ counts) id units e =
    let sum : sum_by segments_for (n ∷ counts) ≡ segments_for n + sum_by segments_for counts = sum_by-cons segments_for n counts in
    flat_map-append (λ (p : Patch). p.segments) (new_patch tag n id (take (segments_for n) units)) (added_from (tag + 1) counts (id + segments_for n) (drop (segments_for n) units))
    ∙ ap (λ l. l ++ flat_map (λ p. p.segments) (added_from (tag + 1) counts (id + segments_for n) (drop (segments_for n) units))) (patch_segments_are tag n id (take (segments_for n) units) (taken_long n counts units e))
    ∙ ap (λ l. segments_from id (take (segments_for n) units) ++ l) (added_segments (tag + 1) counts (id + segments_for n) (drop (segments_for n) units) (left_long n counts units e))
    ∙ segments_cut id (segments_for n) units (omega (arith, e, sum))

-- so do their places
pub flat_places : (ps : List Patch) → flat_map (λ p. map (λ s. s.places) p.segments) ps ≡ map (λ s. s.places) (flat_map (λ p. p.segments) ps)
flat_places [] = refl
flat_places (p ∷ ps) = ap (λ l. map (λ s. s.places) p.segments ++ l) (flat_places ps) ∙ sym (map-append (λ (s : PatchSegment). s.places) p.segments (flat_map (λ q. q.segments) ps))

pub added_places : (tag : ℕ) (counts : List ℕ) (id : ℕ) (units : List (List Place)) → sum_by segments_for counts ≡ length units
    → flat_map (λ p. map (λ s. s.places) p.segments) (added_from tag counts id units) ≡ units
added_places tag counts id units e =
    flat_places (added_from tag counts id units) ∙ ap (λ l. map (λ (s : PatchSegment). s.places) l) (added_segments tag counts id units e) ∙ segments_places id units

-- one table more, where so many counts are left
pub one_more : (done all : List Patch) (counts : List ℕ) (i n id used : ℕ) (units : List (List Place)) → i < length counts → n ≡ get_or counts i 0
    → done ++ added_from (i + 1) (drop i counts) (id + used) (drop used units) ≡ all
    → (done ++ new_patch (i + 1) n (id + used) (take (segments_for n) (drop used units))) ++ added_from (i + 1 + 1) (drop (i + 1) counts) (id + (used + segments_for n)) (drop (used + segments_for n) units) ≡ all
one_more done all counts i n id used units l is h =
    let k : ℕ = segments_for n in
    let first : List Patch = new_patch (i + 1) n (id + used) (take k (drop used units)) in
    let next : drop i counts ≡ n ∷ drop (i + 1) counts = drop_more counts i 0 l ∙ ap (λ x. x ∷ drop (i + 1) counts) (sym is) in
    append_assoc done first (added_from (i + 1 + 1) (drop (i + 1) counts) (id + (used + k)) (drop (used + k) units))
    ∙ ap (λ x. done ++ (first ++ added_from (i + 1 + 1) (drop (i + 1) counts) x (drop (used + k) units))) (let e : id + (used + k) ≡ id + used + k = omega arith in e)
    ∙ ap (λ us. done ++ (first ++ added_from (i + 1 + 1) (drop (i + 1) counts) (id + used + k) us)) (sym (drop-drop k used units))
    ∙ ap (λ cs. done ++ added_from (i + 1) cs (id + used) (drop used units)) (sym next)
    ∙ h

-- the counts that are left
pub fewer_left : (counts : List ℕ) (i n used all : ℕ) → i < length counts → n ≡ get_or counts i 0 → used + sum_by segments_for (drop i counts) ≡ all → used + segments_for n + sum_by segments_for (drop (i + 1) counts) ≡ all
fewer_left counts i n used all l is h =
    omega (arith, sum_by-drop_more segments_for counts i 0 l, ap segments_for is, h)
