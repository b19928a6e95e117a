use Rattle.parity72.proofs.Prelude.{◌≡◌, ℕ, ◌+◌, ◌*◌, ◌/◌, ◌<◌, ◌||◌, List, Bool, true, cond, eqb, get_or, replicate, length, refl, ap, sym, ◌∙◌, subst, arith, w8, swz_l, SwzOk, SwzOk-from_Each1, Each1-from_get_or, Each1-get_or, length-swz_l, get_or-swz_l}
use lib.Bits.{bit_and}
use lib.Dec.{T, ltb}
use mir.Val.{Fits, zeroes}
use borrow.Author.Tests.{eqb-true}
use Rattle.parity72.proofs.Checks.{all_below, all_below-at}
use Rattle.parity72.proofs.LaneFacts.{by_quarters, four-long}
use Rattle.parity72.proofs.lanes.reductions_left_out.Goals as goal

-- what a look-up takes: a place in the table, or 128 and more
abbrev is_place : ℕ → Bool
is_place j = zeroes 16 w8 j || ltb j 16

places-all : all_below (λ a. is_place (bit_and a 143)) 256 ≡ true
places-all = refl

-- the places are sound where each is the mask of a byte
sound : (v js : List ℕ) → length js ≡ 64 → ((k : ℕ) → k < 64 → get_or v k 0 < 256) → ((k : ℕ) → k < 64 → get_or js k 0 ≡ bit_and (get_or v k 0) 143) → SwzOk w8 16 64 0 js
sound v js long fits masked =
    SwzOk-from_Each1 w8 16 4 64 0 js refl (omega arith)
    (Each1-from_get_or (λ j. T (is_place j)) js 0
    (λ i lt. let small : i < 64 = omega arith in
    subst (λ j. T (is_place j)) (sym (masked i small)) (subst T (sym (all_below-at (λ a. is_place (bit_and a 143)) 256 places-all (get_or v i 0) (fits i small))) tt)))

-- the table, and what the look-up gives of a lane
abbrev table : List ℕ
table = replicate 64 29

abbrev looked_up : ℕ → ℕ → ℕ
looked_up row x = cond (zeroes 16 w8 (bit_and x 143)) 0 (get_or table (16 * row + bit_and x 143) 0)

looked_up-all : all_below (λ row. all_below (λ x. eqb (looked_up row x) (cond (ltb x 128) 29 0)) 256) 4 ≡ true
looked_up-all = refl

looked_up-at : (row x : ℕ) → row < 4 → x < 256 → looked_up row x ≡ cond (ltb x 128) 29 0
looked_up-at row x lr lx =
    eqb-true (looked_up row x) (cond (ltb x 128) 29 0) (all_below-at (λ x. eqb (looked_up row x) (cond (ltb x 128) 29 0)) 256
    (all_below-at (λ row. all_below (λ x. eqb (looked_up row x) (cond (ltb x 128) 29 0)) 256) 4 looked_up-all row lr) x lx)

found : (v js : List ℕ) → length js ≡ 64 → ((k : ℕ) → k < 64 → get_or v k 0 < 256) → ((k : ℕ) → k < 64 → get_or js k 0 ≡ bit_and (get_or v k 0) 143)
    → (k : ℕ) → k < 64 → get_or (swz_l w8 16 table 0 js) k 0 ≡ cond (ltb (get_or v k 0) 128) 29 0
found v js long fits masked k lt =
    get_or-swz_l w8 16 table 0 js k (omega arith)
    ∙ ap (λ j. cond (zeroes 16 w8 j) 0 (get_or table (16 * ((0 + k) / 16) + j) 0)) (masked k lt)
    ∙ looked_up-at ((0 + k) / 16) (get_or v k 0) (omega arith) (fits k lt)

pub swizzle : goal.swizzle
swizzle c =
    let v = c.args.lanes in
    let q = c.quarters in
    let a = c.places-a in
    let b = c.places-b in
    let d = c.places-c in
    let e = c.places-d in
    let long : length c.joined.result ≡ 64 = ap length c.joined.ensures ∙ four-long a.result b.result d.result e.result a.ensures.long b.ensures.long d.ensures.long e.ensures.long in
    sound v c.joined.result long (λ k lt. (Each1-get_or (Fits w8) v k 0 (omega (arith, c.fits-lanes.0)) c.fits-lanes.1).fits)
    (λ k lt. ap (λ l. get_or l k 0) c.joined.ensures
    ∙ by_quarters (λ x. bit_and x 143) v q.result.0 q.result.1 q.result.2 q.result.3 a.result b.result d.result e.result q.ensures.in_order
    (record { from_long = q.ensures.first; to_long = a.ensures.long; each = a.ensures.each })
    (record { from_long = q.ensures.second; to_long = b.ensures.long; each = b.ensures.each })
    (record { from_long = q.ensures.third; to_long = d.ensures.long; each = d.ensures.each })
    e.ensures.each k lt)

pub returns-clause-long : goal.returns-clause-long
returns-clause-long c =
    let a = c.places-a in
    let b = c.places-b in
    let d = c.places-c in
    let e = c.places-d in
    length-swz_l w8 16 table 0 c.joined.result ∙ ap length c.joined.ensures ∙ four-long a.result b.result d.result e.result a.ensures.long b.ensures.long d.ensures.long e.ensures.long

pub returns-clause-each : goal.returns-clause-each
returns-clause-each c =
    let v = c.args.lanes in
    let q = c.quarters in
    let a = c.places-a in
    let b = c.places-b in
    let d = c.places-c in
    let e = c.places-d in
    let long : length c.joined.result ≡ 64 = ap length c.joined.ensures ∙ four-long a.result b.result d.result e.result a.ensures.long b.ensures.long d.ensures.long e.ensures.long in
    found v c.joined.result long (λ k lt. (Each1-get_or (Fits w8) v k 0 (omega (arith, c.fits-lanes.0)) c.fits-lanes.1).fits)
    (λ k lt. ap (λ l. get_or l k 0) c.joined.ensures
    ∙ by_quarters (λ x. bit_and x 143) v q.result.0 q.result.1 q.result.2 q.result.3 a.result b.result d.result e.result q.ensures.in_order
    (record { from_long = q.ensures.first; to_long = a.ensures.long; each = a.ensures.each })
    (record { from_long = q.ensures.second; to_long = b.ensures.long; each = b.ensures.each })
    (record { from_long = q.ensures.third; to_long = d.ensures.long; each = d.ensures.each })
    e.ensures.each k lt)
