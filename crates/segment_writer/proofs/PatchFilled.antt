-- Stripes are filled fact by fact.
use Rattle.segment_writer.proofs.Prelude.{nat_tests, ◌≡◌, ◌≢◌, ℕ, ◌+◌, ◌*◌, ◌<◌, ◌≤◌, List, length, map, get_or, refl, sym, subst, ◌∙◌, ap, arith, below_more, Option, Some, slice_get, slice_set, option_map, get_or-set_same, get_or-set_other, length-map, slice_get-map, slice_get_past, slice_get_read, zeros, AnyFact, Decodes, stripe_in, text_in, IsTextOf, HoldsFacts}
use Rattle.std.specs.Option.{MatchOption}

-- ---- the bytes of one fact

pub fact_at : {F : Type 0} (any : F → AnyFact) (xs : List F) (k : ℕ) (f : F) → k < length xs → f ≡ get_or xs k f → slice_get (map any xs) k ≡ Some (any f)
fact_at any xs k f lt is = slice_get-map any xs k ∙ ap (option_map any) (slice_get_read xs (length xs) k f refl lt is)

pub text_of_fact : {F : Type 0} (any : F → AnyFact) (xs : List F) (k : ℕ) (f : F) (text : List ℕ) → k < length xs → f ≡ get_or xs k f → Decodes text (any f) → IsTextOf (map any xs) k text
text_of_fact any xs k f text lt is decodes =
    subst (λ (o : Option AnyFact). MatchOption o (text ≡ zeros 64) (λ g. Decodes text g)) (sym (fact_at any xs k f lt is)) decodes

pub text_of_none : {F : Type 0} (any : F → AnyFact) (xs : List F) (k : ℕ) (text : List ℕ) → length xs ≤ k → text ≡ zeros 64 → IsTextOf (map any xs) k text
text_of_none any xs k text past is =
    subst (λ (o : Option AnyFact). MatchOption o (text ≡ zeros 64) (λ g. Decodes text g)) (sym (slice_get_past (map any xs) k (omega (arith, past, length-map xs any)))) is

-- one more fact is put in
pub fill_more : (facts : List AnyFact) (number place : ℕ) (stripe new : List (List ℕ)) (text : List ℕ) → place < 448 → ((k : ℕ) → k < place → IsTextOf facts (448 * number + k) (text_in stripe k)) → IsTextOf facts (448 * number + place) text
    → text_in new place ≡ text → ((other : ℕ) → other < 448 → other ≢ place → text_in new other ≡ text_in stripe other) → (k : ℕ) → k < place + 1 → IsTextOf facts (448 * number + k) (text_in new k)
fill_more facts number place stripe new text lt before is here others = grind (arith, nat_tests, below_more)

-- one more stripe is filled
pub stripes_more : (facts : List AnyFact) (number : ℕ) (stripes : List (List (List ℕ))) (new : List (List ℕ)) → number < length stripes → ((k : ℕ) → k < number → HoldsFacts facts k (stripe_in stripes k)) → HoldsFacts facts number new
    → (k : ℕ) → k < number + 1 → HoldsFacts facts k (stripe_in (slice_set stripes number new) k)
stripes_more facts number stripes new lt before is = grind (arith, nat_tests, below_more, stripe_in, slice_set, get_or-set_other, get_or-set_same)
