-- Patches by ascending tag are those of each table, one table behind another.
use Rattle.table_loading.proofs.Prelude.{◌≡◌, inl, inr, ℕ, zero, suc, ◌+◌, ◌<◌, Bool, cond, List, [], ◌∷◌, ◌++◌, length, map, take, get_or, refl, sym, subst, ◌∙◌, ap, arith, ◌==◌, Contains, eq-eqb, ne_eqb, append-nil, AllByRecursion, AllZip, eqb_tells, map_push, filter_more, AnyFact, IsPatch, ByTagFrom, Patch, of_tag}
use Rattle.table_loading.proofs.Zips.{zip_push}

-- ---- one patch in front

tagged : (tag : ℕ) (p : Patch) (ps : List Patch) → p.tag ≡ tag → of_tag tag (p ∷ ps) ≡ p ∷ of_tag tag ps
tagged tag p ps is = ap (λ (b : Bool). cond b (p ∷ of_tag tag ps) (of_tag tag ps)) (eq-eqb p.tag tag is)

skipped : (tag : ℕ) (p : Patch) (ps : List Patch) → (p.tag ≡ tag → ⊥) → of_tag tag (p ∷ ps) ≡ of_tag tag ps
skipped tag p ps is_not = ap (λ (b : Bool). cond b (p ∷ of_tag tag ps) (of_tag tag ps)) (ne_eqb p.tag tag is_not)

-- no patch has a tag below the first
none_below : (tag least : ℕ) (ps : List Patch) → ByTagFrom least ps → tag < least → of_tag tag ps ≡ []
none_below tag least [] by lt = refl
none_below tag least (p ∷ ps) by lt = skipped tag p ps (λ is. omega (arith, is, by.0, lt)) ∙ none_below tag p.tag ps by.1 (omega (arith, by.0, lt))

-- ---- all tables

-- the patches of so many tables from that tag on
abbrev pub of_tags : ℕ → ℕ → List Patch → List Patch
of_tags tag zero ps = []
of_tags tag (suc count) ps = of_tag tag ps ++ of_tags (tag + 1) count ps

-- a patch of an earlier table
passed : (tag count : ℕ) (p : Patch) (ps : List Patch) → p.tag < tag → of_tags tag count (p ∷ ps) ≡ of_tags tag count ps
passed tag zero p ps lt = refl
passed tag (suc count) p ps lt =
    ap (λ (l : List Patch). l ++ of_tags (tag + 1) count (p ∷ ps)) (skipped tag p ps (λ is. omega (arith, is, lt)))
    ∙ ap (λ (l : List Patch). of_tag tag ps ++ l) (passed (tag + 1) count p ps (omega (arith, lt)))

no_patches : (tag count : ℕ) → of_tags tag count [] ≡ []
no_patches tag zero = refl
no_patches tag (suc count) = no_patches (tag + 1) count

-- the same of the patches behind the first
abbrev pub AreTables : List Patch → Type 0
AreTables ps = (tag count : ℕ) → ByTagFrom tag ps → AllByRecursion (λ p. p.tag < tag + count) ps → of_tags tag count ps ≡ ps

one_more : (p : Patch) (ps : List Patch) → AreTables ps → AreTables (p ∷ ps)
one_more p ps rest tag zero by below = absurd (omega (arith, by.0, below.0))
one_more p ps rest tag (suc count) by below = elim (eqb_tells p.tag tag) [
  | inl (test, is) ↦
      ap (λ (l : List Patch). l ++ of_tags (tag + 1) count (p ∷ ps)) (tagged tag p ps is)
      ∙ ap (λ (l : List Patch). p ∷ (of_tag tag ps ++ l)) (passed (tag + 1) count p ps (omega (arith, is)))
      ∙ ap (λ (l : List Patch). p ∷ l) (rest tag (suc count) (subst (λ (t : ℕ). ByTagFrom t ps) is by.1) below.1)
  | inr (test, is_not) ↦
      ap (λ (l : List Patch). l ++ of_tags (tag + 1) count (p ∷ ps)) (skipped tag p ps is_not ∙ none_below tag p.tag ps by.1 (omega (arith, by.0, is_not)))
      ∙ one_more p ps rest (tag + 1) count (omega (arith, by.0, is_not), by.1) (below_as (tag + suc count) (tag + 1 + count) (p ∷ ps) (omega arith) below)
]
  where
    below_as : (m n : ℕ) (qs : List Patch) → m ≡ n → AllByRecursion (λ p. p.tag < m) qs → AllByRecursion (λ p. p.tag < n) qs
    below_as m n qs same all = subst (λ (k : ℕ). AllByRecursion (λ p. p.tag < k) qs) same all

by_tables : (ps : List Patch) → AreTables ps
by_tables [] = λ tag count by below. no_patches tag count
by_tables (p ∷ ps) = one_more p ps (by_tables ps)

few_tags : (slots units : ℕ) (ps : List Patch) → AllByRecursion (IsPatch slots units) ps → AllByRecursion (λ p. p.tag < 1 + 5) ps
few_tags slots units [] each = tt
few_tags slots units (p ∷ ps) each = (omega (arith, each.0.tag), few_tags slots units ps each.1)

-- the patches of the five tables
pub five_tables : (slots units : ℕ) (ps : List Patch) → AllByRecursion (IsPatch slots units) ps → ByTagFrom 1 ps → of_tag 1 ps ++ (of_tag 2 ps ++ (of_tag 3 ps ++ (of_tag 4 ps ++ of_tag 5 ps))) ≡ ps
five_tables slots units ps each by =
    sym (ap (λ (l : List Patch). of_tag 1 ps ++ (of_tag 2 ps ++ (of_tag 3 ps ++ (of_tag 4 ps ++ l)))) (append-nil (of_tag 5 ps)))
    ∙ by_tables ps 1 5 by (few_tags slots units ps each)

-- ---- one table, patch by patch

-- the patch at an index is one of them
pub named_at : (ps : List Patch) (index : ℕ) (p : Patch) → index < length ps → p ≡ get_or ps index p → Contains ps p
named_at ps index p lt at = (index, lt, sym at)

module _ (tag : ℕ) (ps : List Patch) (index : ℕ) (p : Patch) (lt : index < length ps) (at : p ≡ get_or ps index p) where
  next_is : of_tag tag (take (index + 1) ps) ≡ of_tag tag (take index ps) ++ cond (p.tag == tag) (p ∷ []) []
  next_is =
      filter_more (λ (q : Patch). q.tag == tag) ps index p lt
      ∙ ap (λ (q : Patch). of_tag tag (take index ps) ++ cond (q.tag == tag) (q ∷ []) []) (sym at)

  -- one more of its patches is loaded
  pub table_more : {F : Type 0} (any : F → AnyFact) (R : Patch → List AnyFact → Type 0) (got now : List (List F)) (facts : List F) → p.tag ≡ tag → now ≡ got ++ facts ∷ []
      → AllZip R (of_tag tag (take index ps)) (map (map any) got) → R p (map any facts) → AllZip R (of_tag tag (take (index + 1) ps)) (map (map any) now)
  table_more {F} any R got now facts is pushed so_far loaded =
      let next : of_tag tag (take (index + 1) ps) ≡ of_tag tag (take index ps) ++ p ∷ [] =
      next_is ∙ ap (λ (b : Bool). of_tag tag (take index ps) ++ cond b (p ∷ []) []) (eq-eqb p.tag tag is) in
      let mapped : map (map any) now ≡ map (map any) got ++ map any facts ∷ [] = ap (map (map any)) pushed ∙ map_push (map any) got facts in
      subst (λ (l : List Patch). AllZip R l (map (map any) now)) (sym next)
      (subst (λ (l : List (List AnyFact)). AllZip R (of_tag tag (take index ps) ++ p ∷ []) l) (sym mapped)
      (zip_push R (of_tag tag (take index ps)) (map (map any) got) p (map any facts) so_far loaded))

  -- or one of another table is passed
  pub table_same : (p.tag ≡ tag → ⊥) → of_tag tag (take (index + 1) ps) ≡ of_tag tag (take index ps)
  table_same is_not =
      next_is ∙ ap (λ (b : Bool). of_tag tag (take index ps) ++ cond b (p ∷ []) []) (ne_eqb p.tag tag is_not) ∙ append-nil (of_tag tag (take index ps))
