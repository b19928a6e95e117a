-- Which ids are elided once elisions were added, and what facts then say.
use Rattle.std.proofs.lemmas.Bool.Decides.{nat_tests}
use Rattle.std.proofs.Common.{◌≡◌, ◌≢◌, ◌⊎◌, ◌↔◌, ℕ, Bool, true, false, ◌||◌, List, [], ◌∷◌, refl, sym, ap, ◌∙◌, arith, inl, inr, Some, None, option_and_then, if◌then◌else◌, Contains, eqb-true}
use Rattle.std.specs.List.{list_any}
use Rattle.std.proofs.lemmas.Bool.{both_ways, and_parts, cases_Bool}
use Rattle.std.proofs.lemmas.List.Folds.{list_any_at}
use Rattle.array_spec.specs.Prelude.{id_of, has_key, newest, says, unless_empty, tag_of, elides, is_elided, Table, ElisionFact}
use Rattle.pur_base.specs.declared.request.Table.TheVariants as table
use Rattle.pyramid.specs.Prelude.{here, there}

-- one element that passes
pub any_of : {X : Type 0} (p : X → Bool) (xs : List X) (x : X) → Contains xs x → p x ≡ true → list_any p xs ≡ true
any_of p xs x c e = list_any_at p xs c.0 x c.1 (ap p c.2 ∙ e)

pub of_any : {X : Type 0} (p : X → Bool) (xs : List X) → list_any p xs ≡ true → (x : X) × Contains xs x × (p x ≡ true)
of_any p [] e = cc
of_any {X} p (y ∷ xs) e = one (p y) refl e (λ d. of_any p xs d)
  where
    one : (b : Bool) → p y ≡ b → (b || list_any p xs) ≡ true → (list_any p xs ≡ true → (x : X) × Contains xs x × (p x ≡ true)) → (x : X) × Contains (y ∷ xs) x × (p x ≡ true)
    one true is d rest = (y, here y xs, is)
    one false is d rest = let w = rest d in (w.0, there y w.0 xs w.1, w.2)

-- a tag is that of one table
pub one_table : (a t : Table) → tag_of a ≡ tag_of t → a ≡ t
one_table table.Object table.Object e = refl
one_table table.Medium table.Medium e = refl
one_table table.Address table.Address e = refl
one_table table.Segment table.Segment e = refl
one_table table.Elision table.Elision e = refl
one_table a t e = absurd (omega (arith, e))

module _ (old new added : List ElisionFact) (more : (f : ElisionFact) → Contains new f ↔ (Contains old f ⊎ Contains added f)) (t : Table) (id : ℕ) where
  -- an elided id stays so
  pub still_elided : is_elided old t id ≡ true → is_elided new t id ≡ true
  still_elided e = let w = of_any (elides t id) old e in any_of (elides t id) new w.0 ((more w.0).1 (inl w.1)) w.2

  pub not_before : is_elided new t id ≡ false → is_elided old t id ≡ false
  not_before e = elim (cases_Bool (is_elided old t id)) [ inl is ↦ absurd (both_ways (is_elided new t id) e (still_elided is)) | inr no_elision ↦ no_elision ]

  -- where no fact of the table was added
  pub as_before : ((f : ElisionFact) → Contains added f → f.table ≢ t) → is_elided new t id ≡ is_elided old t id
  as_before none = elim (cases_Bool (is_elided new t id)) [
    | inr out ↦ out ∙ sym (not_before out)
    | inl is ↦
        let w = of_any (elides t id) new is in
        elim ((more w.0).0 w.1) [
          | inl c ↦ is ∙ sym (any_of (elides t id) old w.0 c w.2)
          | inr c ↦ absurd (none w.0 c (one_table w.0.table t (of_table w.0 w.2)))
        ]
  ]
    where
      of_table : (f : ElisionFact) → elides t id f ≡ true → tag_of f.table ≡ tag_of t
      of_table f e = let p = and_parts _ _ e in let q = and_parts _ _ p.0 in eqb-true (tag_of f.table) (tag_of t) q.0

  -- where only others were
  pub same_where : (P : Type 0) → (is_elided new t id ≡ true → (is_elided old t id ≡ true) ⊎ (P → ⊥)) → P → is_elided new t id ≡ is_elided old t id
  same_where P other p = grind (arith, nat_tests, is_elided, not_before)

-- what is said where more ids are elided is said where fewer are
pub said_before : {F : Type 0} (key number : F → ℕ) (empty : F → Bool) (fs : List F) (before after : ℕ → Bool) (k : ℕ) (f : F) → (after (id_of k) ≡ false → before (id_of k) ≡ false)
    → says key number empty fs after k ≡ Some f → says key number empty fs before k ≡ Some f
said_before {F} key number empty fs before after k f fewer e = grind (arith, nat_tests, id_of, option_and_then, unless_empty, newest, has_key, says)

-- and the same is said where its id is elided alike
pub says_where : {F : Type 0} (key number : F → ℕ) (empty : F → Bool) (fs : List F) (before after : ℕ → Bool) (k : ℕ) → after (id_of k) ≡ before (id_of k)
    → says key number empty fs after k ≡ says key number empty fs before k
says_where key number empty fs before after k e = ap (λ c. if c then None else option_and_then (unless_empty empty) (newest number (has_key key k) fs)) e
