-- Elisions as ranges of ids.
use Rattle.pyramid.proofs.Prelude.{nat_tests, ◌≡◌, ℕ, ◌<◌, ◌≤◌, Bool, true, false, List, [], ◌∷◌, refl, sym, ap, ◌∙◌, arith, inl, inr, Contains, ◌&&◌, ◌||◌, nat_le, IsTrue, eq-eqb, eqb-true, leb-true, le-leb, false≢true, elision_key, is_narrower, tag_of, elides, is_elided, AreCovered, Grow, NestAsRanges, class_of, here, there}
use Rattle.std.proofs.lemmas.List.Folds.{list_any_at}
use Rattle.pur_base.specs.declared.facts.ElisionFact.{ElisionFact}
use Rattle.pur_base.specs.declared.request.Table.{Table}
use Rattle.pur_base.specs.declared.request.Table.TheVariants as table

-- tags are below the number of classes
tag_small : (t : Table) → tag_of t < 8
tag_small table.Object = omega arith
tag_small table.Medium = omega arith
tag_small table.Address = omega arith
tag_small table.Segment = omega arith
tag_small table.Elision = omega arith

class_is : (f : ElisionFact) → class_of (elision_key f) ≡ tag_of f.table
class_is f = let s = tag_small f.table in omega (arith, s)

abbrev Narrower : ElisionFact → ElisionFact → Type 0
Narrower f g = (tag_of g.table ≡ tag_of f.table) × (g.first ≤ f.first) × (f.last ≤ g.last)

both : (a b c : Bool) → (a && b && c) ≡ true → (a ≡ true) × (b ≡ true) × (c ≡ true)
both true true true e = (refl, refl, refl)
both true true false e = absurd cc
both true false c e = absurd cc
both false b c e = absurd cc

narrow : (f g : ElisionFact) → IsTrue (is_narrower f g) → Narrower f g
narrow f g h = grind (arith, nat_tests, both, tag_of, nat_le, eqb-true, leb-true)

is_narrow : (f g : ElisionFact) → Narrower f g → IsTrue (is_narrower f g)
is_narrow f g h = rw (eq-eqb _ _ h.0, le-leb _ _ h.1, le-leb _ _ h.2) refl

pub nest_as_ranges : NestAsRanges elision_key is_narrower
nest_as_ranges = grind (arith, nat_tests, narrow, class_is, tag_of, tag_small, is_narrow)

-- ---- ids

abbrev IsElidedBy : List ElisionFact → Table → ℕ → Type 0
IsElidedBy fs t id = (f : ElisionFact) × Contains fs f × (elides t id f ≡ true)

elided_by : (fs : List ElisionFact) (t : Table) (id : ℕ) → is_elided fs t id ≡ true → IsElidedBy fs t id
elided_by [] t id e = absurd cc
elided_by (f ∷ fs) t id e = one (elides t id f) refl (λ h. elided_by fs t id h) e
  where
    one : (b : Bool) → elides t id f ≡ b → (is_elided fs t id ≡ true → IsElidedBy fs t id) → (b || is_elided fs t id) ≡ true → IsElidedBy (f ∷ fs) t id
    one true p inner e = (f, here f fs, p)
    one false p inner e = let r = inner e in (r.0, there f r.0 fs r.1, r.2)

by_elision : (fs : List ElisionFact) (t : Table) (id : ℕ) (f : ElisionFact) → Contains fs f → elides t id f ≡ true → is_elided fs t id ≡ true
by_elision fs t id f c e = list_any_at (elides t id) fs c.0 f c.1 (ap (elides t id) c.2 ∙ e)

wider_elides : (f g : ElisionFact) (t : Table) (id : ℕ) → Narrower f g → elides t id f ≡ true → elides t id g ≡ true
wider_elides f g t id n e = grind (arith, nat_tests, both, tag_of, nat_le, leb-true, eq-eqb, eqb-true, le-leb)

pub same_ids : (old new : List ElisionFact) → AreCovered is_narrower old new → ((f : ElisionFact) → Contains new f → Contains old f)
    → (t : Table) (id : ℕ) → is_elided new t id ≡ is_elided old t id
same_ids old new covered source t id = one (is_elided new t id) (is_elided old t id) refl refl
  where
    one : (a b : Bool) → is_elided new t id ≡ a → is_elided old t id ≡ b → a ≡ b
    one true true p q = refl
    one false false p q = refl
    one true false p q = let r = elided_by new t id p in absurd (false≢true (sym q ∙ by_elision old t id r.0 (source r.0 r.1) r.2))
    one false true p q =
        let r = elided_by old t id q in
        absurd (false≢true (sym p ∙ elim (covered r.0 r.1) [
          | inl c ↦ by_elision new t id r.0 c r.2
          | inr c ↦ by_elision new t id c.0 c.1 (wider_elides r.0 c.0 t id (narrow r.0 c.0 c.2) r.2)
        ]))

pub elisions_grow : (fs : List ElisionFact)
    → ((f g : ElisionFact) → Contains fs f → Contains fs g → f.first ≡ g.first → tag_of f.table ≡ tag_of g.table → f.seq.0 < g.seq.0 → f.last ≤ g.last)
    → Grow elision_key (λ (f : ElisionFact). f.seq.0) is_narrower fs
elisions_grow fs grow f g c d same less = grind (arith, nat_tests, tag_small, tag_of, is_narrow)
