-- The loops over the units of segments, and over the slots.
use Rattle.free_space.proofs.Prelude.{ℕ, suc, Bool, false, ◌≡◌, ◌<◌, ◌≤◌, ◌+◌, List, [], ◌∷◌, ◌++◌, length, get_or, drop, sym, ap, ◌∙◌, subst, add-one, drop-cons, flat_map, fold-append, Place, Drive, drive_at, with_unit, with_units, as_member, CanMark}

-- ---- units

pub can_split : (drives : List Drive) (ps qs : List Place) → CanMark drives (ps ++ qs) → CanMark drives ps × CanMark (with_units false drives ps) qs
can_split drives [] qs h = (tt, h)
can_split drives (p ∷ ps) qs h = let r = can_split (with_unit false drives p) ps qs h.2 in ((h.0, h.1, r.0), r.1)

pub can_join : (drives : List Drive) (ps qs : List Place) → CanMark drives ps → CanMark (with_units false drives ps) qs → CanMark drives (ps ++ qs)
can_join drives [] qs h k = k
can_join drives (p ∷ ps) qs h k = (h.0, h.1, can_join (with_unit false drives p) ps qs h.2 k)

-- the units that are left may be marked, and give then what all of them give
pub record IsMarking (old now : List Drive) (all rest : List Place) : Type 0 where
  pub can : CanMark now rest
  pub so_far : with_units false now rest ≡ with_units false old all

pub marking_more : (old now : List Drive) (all ps rest : List Place) → IsMarking old now all (ps ++ rest) → IsMarking old (with_units false now ps) all rest
marking_more old now all ps rest h = record {
  can = (can_split now ps rest h.can).1;
  so_far = sym (fold-append (with_unit false) now ps rest) ∙ h.so_far;
}

pub next : {X : Type 0} (f : X → List Place) (xs : List X) (i : ℕ) (x d : X) → i < length xs → get_or xs i d ≡ x → flat_map f (drop i xs) ≡ f x ++ flat_map f (drop (i + 1) xs)
next f xs i x d lt is = rw add-one (ap (flat_map f) (drop-cons xs i d lt) ∙ ap (λ y. f y ++ flat_map f (drop (suc i) xs)) is)

pub next_can : {X : Type 0} (f : X → List Place) (xs : List X) (i : ℕ) (x d : X) (old now : List Drive) (all : List Place) → i < length xs → get_or xs i d ≡ x
    → IsMarking old now all (flat_map f (drop i xs)) → CanMark now (f x)
next_can f xs i x d old now all lt is h =
    (can_split now (f x) (flat_map f (drop (i + 1) xs)) (subst (CanMark now) (next f xs i x d lt is) h.can)).0

pub next_marked : {X : Type 0} (f : X → List Place) (xs : List X) (i : ℕ) (x d : X) (old now new : List Drive) (all : List Place) → i < length xs → get_or xs i d ≡ x
    → IsMarking old now all (flat_map f (drop i xs)) → new ≡ with_units false now (f x) → IsMarking old new all (flat_map f (drop (i + 1) xs))
next_marked f xs i x d old now new all lt is h e =
    subst (λ ds. IsMarking old ds all (flat_map f (drop (i + 1) xs))) (sym e)
    (marking_more old now all (f x) (flat_map f (drop (i + 1) xs)) (subst (IsMarking old now all) (next f xs i x d lt is) h))

-- ---- places of one segment

pub one : (ps : List Place) (i : ℕ) (p d : Place) → i < length ps → get_or ps i d ≡ p → drop i ps ≡ (p ∷ []) ++ drop (i + 1) ps
one ps i p d lt is = rw add-one (drop-cons ps i d lt ∙ ap (λ y. y ∷ drop (suc i) ps) is)

-- ---- slots

-- the members of the slots below one are set
pub record SetsUpTo (old now : List Drive) (flags : List Bool) (slot : ℕ) : Type 0 where
  pub size : length now ≡ length old
  pub done : (k : ℕ) → k < slot → drive_at now k ≡ as_member (get_or flags k false) (drive_at old k)
  pub rest : (k : ℕ) → slot ≤ k → drive_at now k ≡ drive_at old k
