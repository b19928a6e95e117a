-- Objects at their names, in order of creation.
use Rattle.std.proofs.lemmas.Bool.Decides.{nat_tests}
use Rattle.std.proofs.Common.{◌≡◌, ◌≢◌, ◌⊎◌, ℕ, zero, suc, ◌+◌, ◌-◌, ◌^◌, ◌<◌, ◌≤◌, ◌==◌, Bool, true, false, not, filter, map, cond, List, [], ◌∷◌, ◌++◌, length, get_or, take, refl, sym, ap, subst, ◌∙◌, arith, inl, inr, All, Contains, slice_get, remove, Option, Some, None, IfSome, IfNone, if◌then◌else◌, AllPairs, bytes_eq, ◌↔◌, IsTrue, nat_lt, lt-ltb, ltb-true, ltb-false, eq-eqb, ne_eqb, eqb-true, true≢false, get_or-take, length-take}
use Rattle.std.specs.List.{IsDistinct, filter_map, range_with_len}
use Rattle.std.specs.List.Sorted.{IsPartitionedBy, IsPartitionPoint}
use Rattle.std.specs.Map.{keys_of, lookup}
use Rattle.std.proofs.lemmas.Bool.{cases_lt, eqb-false}
use Rattle.std.proofs.lemmas.Slice.Eq.{bytes_eq-Decides}
use Rattle.std.proofs.lemmas.Map.Made.{AllPairs-from_IsDistinct}
use Rattle.std.proofs.lemmas.List.{map-append, take_more, get_or_default}
use Rattle.std.proofs.lemmas.List.Elements.{All-nil, All-cons, All-head, All-tail, All-push, All-contains, Contains-get_or}
use Rattle.indexmap.specs.IndexMap.{insert_entry}
use Rattle.indexmap.specs.Layout.{set_value_at}
use Rattle.pyramid.specs.Prelude.{Ascends, says, object_key, never, ObjectFact, MediumId, Seq, here, there, either, nowhere, ascends-head, ascends-tail, ascends_filter, id_of, key_of, AreDistinct, facts_of, IsShown, ascends_push, ascends_map, put, put_it, put_other, said_whole, said_found, listed_by_id, shown_added, shown_replaced, shown_elided, taken_of}
use Rattle.object_table.specs.Objects.{AreListed, AreNamesDistinct, objects_of, number, with_medium}

abbrev pub Entry : Type 0
Entry = List ℕ × ObjectFact

-- ---- names

abbrev pub AreNamed : List Entry → Type 0
AreNamed es = All (λ e. e.0 ≡ e.1.name) es

other_name : (name key : List ℕ) → name ≢ key → bytes_eq name key ≡ false
other_name name key ne = one (bytes_eq name key) refl
  where
    one : (b : Bool) → bytes_eq name key ≡ b → bytes_eq name key ≡ false
    one true e = absurd (ne ((bytes_eq-Decides name key).0 e))
    one false e = e

-- an object of a new name stands behind the others
pub inserted_last : (es : List Entry) (x : ObjectFact) → AreNamed es → All (λ y. y.name ≢ x.name) (objects_of es) → insert_entry bytes_eq es x.name x ≡ es ++ (x.name, x) ∷ []
inserted_last [] x named fresh = refl
inserted_last (e ∷ es) x named fresh =
    let at = All-head (λ e. e.0 ≡ e.1.name) e es named in
    let ne = All-head (λ y. y.name ≢ x.name) e.1 (objects_of es) fresh in
    rw (other_name x.name e.0 (λ s. ne (sym (s ∙ at))))
    (ap (λ l. e ∷ l) (inserted_last es x (All-tail (λ e. e.0 ≡ e.1.name) e es named) (All-tail (λ y. y.name ≢ x.name) e.1 (objects_of es) fresh)))

pub objects_push : (es : List Entry) (x : ObjectFact) → objects_of (es ++ (x.name, x) ∷ []) ≡ objects_of es ++ x ∷ []
objects_push es x = map-append (λ (e : Entry). e.1) es ((x.name, x) ∷ [])

pub listed_push : (es : List Entry) (x : ObjectFact) → AreListed es → All (λ y. y.object.0 < x.object.0) (objects_of es) → AreListed (es ++ (x.name, x) ∷ [])
listed_push es x h last = record {
  named = All-push (λ e. e.0 ≡ e.1.name) es (x.name, x) h.named refl;
  ascends = rw (objects_push es x) (ascends_push object_key number never (objects_of es) x
      (λ i d l. let less : (get_or (objects_of es) i d).object.0 < x.object.0 = last i d l in omega (arith, less)) h.ascends);
}

pub name_found : (name : List ℕ) (es : List Entry) (r : Option ObjectFact) → AreNamed es → r ≡ lookup (bytes_eq name) es → IfSome r (λ x. Contains (objects_of es) x × (x.name ≡ name))
name_found name [] None named e = tt
name_found name [] (Some x) named e = absurd cc
name_found name (a ∷ es) r named e = one (bytes_eq name a.0) refl r (λ q f. name_found name es q (All-tail (λ e. e.0 ≡ e.1.name) a es named) f) e
  where
    more : (r : Option ObjectFact) → IfSome r (λ x. Contains (objects_of es) x × (x.name ≡ name)) → IfSome r (λ x. Contains (objects_of (a ∷ es)) x × (x.name ≡ name))
    more None h = tt
    more (Some x) h = (there a.1 x (objects_of es) h.0, h.1)

    one : (b : Bool) → bytes_eq name a.0 ≡ b → (r : Option ObjectFact) → ((q : Option ObjectFact) → q ≡ lookup (bytes_eq name) es → IfSome q (λ x. Contains (objects_of es) x × (x.name ≡ name))) → r ≡ cond b (Some a.1) (lookup (bytes_eq name) es) → IfSome r (λ x. Contains (objects_of (a ∷ es)) x × (x.name ≡ name))
    one true t None inner e = absurd cc
    one true t (Some x) inner e =
        let same : x ≡ a.1 = cc in
        let is : a.1.name ≡ name = sym ((bytes_eq-Decides name a.0).0 t ∙ All-head (λ e. e.0 ≡ e.1.name) a es named) in
        rw same (here a.1 (objects_of es), is)
    one false t r inner e = more r (inner r e)

pub name_absent : (name : List ℕ) (es : List Entry) (r : Option ObjectFact) → AreNamed es → r ≡ lookup (bytes_eq name) es → IfNone r (All (λ x. x.name ≢ name) (objects_of es))
name_absent name [] (Some x) named e = tt
name_absent name [] None named e = All-nil (λ (x : ObjectFact). x.name ≢ name)
name_absent name (a ∷ es) r named e = one (bytes_eq name a.0) refl r (λ q f. name_absent name es q (All-tail (λ e. e.0 ≡ e.1.name) a es named) f) e
  where
    more : bytes_eq name a.0 ≡ false → (r : Option ObjectFact) → IfNone r (All (λ x. x.name ≢ name) (objects_of es)) → IfNone r (All (λ x. x.name ≢ name) (objects_of (a ∷ es)))
    more t None h = All-cons (λ (x : ObjectFact). x.name ≢ name) a.1 (objects_of es)
        (λ s. true≢false (sym ((bytes_eq-Decides name a.0).1 (sym (All-head (λ e. e.0 ≡ e.1.name) a es named ∙ s))) ∙ t)) h
    more t (Some x) h = tt

    one : (b : Bool) → bytes_eq name a.0 ≡ b → (r : Option ObjectFact) → ((q : Option ObjectFact) → q ≡ lookup (bytes_eq name) es → IfNone q (All (λ x. x.name ≢ name) (objects_of es))) → r ≡ cond b (Some a.1) (lookup (bytes_eq name) es) → IfNone r (All (λ x. x.name ≢ name) (objects_of (a ∷ es)))
    one true t None inner e = absurd cc
    one true t (Some x) inner e = tt
    one false t r inner e = more t r (inner r e)

names_are : (es : List Entry) → AreNamed es → map (λ (x : ObjectFact). x.name) (objects_of es) ≡ keys_of es
names_are [] h = refl
names_are (e ∷ es) h = ap (λ l. e.1.name ∷ l) (names_are es (All-tail (λ e. e.0 ≡ e.1.name) e es h)) ∙ ap (λ k. k ∷ keys_of es) (sym (All-head (λ e. e.0 ≡ e.1.name) e es h))

name_at : (xs : List ObjectFact) (i : ℕ) (d : ObjectFact) → get_or (map (λ (x : ObjectFact). x.name) xs) i d.name ≡ (get_or xs i d).name
name_at [] i d = refl
name_at (x ∷ xs) zero d = refl
name_at (x ∷ xs) (suc i) d = name_at xs i d

length_names : (xs : List ObjectFact) → length (map (λ (x : ObjectFact). x.name) xs) ≡ length xs
length_names [] = refl
length_names (x ∷ xs) = ap suc (length_names xs)

pub names_distinct : (es : List Entry) → AreNamed es → IsDistinct bytes_eq (keys_of es) → AreNamesDistinct (objects_of es)
names_distinct es named h i j d l m e =
    let pairs : AllPairs (λ x y. x ≢ y) (map (λ (x : ObjectFact). x.name) (objects_of es)) = rw (names_are es named) (AllPairs-from_IsDistinct bytes_eq-Decides (keys_of es) h) in
    pairs i j d.name l (rw (length_names (objects_of es)) m) (rw (name_at (objects_of es) i d, name_at (objects_of es) j d) e)

-- ---- ids

abbrev pub has_id : ℕ → ObjectFact → Bool
has_id id x = x.object.0 == id

-- one object has an id
pub one_id : (xs : List ObjectFact) (x y : ObjectFact) → Ascends object_key xs → Contains xs x → Contains xs y → x.object.0 ≡ y.object.0 → x ≡ y
one_id [] x y h c d e = absurd (nowhere x c)
one_id (z ∷ xs) x y h c d e = elim (either z x xs c) [
  | inl s ↦ elim (either z y xs d) [
    | inl t ↦ s ∙ sym t
    | inr b ↦ let less = All-contains (λ f. object_key z < object_key f) xs y (ascends-head object_key z xs h) b in
        let same : z.object.0 ≡ y.object.0 = ap (λ (f : ObjectFact). f.object.0) (sym s) ∙ e in absurd (omega (arith, less, same))
  ]
  | inr a ↦ elim (either z y xs d) [
    | inl t ↦ let less = All-contains (λ f. object_key z < object_key f) xs x (ascends-head object_key z xs h) a in
        let same : x.object.0 ≡ z.object.0 = e ∙ ap (λ (f : ObjectFact). f.object.0) t in absurd (omega (arith, less, same))
    | inr b ↦ one_id xs x y (ascends-tail object_key z xs h) a b e
  ]
]

pub filter_none : (id : ℕ) (xs : List ObjectFact) → All (λ x. x.object.0 ≢ id) xs → filter (λ x. not (has_id id x)) xs ≡ xs
filter_none id [] h = refl
filter_none id (x ∷ xs) h = rw (ne_eqb x.object.0 id (All-head (λ x. x.object.0 ≢ id) x xs h)) (ap (λ l. x ∷ l) (filter_none id xs (All-tail (λ x. x.object.0 ≢ id) x xs h)))

-- the object at a place is taken out
pub removed_at : (id : ℕ) (es : List Entry) (i : ℕ) → Ascends object_key (objects_of es) → i < length es → ((d : ObjectFact) → (get_or (objects_of es) i d).object.0 ≡ id)
    → objects_of (remove es i) ≡ filter (λ x. not (has_id id x)) (objects_of es)
removed_at id [] i h l is = absurd (omega (arith, l))
removed_at id (e ∷ es) zero h l is =
    let first : e.1.object.0 ≡ id = is e.1 in
    rw (eq-eqb e.1.object.0 id first) (sym (filter_none id (objects_of es) (λ k d m same.
    let less : object_key e.1 < object_key (get_or (objects_of es) k d) = ascends-head object_key e.1 (objects_of es) h k d m in
    omega (arith, less, first, same))))
removed_at id (e ∷ es) (suc i) h l is =
    let within : i < length (objects_of es) = length_objects es i (omega (arith, l)) in
    let less : object_key e.1 < object_key (get_or (objects_of es) i e.1) = ascends-head object_key e.1 (objects_of es) h i e.1 within in
    let at : (get_or (objects_of es) i e.1).object.0 ≡ id = is e.1 in
    rw (ne_eqb e.1.object.0 id (λ same. omega (arith, less, at, same))) (ap (λ l. e.1 ∷ l) (removed_at id es i (ascends-tail object_key e.1 (objects_of es) h) (omega (arith, l)) is))
  where
    length_objects : (es : List Entry) (i : ℕ) → i < length es → i < length (objects_of es)
    length_objects [] i l = l
    length_objects (e ∷ es) zero l = omega arith
    length_objects (e ∷ es) (suc i) l = let m = length_objects es i (omega (arith, l)) in omega (arith, m)

-- names stay with what is left
pub named_removed : (es : List Entry) (i : ℕ) → AreNamed es → AreNamed (remove es i)
named_removed [] zero h = All-nil (λ (e : Entry). e.0 ≡ e.1.name)
named_removed [] (suc i) h = All-nil (λ (e : Entry). e.0 ≡ e.1.name)
named_removed (e ∷ es) zero h = All-tail (λ e. e.0 ≡ e.1.name) e es h
named_removed (e ∷ es) (suc i) h = All-cons (λ (e : Entry). e.0 ≡ e.1.name) e (remove es i) (All-head (λ e. e.0 ≡ e.1.name) e es h) (named_removed es i (All-tail (λ e. e.0 ≡ e.1.name) e es h))

-- ---- another medium

pub named_set : (es : List Entry) (i : ℕ) (x w : ObjectFact) → AreNamed es → slice_get (objects_of es) i ≡ Some x → w.name ≡ x.name → AreNamed (set_value_at es i w)
named_set [] i x w h e n = All-nil (λ (e : Entry). e.0 ≡ e.1.name)
named_set (a ∷ es) zero x w h e n =
    let same : a.1 ≡ x = cc in
    All-cons (λ (e : Entry). e.0 ≡ e.1.name) (a.0, w) es (All-head (λ e. e.0 ≡ e.1.name) a es h ∙ ap (λ (f : ObjectFact). f.name) same ∙ sym n) (All-tail (λ e. e.0 ≡ e.1.name) a es h)
named_set (a ∷ es) (suc i) x w h e n =
    All-cons (λ (e : Entry). e.0 ≡ e.1.name) a (set_value_at es i w) (All-head (λ e. e.0 ≡ e.1.name) a es h) (named_set es i x w (All-tail (λ e. e.0 ≡ e.1.name) a es h) e n)

abbrev pub moved : ObjectFact → MediumId → Seq → ObjectFact
moved x medium seq = record { object = x.object; kind = x.kind; sectors = x.sectors; medium = medium; name = x.name; seq = seq }

pub found_at : (xs : List ObjectFact) (i : ℕ) (x : ObjectFact) → slice_get xs i ≡ Some x → Contains xs x
found_at [] i x e = absurd cc
found_at (y ∷ xs) zero x e = let same : y ≡ x = cc in rw (← same) (here y xs)
found_at (y ∷ xs) (suc i) x e = there y x xs (found_at xs i x e)

map_others : (id : ℕ) (medium : MediumId) (seq : Seq) (xs : List ObjectFact) → All (λ x. x.object.0 ≢ id) xs → map (with_medium id medium seq) xs ≡ xs
map_others id medium seq [] h = refl
map_others id medium seq (x ∷ xs) h = rw (ne_eqb x.object.0 id (All-head (λ x. x.object.0 ≢ id) x xs h)) (ap (λ l. x ∷ l) (map_others id medium seq xs (All-tail (λ x. x.object.0 ≢ id) x xs h)))

pub set_objects : (es : List Entry) (i : ℕ) (x : ObjectFact) (medium : MediumId) (seq : Seq) → Ascends object_key (objects_of es) → slice_get (objects_of es) i ≡ Some x
    → objects_of (set_value_at es i (moved x medium seq)) ≡ map (with_medium x.object.0 medium seq) (objects_of es)
set_objects [] i x medium seq h e = absurd cc
set_objects (a ∷ es) zero x medium seq h e =
    let same : a.1 ≡ x = cc in
    let others : map (with_medium x.object.0 medium seq) (objects_of es) ≡ objects_of es = map_others x.object.0 medium seq (objects_of es) (λ k d m s.
    let less : object_key a.1 < object_key (get_or (objects_of es) k d) = ascends-head object_key a.1 (objects_of es) h k d m in
    let is : a.1.object.0 ≡ x.object.0 = ap (λ (f : ObjectFact). f.object.0) same in omega (arith, less, is, s)) in
    rw (same, eq-eqb x.object.0 x.object.0 refl, others) refl
set_objects (a ∷ es) (suc i) x medium seq h e =
    let less = All-contains (λ f. object_key a.1 < object_key f) (objects_of es) x (ascends-head object_key a.1 (objects_of es) h) (found_at (objects_of es) i x e) in
    rw (ne_eqb a.1.object.0 x.object.0 (λ s. omega (arith, less, s))) (ap (λ l. a.1 ∷ l) (set_objects es i x medium seq (ascends-tail object_key a.1 (objects_of es) h) e))

-- ---- what the facts say

-- an object's key has its id
pub key_id : (x : ObjectFact) → id_of (object_key x) ≡ x.object.0
key_id x = omega arith

module _ (ps : List (List ObjectFact)) (us new : List ObjectFact) (x : ObjectFact) (taken : (f : ObjectFact) → Contains new f ↔ (Contains us f ⊎ Contains (x ∷ []) f))
    (newer_than : All (λ f. f.seq.0 < x.seq.0) (facts_of ps ++ us)) (distinct : AreDistinct number (facts_of ps ++ us)) where
  -- a new object
  pub shown_push : (elided : ℕ → Bool) (shown : List ObjectFact) → All (λ y. y.object.0 < x.object.0) shown → elided x.object.0 ≡ false
      → IsShown object_key number never (facts_of ps ++ us) elided shown → IsShown object_key number never (facts_of ps ++ new) elided (shown ++ x ∷ [])
  shown_push elided shown last left old =
      shown_added object_key number never (facts_of ps ++ us) (facts_of ps ++ new) x (taken_of ps us new x taken) newer_than distinct elided shown
      (λ i d l. let less : (get_or shown i d).object.0 < x.object.0 = last i d l in omega (arith, less)) (ap elided (key_id x) ∙ left) refl old

  -- an object with another medium
  pub shown_moved : (elided : ℕ → Bool) (shown : List ObjectFact) (was : ObjectFact) (medium : MediumId) (seq : Seq) → x ≡ moved was medium seq → Contains shown was
      → IsShown object_key number never (facts_of ps ++ us) elided shown → IsShown object_key number never (facts_of ps ++ new) elided (map (with_medium was.object.0 medium seq) shown)
  shown_moved elided shown was medium seq is have old =
      let same : was.object.0 ≡ x.object.0 = ap (λ (f : ObjectFact). f.object.0) (sym is) in
      subst (λ l. IsShown object_key number never (facts_of ps ++ new) elided l)
      (map_same shown (λ f c. one f (f.object.0 == was.object.0) refl (λ e. one_id shown f was old.ascends c have e)))
      (shown_replaced object_key number never (facts_of ps ++ us) (facts_of ps ++ new) x (taken_of ps us new x taken) newer_than distinct elided shown was have (ap (λ n. key_of n 0) same) refl old)
    where
      map_same : (xs : List ObjectFact) → ((f : ObjectFact) → Contains xs f → put object_key x f ≡ with_medium was.object.0 medium seq f) → map (put object_key x) xs ≡ map (with_medium was.object.0 medium seq) xs
      map_same [] h = refl
      map_same (f ∷ xs) h = let rest = map_same xs (λ g c. h g (there f g xs c)) in rw (h f (here f xs), rest) refl

      one : (f : ObjectFact) (b : Bool) → (f.object.0 == was.object.0) ≡ b → (f.object.0 ≡ was.object.0 → f ≡ was) → put object_key x f ≡ with_medium was.object.0 medium seq f
      one f true e only = grind (arith, nat_tests, eqb-true, put_it, object_key, key_of)
      one f false e only = grind (arith, nat_tests, eqb-false, put_other, object_key)

pub shown_removed : (facts : List ObjectFact) (id : ℕ) (elided wider : ℕ → Bool) (shown : List ObjectFact) → ((i : ℕ) → IsTrue (wider i) ↔ (IsTrue (elided i) ⊎ (i ≡ id)))
    → IsShown object_key number never facts elided shown → IsShown object_key number never facts wider (filter (λ x. not (has_id id x)) shown)
shown_removed facts id elided wider shown more old =
    shown_elided object_key number never facts elided wider shown (λ x. not (has_id id x)) (λ i e. (more i).1 (inl e)) (λ f c. ap not (one f (wider f.object.0) refl (old.said f c))) old
  where
    one : (f : ObjectFact) (w : Bool) → wider f.object.0 ≡ w → says object_key number never facts elided (object_key f) ≡ Some f → has_id id f ≡ wider (id_of (object_key f))
    one f true e s = grind (arith, nat_tests, more, true, false, key_id, said_whole, object_key, number, never, eq-eqb)
    one f false e s = rw (key_id f, e) (ne_eqb f.object.0 id (λ same. true≢false (sym ((more f.object.0).1 (inr same)) ∙ e)))

-- the number of objects
pub length_objects : (es : List Entry) → length (objects_of es) ≡ length es
length_objects [] = refl
length_objects (e ∷ es) = ap suc (length_objects es)

pub listed_set : (es : List Entry) (i : ℕ) (x : ObjectFact) (medium : MediumId) (seq : Seq) → AreListed es → slice_get (objects_of es) i ≡ Some x → AreListed (set_value_at es i (moved x medium seq))
listed_set es i x medium seq h e = record {
  named = named_set es i x (moved x medium seq) h.named e refl;
  ascends = rw (set_objects es i x medium seq h.ascends e) (ascends_map object_key number never (with_medium x.object.0 medium seq) (λ f. one f (f.object.0 == x.object.0)) (objects_of es) h.ascends);
}
  where
    one : (f : ObjectFact) (b : Bool) → object_key (if b then moved f medium seq else f) ≡ object_key f
    one f true = refl
    one f false = refl

pub listed_removed : (id : ℕ) (es : List Entry) (i : ℕ) → AreListed es → i < length es → ((d : ObjectFact) → (get_or (objects_of es) i d).object.0 ≡ id) → AreListed (remove es i)
listed_removed id es i h l is = record {
  named = named_removed es i h.named;
  ascends = rw (removed_at id es i h.ascends l is) (ascends_filter object_key (λ x. not (has_id id x)) (objects_of es) h.ascends);
}

-- an object at a place, by its id
pub got_at : (xs : List ObjectFact) (i : ℕ) (x : ObjectFact) (id : ℕ) → slice_get xs i ≡ Some x → i < length xs → ((d : ObjectFact) → (get_or xs i d).object.0 ≡ id) → x.object.0 ≡ id
got_at [] i x id e l is = absurd cc
got_at (y ∷ xs) zero x id e l is = let same : y ≡ x = cc in ap (λ (f : ObjectFact). f.object.0) (sym same) ∙ is y
got_at (y ∷ xs) (suc i) x id e l is = got_at xs i x id e (omega (arith, l)) is

-- the newer fact of an object
pub with_moved : (id : ℕ) (was x : ObjectFact) (medium : MediumId) (seq : Seq) → was ≡ x → x.object.0 ≡ id → moved was medium seq ≡ with_medium id medium seq x
with_moved id was x medium seq same is = rw (same, eq-eqb x.object.0 id is) refl

-- ---- the place of an id

abbrev pub is_below : ℕ → Entry → Bool
is_below id e = nat_lt e.1.object.0 id

entry_object : (es : List Entry) (k : ℕ) (e : Entry) → get_or (objects_of es) k e.1 ≡ (get_or es k e).1
entry_object [] k e = refl
entry_object (a ∷ es) zero e = refl
entry_object (a ∷ es) (suc k) e = entry_object es k e

-- ids rise, so the entries of lower ids come first
pub parted : (id : ℕ) (es : List Entry) → Ascends object_key (objects_of es) → IsPartitionedBy (is_below id) es
parted id es h i j d low within holds = elim (cases_lt i j) [
  | inl under ↦
      let less = h i j d.1 under (rw (length_objects es) within) in
      let left = ap (λ (x : ObjectFact). x.object.0) (entry_object es i d) in
      let right = ap (λ (x : ObjectFact). x.object.0) (entry_object es j d) in
      let below = ltb-true _ _ holds in
      lt-ltb (get_or es i d).1.object.0 id (omega (arith, less, left, right, below))
  | inr over ↦ let is : i ≡ j = omega (arith, low, over) in rw is holds
]

entry_at : (es : List Entry) (i : ℕ) (e d : Entry) → Some e ≡ slice_get es i → get_or es i d ≡ e
entry_at [] i e d h = absurd cc
entry_at (a ∷ es) zero e d h = let same : e ≡ a = cc in sym same
entry_at (a ∷ es) (suc i) e d h = entry_at es i e d h

entry_past : (es : List Entry) (i : ℕ) → (let n : Option Entry = None in n) ≡ slice_get es i → length es ≤ i
entry_past [] i h = omega arith
entry_past (a ∷ es) zero h = absurd cc
entry_past (a ∷ es) (suc i) h = let l = entry_past es i h in omega (arith, l)

-- none has the id, where the first that isn't below hasn't
pub absent_at : (id : ℕ) (es : List Entry) (at : ℕ) (e : Entry) → Ascends object_key (objects_of es) → at ≤ length es
    → IsPartitionPoint (λ e. is_below id e ≡ true) (λ e. is_below id e ≡ false) es at → Some e ≡ slice_get es at → e.1.object.0 ≢ id → All (λ x. x.object.0 ≢ id) (objects_of es)
absent_at id es at e h within point is ne k d l same =
    let found = entry_at es at e (d.name, d) is in
    let here : (get_or es k (d.name, d)).1.object.0 ≡ id = ap (λ (x : ObjectFact). x.object.0) (sym (entry_object es k (d.name, d))) ∙ same in
    elim (cases_lt k at) [
      | inl under ↦ let below = ltb-true _ _ (point.0 k (d.name, d) (omega arith) under) in omega (arith, below, here)
      | inr over ↦ elim (cases_lt at k) [
        | inl under ↦
            let least = ltb-false _ _ (point.1 at (d.name, d) (omega arith) (omega (arith, under, l, length_objects es))) in
            let less = h at k d under l in
            let left = ap (λ (x : ObjectFact). x.object.0) (entry_object es at (d.name, d)) in
            omega (arith, least, less, left, same)
        | inr low ↦ grind (arith, nat_tests, get_or, here)
      ]
    ]

pub absent_past : (id : ℕ) (es : List Entry) (at : ℕ) → at ≤ length es
    → IsPartitionPoint (λ e. is_below id e ≡ true) (λ e. is_below id e ≡ false) es at → (let n : Option Entry = None in n) ≡ slice_get es at → All (λ x. x.object.0 ≢ id) (objects_of es)
absent_past id es at within point is k d l same =
    let here : (get_or es k (d.name, d)).1.object.0 ≡ id = ap (λ (x : ObjectFact). x.object.0) (sym (entry_object es k (d.name, d))) ∙ same in
    let past = entry_past es at is in
    let below = ltb-true _ _ (point.0 k (d.name, d) (omega arith) (omega (arith, past, l, length_objects es))) in
    omega (arith, below, here)

-- ---- the objects of a list

abbrev pub with_name : ObjectFact → Entry
with_name x = (x.name, x)

pub named_map : (xs : List ObjectFact) → objects_of (map with_name xs) ≡ xs
named_map [] = refl
named_map (x ∷ xs) = ap (λ l. x ∷ l) (named_map xs)

named_each : (xs : List ObjectFact) → AreNamed (map with_name xs)
named_each [] = All-nil (λ (e : Entry). e.0 ≡ e.1.name)
named_each (x ∷ xs) = All-cons (λ (e : Entry). e.0 ≡ e.1.name) (with_name x) (map with_name xs) refl (named_each xs)

pub listed_map : (xs : List ObjectFact) → Ascends object_key xs → AreListed (map with_name xs)
listed_map xs h = record { named = named_each xs; ascends = rw (named_map xs) h }

pub named_next : (xs : List ObjectFact) (i : ℕ) (x : ObjectFact) (entries es : List Entry) → AreNamesDistinct xs → i < length xs → x ≡ get_or xs i x → es ≡ map with_name (take i xs)
    → entries ≡ insert_entry bytes_eq es x.name x → entries ≡ map with_name (take (i + 1) xs)
named_next xs i x entries es distinct l is before after =
    let named : AreNamed es = rw before (named_each (take i xs)) in
    let objects : objects_of es ≡ take i xs = ap objects_of before ∙ named_map (take i xs) in
    let fresh : All (λ y. y.name ≢ x.name) (objects_of es) = rw objects (λ k d m same.
    let low : k < i = omega (arith, m, length-take i xs) in
    let last : get_or xs i d ≡ x = get_or_default xs i d x l ∙ sym is in
    distinct k i d low l (ap (λ (f : ObjectFact). f.name) (sym (get_or-take i xs k d low)) ∙ same ∙ ap (λ (f : ObjectFact). f.name) (sym last))) in
    let more : take (i + 1) xs ≡ take i xs ++ x ∷ [] = take_more xs i x l ∙ ap (λ y. take i xs ++ y ∷ []) (sym is) in
    after ∙ inserted_last es x named fresh ∙ ap (λ l. l ++ with_name x ∷ []) before ∙ sym (map-append with_name (take i xs) (x ∷ [])) ∙ ap (map with_name) (sym more)

-- ---- what a range of all keys finds

pub all_shown : (facts found : List ObjectFact) (elided : ℕ → Bool) → Ascends object_key found
    → ((f : ObjectFact) → Contains found f ↔ ((0 ≤ object_key f) × (object_key f ≤ 2 ^ 128 - 1) × (says object_key number never facts elided (object_key f) ≡ Some f)))
    → IsShown object_key number never facts elided found
all_shown facts found elided ascends is = grind (arith, nat_tests)

pub shown_names : (facts found : List ObjectFact) (elided : ℕ → Bool) → IsShown object_key number never facts elided found
    → ((x y : ObjectFact) → says object_key number never facts elided (object_key x) ≡ Some x → says object_key number never facts elided (object_key y) ≡ Some y → x.name ≡ y.name → x ≡ y)
    → AreNamesDistinct found
shown_names facts found elided h alike i j d low l same =
    let x = get_or found i d in
    let y = get_or found j d in
    let is = alike x y (h.said x (Contains-get_or found i d (omega (arith, low, l)))) (h.said y (Contains-get_or found j d l)) same in
    let less = h.ascends i j d low l in
    let keys : object_key x ≡ object_key y = ap object_key is in
    omega (arith, less, keys)

-- the visible objects are those of the ids below the next one
pub by_ids : (facts : List ObjectFact) (elided : ℕ → Bool) (next : ℕ) (shown : List ObjectFact) → next ≤ 2 ^ 64 → All (λ f. f.object.0 < next) facts
    → IsShown object_key number never facts elided shown → shown ≡ filter_map (λ id. says object_key number never facts elided (key_of id 0)) (range_with_len 0 next)
by_ids facts elided next shown small below h = listed_by_id (λ (x : ObjectFact). x.object.0) (λ id. says object_key number never facts elided (key_of id 0)) next 0 shown (record {
  ascends = λ i j d low l. let less = h.ascends i j d low l in omega (arith, less);
  each = λ x c. let s = h.said x c in let low : x.object.0 < next = All-contains (λ f. f.object.0 < next) facts x below (said_found object_key number never facts elided (object_key x) x s).0 in (omega arith, omega (arith, low), s);
  all = grind (arith, nat_tests, said_found, object_key, number, never, key_of, says);
})
