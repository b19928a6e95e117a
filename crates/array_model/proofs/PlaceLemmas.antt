-- The place of a name, and what stands there.
use Rattle.array_model.proofs.Prelude.{◌≡◌, ℕ, zero, suc, ◌+◌, ◌<◌, ◌≤◌, Bool, true, false, ◌≢◌, cond, not, ltb, List, [], ◌∷◌, ◌++◌, length, map, Option, Some, None, refl, sym, ap, subst, ◌∙◌, arith, IfSome, IfNone, position, slice_get, bytes_eq, is_some, ltb-false, lt-ltb, le-ltb, Entry, Array, entry, has, sectors_of, is_snapshot, with_sectors, span, with_span, passes, first_cause, overwrite_causes, read_causes, refusal, without, Held, entry_of, array_of, IsPlace, IsOf, sectors_at, snapshot_at, with_sectors_at}
use Rattle.std.specs.List.{position_or_len}
use borrow.Author.Tests.{ltb-true}
use Rattle.std.proofs.lemmas.List.Sums.{prefix_len-le-length}
use Rattle.pur_base.specs.declared.request.Request.TheVariants as request
use Rattle.pur_base.specs.declared.reply.Refusal.{Refusal}
use Rattle.pur_base.specs.declared.reply.Refusal.TheVariants.{ReadOnly, Range}
use Rattle.indexmap.specs.IndexMap.{insert_entry, shift_remove_entry}
use Rattle.indexmap.specs.Layout.{set_value_at}
use Rattle.array_model.specs.declared.plain.Object.{Object}

some-at : (b : Bool) (pos at : ℕ) → Some at ≡ cond b (Some pos) None → (b ≡ true) × (at ≡ pos)
some-at true pos at e = (refl, cc)
some-at false pos at e = absurd cc

none-at : (b : Bool) (pos : ℕ) → (let n : Option ℕ = None in n) ≡ cond b (Some pos) None → b ≡ false
none-at true pos e = absurd cc
none-at false pos e = refl

first-here : (b : Bool) (n : ℕ) → 0 ≡ cond (not b) (1 + n) 0 → b ≡ true
first-here true n e = refl
first-here false n e = absurd (omega (arith, e))

first-later : (b : Bool) (n i : ℕ) → suc i ≡ cond (not b) (1 + n) 0 → (b ≡ false) × (i ≡ n)
first-later true n i e = absurd (omega (arith, e))
first-later false n i e = (refl, omega (arith, e))

abbrev keys : List (List ℕ × Object) → List (List ℕ)
keys es = map (λ (e : List ℕ × Object). e.0) es

place-from : (name : List ℕ) (es : List (List ℕ × Object)) (i : ℕ) → i ≡ position_or_len (bytes_eq name) (keys es) → i < length (keys es) → (i < length (array_of es)) × IsPlace name (array_of es) i
place-from name [] i e lt = absurd (omega (arith, lt))
place-from name (o ∷ es) zero e lt = (omega arith, first-here (bytes_eq name o.0) (position_or_len (bytes_eq name) (keys es)) e)
place-from name (o ∷ es) (suc i) e lt =
    let s = first-later (bytes_eq name o.0) (position_or_len (bytes_eq name) (keys es)) i e in
    let r = place-from name es i s.1 (omega (arith, lt)) in
    (omega (arith, r.0), (s.0, r.1))

none-from : (name : List ℕ) (es : List (List ℕ × Object)) → position_or_len (bytes_eq name) (keys es) ≡ length (keys es) → entry (array_of es) name ≡ None
none-from name [] e = refl
none-from name (o ∷ es) e =
    let s = first-later (bytes_eq name o.0) (position_or_len (bytes_eq name) (keys es)) (length (keys es)) (sym e) in
    rw s.0 (none-from name es (sym s.1))

pub place-some : (name : List ℕ) (es : List (List ℕ × Object)) (r : Option ℕ) → r ≡ position (bytes_eq name) (keys es)
    → IfSome r (λ at. (at < length (array_of es)) × IsPlace name (array_of es) at)
place-some name es (Some at) e =
    let s = some-at (ltb (position_or_len (bytes_eq name) (keys es)) (length (keys es))) (position_or_len (bytes_eq name) (keys es)) at e in
    let lt : at < length (keys es) = rw s.1 (ltb-true _ _ s.0) in
    place-from name es at s.1 lt
place-some name es None e = tt

pub place-none : (name : List ℕ) (es : List (List ℕ × Object)) (r : Option ℕ) → r ≡ position (bytes_eq name) (keys es) → IfNone r (entry (array_of es) name ≡ None)
place-none name es (Some at) e = tt
place-none name es None e =
    let n = none-at (ltb (position_or_len (bytes_eq name) (keys es)) (length (keys es))) (position_or_len (bytes_eq name) (keys es)) e in
    none-from name es (omega (arith, ltb-false _ _ n, prefix_len-le-length (λ k. not (bytes_eq name k)) (keys es)))

-- what stands at a place
pub sectors-at-some : (es : List (List ℕ × Object)) (i : ℕ) (e : List ℕ × Object) → Some e ≡ slice_get es i → sectors_at (array_of es) i ≡ e.1.sectors.items
sectors-at-some [] i e h = absurd cc
sectors-at-some (x ∷ es) zero e h = let f : e ≡ x = cc in ap (λ (p : List ℕ × Object). p.1.sectors.items) (sym f)
sectors-at-some (x ∷ es) (suc i) e h = sectors-at-some es i e h

pub sectors-at-none : (es : List (List ℕ × Object)) (i : ℕ) → (let n : Option (List ℕ × Object) = None in n) ≡ slice_get es i → sectors_at (array_of es) i ≡ []
sectors-at-none [] i h = refl
sectors-at-none (x ∷ es) zero h = absurd cc
sectors-at-none (x ∷ es) (suc i) h = sectors-at-none es i h

pub snapshot-at-some : (es : List (List ℕ × Object)) (i : ℕ) (e : List ℕ × Object) → Some e ≡ slice_get es i → snapshot_at (array_of es) i ≡ e.1.snapshot
snapshot-at-some [] i e h = absurd cc
snapshot-at-some (x ∷ es) zero e h = let f : e ≡ x = cc in ap (λ (p : List ℕ × Object). p.1.snapshot) (sym f)
snapshot-at-some (x ∷ es) (suc i) e h = snapshot-at-some es i e h

pub snapshot-at-none : (es : List (List ℕ × Object)) (i : ℕ) → (let n : Option (List ℕ × Object) = None in n) ≡ slice_get es i → snapshot_at (array_of es) i ≡ false
snapshot-at-none [] i h = refl
snapshot-at-none (x ∷ es) zero h = absurd cc
snapshot-at-none (x ∷ es) (suc i) h = snapshot-at-none es i h

-- ---- a write at a place

abbrev values : List (List ℕ × Object) → List Object
values es = map (λ (e : List ℕ × Object). e.1) es

pub value-sectors : (es : List (List ℕ × Object)) (i : ℕ) (o : Object) → slice_get (values es) i ≡ Some o → sectors_at (array_of es) i ≡ o.sectors.items
value-sectors [] i o h = absurd cc
value-sectors (x ∷ es) zero o h = let f : x.1 ≡ o = cc in ap (λ (p : Object). p.sectors.items) f
value-sectors (x ∷ es) (suc i) o h = value-sectors es i o h

pub given-at : (es : List (List ℕ × Object)) (i : ℕ) (o new : Object) → slice_get (values es) i ≡ Some o → new.snapshot ≡ o.snapshot → array_of (set_value_at es i new) ≡ with_sectors_at (array_of es) i new.sectors.items
given-at [] i o new h s = absurd cc
given-at (x ∷ es) zero o new h s =
    let f : x.1 ≡ o = cc in
    let kind : new.snapshot ≡ x.1.snapshot = s ∙ ap (λ (p : Object). p.snapshot) (sym f) in
    rw kind refl
given-at (x ∷ es) (suc i) o new h s = ap (λ (a : Array). entry_of x ∷ a) (given-at es i o new h s)

pub written-at : (es : List (List ℕ × Object)) (i : ℕ) (o new : Object) (lba : ℕ) (body : List (List ℕ)) → slice_get (values es) i ≡ Some o → new.snapshot ≡ o.snapshot → new.sectors.items ≡ with_span lba body o.sectors.items
    → array_of (set_value_at es i new) ≡ with_sectors_at (array_of es) i (with_span lba body (sectors_at (array_of es) i))
written-at es i o new lba body h s items =
    given-at es i o new h s ∙ ap (with_sectors_at (array_of es) i) (items ∙ ap (with_span lba body) (sym (value-sectors es i o h)))

-- ---- sectors of one object, while another is without its own

pub given-length : (a : Array) (i : ℕ) (s : List (List ℕ)) → length (with_sectors_at a i s) ≡ length a
given-length [] i s = refl
given-length (e ∷ a) zero s = refl
given-length (e ∷ a) (suc i) s = ap suc (given-length a i s)

pub others-sectors : (a : Array) (i j : ℕ) (s : List (List ℕ)) → i ≢ j → sectors_at (with_sectors_at a i s) j ≡ sectors_at a j
others-sectors [] i j s h = refl
others-sectors (e ∷ a) zero zero s h = absurd (h refl)
others-sectors (e ∷ a) zero (suc j) s h = refl
others-sectors (e ∷ a) (suc i) zero s h = refl
others-sectors (e ∷ a) (suc i) (suc j) s h = others-sectors a i j s (λ same. h (ap suc same))

same-sectors : (a : Array) (i : ℕ) (s : List (List ℕ)) → with_sectors_at (with_sectors_at a i s) i (sectors_at a i) ≡ a
same-sectors [] i s = refl
same-sectors (e ∷ a) zero s = refl
same-sectors (e ∷ a) (suc i) s = ap (λ (b : Array). e ∷ b) (same-sectors a i s)

given-back : (a : Array) (i j : ℕ) (s t : List (List ℕ)) → i ≢ j → with_sectors_at (with_sectors_at (with_sectors_at a i s) j t) i (sectors_at a i) ≡ with_sectors_at a j t
given-back [] i j s t h = refl
given-back (e ∷ a) zero zero s t h = absurd (h refl)
given-back (e ∷ a) zero (suc j) s t h = refl
given-back (e ∷ a) (suc i) zero s t h = ap (λ (b : Array). record e { sectors = t } ∷ b) (same-sectors a i s)
given-back (e ∷ a) (suc i) (suc j) s t h = ap (λ (b : Array). e ∷ b) (given-back a i j s t (λ same. h (ap suc same)))

-- a copy to another object: m while it is done, w before the sectors are given back
pub copied-past : (a m w : Array) (i j lba at count : ℕ) (none body : List (List ℕ)) → i ≢ j → m ≡ with_sectors_at a i none → body ≡ sectors_at a i
    → w ≡ with_sectors_at m j (with_span lba (span at count body) (sectors_at m j)) → with_sectors_at w i body ≡ with_sectors_at a j (with_span lba (span at count (sectors_at a i)) (sectors_at a j))
copied-past a m w i j lba at count none body h mid items end =
    rw (end, mid, items, others-sectors a i j none h) (given-back a i j none (with_span lba (span at count (sectors_at a i)) (sectors_at a j)) h)

-- ---- a name at its place

pub has-at : (name : List ℕ) (a : Array) (i : ℕ) → IsPlace name a i → has a name ≡ true
has-at name [] i h = absurd h
has-at name (e ∷ a) zero h = rw h refl
has-at name (e ∷ a) (suc i) h = rw h.0 (has-at name a i h.1)

pub snapshot-of : (name : List ℕ) (a : Array) (i : ℕ) → IsPlace name a i → is_snapshot a name ≡ snapshot_at a i
snapshot-of name [] i h = absurd h
snapshot-of name (e ∷ a) zero h = rw h refl
snapshot-of name (e ∷ a) (suc i) h = rw h.0 (snapshot-of name a i h.1)

pub sectors-of : (name : List ℕ) (a : Array) (i : ℕ) → IsPlace name a i → sectors_of a name ≡ sectors_at a i
sectors-of name [] i h = absurd h
sectors-of name (e ∷ a) zero h = rw h refl
sectors-of name (e ∷ a) (suc i) h = rw h.0 (sectors-of name a i h.1)

pub with-at : (name : List ℕ) (a : Array) (i : ℕ) (sectors : List (List ℕ)) → IsPlace name a i → with_sectors_at a i sectors ≡ with_sectors a name sectors
with-at name [] i sectors h = absurd h
with-at name (e ∷ a) zero sectors h = rw h refl
with-at name (e ∷ a) (suc i) sectors h = rw h.0 (ap (λ (b : Array). e ∷ b) (with-at name a i sectors h.1))

-- ---- refusals

pub snapshot-overwrite : (a : Array) (name : List ℕ) (lba count i : ℕ) → IsPlace name a i → snapshot_at a i ≡ true → first_cause (overwrite_causes a name lba count) ≡ Some ReadOnly
snapshot-overwrite a name lba count i h s = rw (has-at name a i h, snapshot-of name a i h, s) refl

passes-at : (a : Array) (name : List ℕ) (lba count i : ℕ) → IsPlace name a i → length (sectors_at a i) < lba + count → passes a name lba count ≡ true
passes-at a name lba count i h lt = rw (sectors-of name a i h) (lt-ltb (length (sectors_at a i)) (lba + count) lt)

fits-at : (a : Array) (name : List ℕ) (lba count i : ℕ) → IsPlace name a i → lba + count ≤ length (sectors_at a i) → passes a name lba count ≡ false
fits-at a name lba count i h le = rw (sectors-of name a i h) (le-ltb (length (sectors_at a i)) (lba + count) le)

pub range-read : (a : Array) (name : List ℕ) (lba count i : ℕ) → IsPlace name a i → length (sectors_at a i) < lba + count → first_cause (read_causes a name lba count) ≡ Some Range
range-read a name lba count i h lt = rw (has-at name a i h, passes-at a name lba count i h lt) refl

pub fine-read : (a : Array) (name : List ℕ) (lba count i : ℕ) → IsPlace name a i → lba + count ≤ length (sectors_at a i) → first_cause (read_causes a name lba count) ≡ None
fine-read a name lba count i h le = rw (has-at name a i h, fits-at a name lba count i h le) refl

pub range-overwrite : (a : Array) (name : List ℕ) (lba count i : ℕ) → IsPlace name a i → snapshot_at a i ≡ false → length (sectors_at a i) < lba + count → first_cause (overwrite_causes a name lba count) ≡ Some Range
range-overwrite a name lba count i h s lt = rw (has-at name a i h, snapshot-of name a i h, s, passes-at a name lba count i h lt) refl

pub fine-overwrite : (a : Array) (name : List ℕ) (lba count i : ℕ) → IsPlace name a i → snapshot_at a i ≡ false → lba + count ≤ length (sectors_at a i) → first_cause (overwrite_causes a name lba count) ≡ None
fine-overwrite a name lba count i h s le = rw (has-at name a i h, snapshot-of name a i h, s, fits-at a name lba count i h le) refl

-- ---- refusals of a copy, of what stands at i over what stands at j

module _ (a : Array) (n m : List ℕ) (lba to count i j : ℕ) (hn : IsPlace n a i) (hm : IsPlace m a j) where
  abbrev why : Option Refusal
  why = refusal a (request.Copy n lba m to count)

  pub snapshot-copy : snapshot_at a j ≡ true → why ≡ Some ReadOnly
  snapshot-copy s = rw (has-at n a i hn, has-at m a j hm, snapshot-of m a j hm, s) refl

  pub range-copy : snapshot_at a j ≡ false → length (sectors_at a i) < lba + count → why ≡ Some Range
  range-copy s lt = rw (has-at n a i hn, has-at m a j hm, snapshot-of m a j hm, s, passes-at a n lba count i hn lt) refl

  pub range-over : snapshot_at a j ≡ false → lba + count ≤ length (sectors_at a i) → length (sectors_at a j) < to + count → why ≡ Some Range
  range-over s le lt = rw (has-at n a i hn, has-at m a j hm, snapshot-of m a j hm, s, fits-at a n lba count i hn le, passes-at a m to count j hm lt) refl

  pub fine-copy : snapshot_at a j ≡ false → lba + count ≤ length (sectors_at a i) → to + count ≤ length (sectors_at a j) → why ≡ None
  fine-copy s le over = rw (has-at n a i hn, has-at m a j hm, snapshot-of m a j hm, s, fits-at a n lba count i hn le, fits-at a m to count j hm over) refl

pub place-is : (a : Array) (name : List ℕ) (lba count i : ℕ) (place : Held) → (i < length a) × IsPlace name a i → lba + count ≤ length (sectors_at a i) → place ≡ record { object = i; lba = lba; count = count } → IsOf a name lba count place
place-is a name lba count i place h le e = subst (λ (p : Held). IsOf a name lba count p) (sym e) (record { named = h.1; lba = refl; count = refl; held = record { object = h.0; sectors = le } })

-- ---- a new name

not-here : (b : Bool) (e : Entry) (o : Option Entry) → is_some (cond b (Some e) o) ≡ false → (b ≡ false) × (is_some o ≡ false)
not-here true e o h = absurd cc
not-here false e o h = (refl, h)

pub inserted : (es : List (List ℕ × Object)) (name : List ℕ) (o : Object) → has (array_of es) name ≡ false → array_of (insert_entry bytes_eq es name o) ≡ array_of es ++ entry_of (name, o) ∷ []
inserted [] name o h = refl
inserted (x ∷ es) name o h =
    let s = not-here (bytes_eq name x.0) (entry_of x) (entry (array_of es) name) h in
    rw s.0 (ap (λ (a : Array). entry_of x ∷ a) (inserted es name o s.1))

-- ---- a name that goes

without-first : (b : Bool) (x : List ℕ × Object) (es rest : List (List ℕ × Object)) (a : Array) → array_of rest ≡ a → array_of (cond b es (x ∷ rest)) ≡ cond b (array_of es) (entry_of x ∷ a)
without-first true x es rest a h = refl
without-first false x es rest a h = ap (λ (more : Array). entry_of x ∷ more) h

pub removed : (es : List (List ℕ × Object)) (name : List ℕ) → array_of (shift_remove_entry (bytes_eq name) es) ≡ without (array_of es) name
removed [] name = refl
removed (x ∷ es) name = without-first (bytes_eq name x.0) x es (shift_remove_entry (bytes_eq name) es) (without (array_of es) name) (removed es name)
