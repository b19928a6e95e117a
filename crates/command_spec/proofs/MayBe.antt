-- What each command adds is told by how its objects and ranges came to be; whatever was added so may be added.
use Rattle.command_spec.proofs.Prelude.{nat_tests, ◌≡◌, ◌≢◌, ◌⊎◌, ℕ, ◌+◌, ◌-◌, ◌<◌, ◌≤◌, true, List, [], ◌∷◌, length, sym, ap, ◌∙◌, arith, inl, inr, subst, Contains, any_number, objects, object, Volume, ObjectFact, MediumFact, AnyFact, IsFact, OwnsMedium, same_some, either, nowhere, facts, Memory, IsSound, of_each, pairs_of, of_objects, object_fits, Derived, IsGiven, WasVisible, IsVisible, AreNewNumbers, MayDerive}
use Rattle.array_spec.specs.Prelude.{is_name, OBJECTS, NextNumbers, AreNext}
use Rattle.pur_base.specs.declared.facts.AnyFact.TheVariants as any

-- ---- what sound memory says of a visible object

module _ (m : Memory) (s : IsSound m) where
  pub visible_below : (x : ObjectFact) → WasVisible m x → (x.object.0 < m.next.object) × (x.medium.0 < m.next.medium)
  visible_below x c = of_each (λ f. (f.object.0 < m.next.object) × (f.medium.0 < m.next.medium)) (facts m.tables).objects x s.ids.objects (object_fits m s x c).0

  pub one_id : (x y : ObjectFact) → WasVisible m x → WasVisible m y → x.object.0 ≡ y.object.0 → x ≡ y
  one_id x y c d e =
      let its = (of_objects (facts m.tables) m.next.object x c).0 in
      same_some (object (facts m.tables) x.object.0) its (ap (λ n. object (facts m.tables) n) e ∙ (of_objects (facts m.tables) m.next.object y d).0)

  pub one_name : (x y : ObjectFact) → WasVisible m x → WasVisible m y → x.name ≡ y.name → x ≡ y
  one_name x y c d e = elim (pairs_of (λ a b. a.name ≢ b.name) (objects (facts m.tables) m.next.object) x y s.objects.names c d) [
    | inl same ↦ same
    | inr either ↦ elim either [ inl ne ↦ absurd (ne e) | inr ne ↦ absurd (ne (sym e)) ]
  ]

  pub one_owner : (x y : ObjectFact) → WasVisible m x → WasVisible m y → x.kind ≡ Volume → x.medium.0 ≡ y.medium.0 → x ≡ y
  one_owner x y c d volume e = elim (pairs_of (λ a b. OwnsMedium a b × OwnsMedium b a) (objects (facts m.tables) m.next.object) x y s.objects.mediums c d) [
    | inl same ↦ same
    | inr either ↦ elim either [ inl p ↦ absurd (p.0 volume e) | inr p ↦ absurd (p.1 volume e) ]
  ]

-- ---- numbers in a row

-- each fact has the number behind the one before it
abbrev pub InRow : ℕ → List AnyFact → Type 0
InRow number [] = Unit {0}
InRow number (f ∷ fs) = (any_number f ≡ number) × InRow (number + 1) fs

pub row_within : (number : ℕ) (fs : List AnyFact) (f : AnyFact) → InRow number fs → Contains fs f → (number ≤ any_number f) × (any_number f < number + length fs)
row_within number [] f h c = absurd (nowhere f c)
row_within number (g ∷ fs) f h c = elim (either g f fs c) [
  | inl same ↦ (let its : any_number f ≡ number = ap any_number same ∙ h.0 in (omega (arith, its), omega (arith, its)))
  | inr rest ↦ (let w = row_within (number + 1) fs f h.1 rest in (omega (arith, w.0), omega (arith, w.1)))
]

pub row_once : (number : ℕ) (fs : List AnyFact) (f g : AnyFact) → InRow number fs → Contains fs f → Contains fs g → any_number f ≡ any_number g → f ≡ g
row_once number [] f g h c d e = absurd (nowhere f c)
row_once number (k ∷ fs) f g h c d e = elim (either k f fs c) [
  | inl first ↦ elim (either k g fs d) [
    | inl same ↦ first ∙ sym same
    | inr rest ↦ (let w = (row_within (number + 1) fs g h.1 rest).0 in (let its : any_number f ≡ number = ap any_number first ∙ h.0 in absurd (omega (arith, w, its, e))))
  ]
  | inr later ↦ elim (either k g fs d) [
    | inl first ↦ (let w = (row_within (number + 1) fs f h.1 later).0 in (let its : any_number g ≡ number = ap any_number first ∙ h.0 in absurd (omega (arith, w, its, e))))
    | inr rest ↦ row_once (number + 1) fs f g h.1 later rest e
  ]
]

-- ---- ranges one behind the other

-- each of them leads some sectors, and begins where the one before it ends or behind it
abbrev pub AreChained : ℕ → List MediumFact → Type 0
AreChained start [] = Unit {0}
AreChained start (r ∷ rs) = (start ≤ r.start) × (r.start < r.end) × AreChained r.end rs

pub chained_from : (start : ℕ) (rs : List MediumFact) (r : MediumFact) → AreChained start rs → Contains rs r → (start ≤ r.start) × (r.start < r.end)
chained_from start [] r h c = absurd (nowhere r c)
chained_from start (q ∷ rs) r h c = elim (either q r rs c) [
  | inl same ↦ subst (λ (z : MediumFact). (start ≤ z.start) × (z.start < z.end)) (sym same) (h.0, h.1)
  | inr rest ↦ (let w = chained_from q.end rs r h.2 rest in (let some = h.1 in (let first = h.0 in (omega (arith, w.0, some, first), w.1))))
]

pub chained_apart : (start : ℕ) (rs : List MediumFact) (r q : MediumFact) (sector : ℕ) → AreChained start rs → Contains rs r → Contains rs q
    → r.start ≤ sector → sector < r.end → q.start ≤ sector → sector < q.end → r ≡ q
chained_apart start [] r q sector h c d a b e f = absurd (nowhere r c)
chained_apart start (k ∷ rs) r q sector h c d a b e f = elim (either k r rs c) [
  | inl first ↦ elim (either k q rs d) [
    | inl same ↦ first ∙ sym same
    | inr rest ↦ (let w = (chained_from k.end rs q h.2 rest).0 in (let its : r.end ≡ k.end = ap (λ z. z.end) first in absurd (omega (arith, w, its, b, e))))
  ]
  | inr later ↦ elim (either k q rs d) [
    | inl first ↦ (let w = (chained_from k.end rs r h.2 later).0 in (let its : q.end ≡ k.end = ap (λ z. z.end) first in absurd (omega (arith, w, its, a, f))))
    | inr rest ↦ chained_apart k.end rs r q sector h.2 later rest a b e f
  ]
]

-- ---- how objects and ranges came to be

-- No volume keeps the medium that the object had: it is a snapshot, or moves.
abbrev pub IsLeft : Derived → ObjectFact → Type 0
IsLeft d v = v.kind ≡ Volume → (z : ObjectFact) × Contains d.objects z × (z.object.0 ≡ v.object.0)

-- a visible object that moves to a new medium
pub record Moves (m : Memory) (z : ObjectFact) : Type 0 where
  pub was : ObjectFact
  pub there : WasVisible m was
  pub id : z.object.0 ≡ was.object.0
  pub name : z.name ≡ was.name
  pub sectors : z.sectors ≡ was.sectors
  pub medium : m.next.medium ≤ z.medium.0

-- an object of the next id and a new name, as large as a visible one, on a new medium or, where it is a snapshot, on the one that was left
pub record Begins (m : Memory) (d : Derived) (z : ObjectFact) : Type 0 where
  pub was : ObjectFact
  pub there : WasVisible m was
  pub id : z.object.0 ≡ m.next.object
  pub given : m.next.object < d.next.object
  pub sectors : z.sectors ≡ was.sectors
  pub lawful : is_name z.name ≡ true
  pub free : (y : ObjectFact) → WasVisible m y → y.name ≢ z.name
  pub medium : (m.next.medium ≤ z.medium.0) ⊎ ((z.medium.0 ≡ was.medium.0) × (z.kind ≢ Volume) × IsLeft d was)

-- a range of the new medium of one of the objects, which leads to a medium that was left
pub record Leads (m : Memory) (d : Derived) (r : MediumFact) : Type 0 where
  pub owner : ObjectFact
  pub given : Contains d.objects owner
  pub own : r.medium.0 ≡ owner.medium.0
  pub new : m.next.medium ≤ r.medium.0
  pub some : r.start < r.end
  pub end : r.end ≤ owner.sectors
  pub target : ObjectFact
  pub there : WasVisible m target
  pub its : r.target.0 ≡ target.medium.0
  pub target_end : r.target_start + (r.end - r.start) ≤ target.sectors
  pub left : IsLeft d target

-- so many numbers were given, and no ids of segments
pub record AreBehind (was now : NextNumbers) (count : ℕ) : Type 0 where
  pub next : AreNext now
  pub segment : now.segment ≡ was.segment
  pub patch_segment : now.patch_segment ≡ was.patch_segment
  pub object : was.object ≤ now.object
  pub medium : was.medium ≤ now.medium
  pub sequence : was.sequence + count ≡ now.sequence

-- So did all that was added: their ids and mediums are apart, and their numbers stand in a row.
pub record AreMade (m : Memory) (d : Derived) : Type 0 where
  pub few : length (objects (facts m.tables) m.next.object) + d.next.object ≤ OBJECTS + m.next.object
  pub row : List AnyFact
  pub in_row : InRow m.next.sequence row
  pub behind : AreBehind m.next d.next (length row)
  pub whole_row : (f : AnyFact) → IsGiven d f → Contains row f
  pub object : (z : ObjectFact) → Contains d.objects z → (z.medium.0 < d.next.medium) × (Moves m z ⊎ Begins m d z)
  pub one_object : (x y : ObjectFact) → Contains d.objects x → Contains d.objects y → x.object.0 ≡ y.object.0 → x ≡ y
  pub one_medium : (x y : ObjectFact) → Contains d.objects x → Contains d.objects y → x.medium.0 ≡ y.medium.0 → x ≡ y
  pub range : (r : MediumFact) → Contains d.ranges r → Leads m d r
  pub apart : (r s : MediumFact) (sector : ℕ) → Contains d.ranges r → Contains d.ranges s → r.medium.0 ≡ s.medium.0
      → r.start ≤ sector → sector < r.end → s.start ≤ sector → sector < s.end → r ≡ s

-- ---- so they may be added

module _ (m : Memory) (d : Derived) (s : IsSound m) (made : AreMade m d) where
  numbers : (f : AnyFact) → IsGiven d f → (m.next.sequence ≤ any_number f) × (any_number f < d.next.sequence)
  numbers f g = grind (arith, nat_tests, row_within)

  sequence_rise : m.next.sequence ≤ d.next.sequence
  sequence_rise = let long = made.behind.sequence in omega (arith, long)

  id_below : (z : ObjectFact) → Contains d.objects z → z.object.0 < d.next.object
  id_below z c = elim (made.object z c).1 [
    | inl v ↦ (let low = (visible_below m s v.was v.there).0 in (let id = v.id in (let rise = made.behind.object in omega (arith, low, id, rise))))
    | inr v ↦ (let id = v.id in (let given = v.given in omega (arith, id, given)))
  ]

  new_numbers : AreNewNumbers m d
  new_numbers = record {
    next = made.behind.next;
    segment = made.behind.segment;
    patch_segment = made.behind.patch_segment;
    rise = (made.behind.object, made.behind.medium, sequence_rise);
    numbers = numbers;
    one_number = λ f g a b e. row_once m.next.sequence made.row f g made.in_row (made.whole_row f a) (made.whole_row g b) e;
    objects = λ z c. (id_below z c, (made.object z c).0);
    one_object = made.one_object;
    mediums = λ r c.
        let l = made.range r c in
        let below = (made.object l.owner l.given).0 in
        (l.new, omega (arith, below, l.own));
  }

  -- either way it is as large as a visible one, has a lawful name, and neither id is 0
  record IsLike (z : ObjectFact) : Type 0 where
    was : ObjectFact
    there : WasVisible m was
    sectors : z.sectors ≡ was.sectors
    id : 1 ≤ z.object.0
    name : is_name z.name ≡ true
    medium : 1 ≤ z.medium.0

  is_like : (z : ObjectFact) → Contains d.objects z → IsLike z
  is_like z c = elim (made.object z c).1 [
    | inl v ↦ (
        let fits = (object_fits m s v.was v.there).1.lawful in
        record {
          was = v.was;
          there = v.there;
          sectors = v.sectors;
          id = omega (arith, v.id, fits.id.0);
          name = ap is_name v.name ∙ fits.statement.3;
          medium = omega (arith, v.medium, s.next.medium.0);
        })
    | inr v ↦ (
        let fits = (object_fits m s v.was v.there).1.lawful in
        let first = s.next.object.0 in
        record {
          was = v.was;
          there = v.there;
          sectors = v.sectors;
          id = omega (arith, v.id, first);
          name = v.lawful;
          medium = elim v.medium [ inl new ↦ omega (arith, new, s.next.medium.0) | inr old ↦ (let same = old.0 in (let first = fits.statement.2 in omega (arith, same, first))) ];
        })
  ]

  object_lawful : (z : ObjectFact) → Contains d.objects z → IsFact (any.Object z)
  object_lawful z c =
      let like = is_like z c in
      let fits = (object_fits m s like.was like.there).1.lawful in
      let id = id_below z c in
      let medium = (made.object z c).0 in
      let number = numbers (any.Object z) c in
      record {
        lawful = grind (arith, nat_tests);
        fits = omega (arith, medium, made.behind.next.medium.1);
      }

  range_lawful : (r : MediumFact) → Contains d.ranges r → IsFact (any.Medium r)
  range_lawful r c =
      let l = made.range r c in
      let like = is_like l.owner l.given in
      let most = (object_fits m s like.was like.there).1.lawful.statement.1 in
      let target_most = (object_fits m s l.target l.there).1.lawful.statement.1 in
      let low = (visible_below m s l.target l.there).1 in
      let ids = new_numbers.mediums r c in
      let number = numbers (any.Medium r) c in
      let some = l.some in
      record {
        lawful = record {
          id = (omega (arith, ids.0, s.next.medium.0), omega (arith, ids.1, made.behind.next.medium.1));
          number = (omega (arith, number.0, s.next.sequence.0), omega (arith, number.1, made.behind.next.sequence.1));
          statement = inr (record {
            some = some;
            end = omega (arith, l.end, like.sectors, most);
            down = omega (arith, l.its, low, ids.0);
            target_end = omega (arith, l.target_end, target_most);
          });
        };
        fits = omega (arith, some, l.end, like.sectors, most);
      }

  lawful : (f : AnyFact) → IsGiven d f → IsFact f
  lawful (any.Object z) g = object_lawful z g
  lawful (any.Medium r) g = range_lawful r g
  lawful f g = absurd g

  -- ---- names

  -- one that is given has the name of a visible one only if it is that one, which moved
  has_name : (x y : ObjectFact) → Contains d.objects x → WasVisible m y → x.name ≡ y.name → x.object.0 ≡ y.object.0
  has_name x y c v e = elim (made.object x c).1 [
    | inl w ↦ w.id ∙ ap (λ z. z.object.0) (one_name m s w.was y w.there v (sym w.name ∙ e))
    | inr w ↦ absurd (w.free y v (sym e))
  ]

  given_names : (x y : ObjectFact) → Contains d.objects x → Contains d.objects y → x.name ≡ y.name → x ≡ y
  given_names x y c k e = elim (made.object x c).1 [
    | inl v ↦ made.one_object x y c k (v.id ∙ sym (has_name y v.was k v.there (sym e ∙ v.name)))
    | inr v ↦ elim (made.object y k).1 [
      | inl w ↦ made.one_object x y c k (has_name x w.was c w.there (e ∙ w.name) ∙ sym w.id)
      | inr w ↦ made.one_object x y c k (v.id ∙ sym w.id)
    ]
  ]

  names : (x y : ObjectFact) → IsVisible m d x → IsVisible m d y → x.name ≡ y.name → x ≡ y
  names x y (inl c) (inl k) e = given_names x y c k e
  names x y (inl c) (inr k) e = absurd (k.1 x c (has_name x y c k.0 e))
  names x y (inr c) (inl k) e = absurd (c.1 y k (has_name y x k c.0 (sym e)))
  names x y (inr c) (inr k) e = one_name m s x y c.0 k.0 e

  -- ---- mediums

  -- a volume that stays where it is doesn't have a medium that was left
  not_left : (x v : ObjectFact) → WasVisible m x → ((y : ObjectFact) → Contains d.objects y → y.object.0 ≢ x.object.0) → x.kind ≡ Volume
      → WasVisible m v → IsLeft d v → x.medium.0 ≢ v.medium.0
  not_left x v c stays volume k left e =
      let same : x ≡ v = one_owner m s x v c k volume e in
      let moved = left (ap (λ z. z.kind) (sym same) ∙ volume) in
      stays moved.0 moved.1 (moved.2 ∙ ap (λ z. z.object.0) (sym same))

  -- a volume that is given has a new medium
  volume_new : (x : ObjectFact) → Contains d.objects x → x.kind ≡ Volume → m.next.medium ≤ x.medium.0
  volume_new x c volume = elim (made.object x c).1 [
    | inl v ↦ v.medium
    | inr v ↦ elim v.medium [ inl new ↦ new | inr old ↦ absurd (old.1 volume) ]
  ]

  -- one that stays has none of those that are given
  stays_apart : (x y : ObjectFact) → WasVisible m x → ((z : ObjectFact) → Contains d.objects z → z.object.0 ≢ x.object.0) → x.kind ≡ Volume
      → Contains d.objects y → x.medium.0 ≢ y.medium.0
  stays_apart x y c stays volume k e =
      let low = (visible_below m s x c).1 in
      elim (made.object y k).1 [
        | inl v ↦ (let new = v.medium in omega (arith, new, low, e))
        | inr v ↦ elim v.medium [ inl new ↦ omega (arith, new, low, e) | inr old ↦ not_left x v.was c stays volume v.there old.2 (e ∙ old.0) ]
      ]

  own_medium : (x y : ObjectFact) → IsVisible m d x → IsVisible m d y → x.kind ≡ Volume → x.medium.0 ≡ y.medium.0 → x ≡ y
  own_medium x y (inl c) (inl k) volume e = made.one_medium x y c k e
  own_medium x y (inl c) (inr k) volume e = let new = volume_new x c volume in let low = (visible_below m s y k.0).1 in absurd (omega (arith, new, low, e))
  own_medium x y (inr c) (inl k) volume e = absurd (stays_apart x y c.0 c.1 volume k e)
  own_medium x y (inr c) (inr k) volume e = one_owner m s x y c.0 k.0 volume e

  frozen : (x : ObjectFact) (r : MediumFact) → IsVisible m d x → Contains d.ranges r → x.kind ≡ Volume → r.target.0 ≢ x.medium.0
  frozen x r (inl c) k volume e =
      let l = made.range r k in
      let low = (visible_below m s l.target l.there).1 in
      let new = volume_new x c volume in
      omega (arith, low, l.its, new, e)
  frozen x r (inr c) k volume e = let l = made.range r k in not_left x l.target c.0 c.1 volume l.there l.left (sym e ∙ l.its)

  -- ---- all of it

  pub may_derive : MayDerive m d
  may_derive = record {
    lawful = lawful;
    new_numbers = new_numbers;
    few = made.few;
    visible = λ z c. elim (made.object z c).1 [
      | inl v ↦ inr (v.was, v.there, sym v.id)
      | inr v ↦ (let id = v.id in inl (omega (arith, id)))
    ];
    on_medium = λ z c. elim (made.object z c).1 [
      | inl v ↦ inl v.medium
      | inr v ↦ elim v.medium [ inl new ↦ inl new | inr old ↦ inr (v.was, v.there, sym old.0, sym v.sectors) ]
    ];
    new_medium = volume_new;
    names = names;
    own_medium = own_medium;
    some = λ r c. (made.range r c).some;
    apart = made.apart;
    within = λ z r c k e.
        let l = made.range r k in
        let same : l.owner ≡ z = made.one_medium l.owner z l.given c (sym l.own ∙ e) in
        subst (λ (o : ObjectFact). r.end ≤ o.sectors) same l.end;
    frozen = frozen;
  }
