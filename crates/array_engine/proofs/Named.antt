-- The devices that a record names, where these are just the holders of its array.
use Rattle.array_engine.proofs.Prelude.{◌≡◌, ◌⊎◌, inl, inr, ℕ, ◌≤◌, List, Bool, true, false, sym, subst, cases_Bool, cases_lt, Device, Drive, Nv, Geometry, BootRecord, drive, names, Rises, has_risen, Shelved, geometry_of, DropsOnlyLost, Point, not_risen, IsMember, IsRegisterOf, in_cut, cut_in, none_past, Array, HandsOn, NamesHolders, IsHolder, by_faults, StandsAt}
use Rattle.boot_region.proofs.Stored.{rises_between}
use Rattle.nvram_log.specs.Members as nv

-- ---- at one moment

module _ (shelf : Geometry) (a : Array) (is_of : IsRegisterOf shelf a.register) (named : NamesHolders a) where
  drive_holds : (i : ℕ) → names a.register.record (drive i) ≡ true → IsHolder a (drive i)
  drive_holds i e =
      let flag : IsMember a.register.drives i = subst (λ (l : List Bool). IsMember l i) named.0 e in
      elim (cases_lt i a.register.record.slots) [
        | inl lt ↦ cut_in a.register.drives a.register.record.slots i lt flag
        | inr past ↦ absurd (none_past a.register.record.members.drives a.register.record.slots i is_of.lawful.lawful.members.within past e)
      ]

  pub named_holds : (d : Device) → names a.register.record d ≡ true → IsHolder a d
  named_holds (Drive d) e = drive_holds d.0 e
  named_holds (Nv n) e = subst (λ (l : List Bool). nv.IsMember l n.0) named.1 e

  pub holder_named : (d : Device) → IsHolder a d → names a.register.record d ≡ true
  holder_named (Drive d) h = is_of.named d.0 (in_cut a.register.drives a.register.record.slots d.0 h)
  holder_named (Nv n) h = subst (λ (l : List Bool). nv.IsMember l n.0) (sym named.1) h

-- so of the record at a point at which the array stands
pub named_at : (told : Bool) (shelf : Shelved) (a : Array) (p : Point) → IsRegisterOf (geometry_of shelf) a.register → StandsAt told shelf a p → (d : Device) → names p.boot d ≡ true → IsHolder a d
named_at told shelf a p is_of s d named = named_holds (geometry_of shelf) a is_of s.names_holders d (subst (λ (b : BootRecord). names b d ≡ true) s.boot named)

-- ---- from one to another

is_risen : (a b : ℕ) → Rises a b → has_risen a b ≡ true
is_risen a b rose = elim (cases_Bool (has_risen a b)) [
  | inl is ↦ is
  | inr none ↦ absurd (not_risen a b none rose)
]

-- a count that rose meanwhile has risen since before that, and by a later moment
pub risen_around : (a b c d : ℕ) → a ≤ b → c ≤ d → Rises b c → has_risen a d ≡ true
risen_around a b c d before behind rose = is_risen a d (rises_between a b c d before rose behind)

pub risen_itself : (a b : ℕ) → Rises a b → has_risen a b ≡ true
risen_itself a b rose = is_risen a b rose

-- the record of an array that goes on drops none but devices that lost a write, and takes none in
module _ (lost : Device → Bool) (old new : Shelved) (a b : Array) (shelf size : Geometry) (is_a : IsRegisterOf shelf a.register) (is_b : IsRegisterOf size b.register) (hands : HandsOn by_faults old new a b) (before : NamesHolders a)
    (rose : (d : Device) → Rises (old.disk d).write_faults (new.disk d).write_faults → lost d ≡ true) where
  left_for : (d : Device) → IsHolder b d ⊎ Rises (old.disk d).write_faults (new.disk d).write_faults ⊎ (false ≡ true) → (names b.register.record d ≡ true) ⊎ (lost d ≡ true)
  left_for d (inl holds) = inl (holder_named size b is_b (hands.names_holders before) d holds)
  left_for d (inr (inl risen)) = inr (rose d risen)
  left_for d (inr (inr gone)) = absurd (cc gone)

  was_named : (d : Device) → (names a.register.record d ≡ true) ⊎ IsHolder a d ⊎ (false ≡ true) → names a.register.record d ≡ true
  was_named d (inl named) = named
  was_named d (inr (inl holds)) = holder_named shelf a is_a before d holds
  was_named d (inr (inr joined)) = absurd (cc joined)

  pub drops_only_lost : DropsOnlyLost lost a.register.record b.register.record
  drops_only_lost = record {
    leaves = λ d e. left_for d (hands.leaves d (named_holds shelf a is_a before d e));
    joins = λ d e. was_named d (hands.named d e);
  }

-- so from a point at which the first one stands
pub drops_at : {told : Bool} {shelf : Shelved} {a : Array} {p : Point} → StandsAt told shelf a p → {lost : Device → Bool} {now : BootRecord} → DropsOnlyLost lost a.register.record now → DropsOnlyLost lost p.boot now
drops_at s {lost} {now} drops = subst (λ (b : BootRecord). DropsOnlyLost lost b now) (sym s.boot) drops

pub drops_none : (lost : Device → Bool) (a : Array) → DropsOnlyLost lost a.register.record a.register.record
drops_none lost a = record { leaves = λ d e. inl e; joins = λ d e. e }
