-- Which objects and ranges may be added to sound memory, so that it stays sound.
use Rattle.std.specs.Prelude.{◌≡◌, ◌≢◌, ◌⊎◌, ℕ, ◌+◌, ◌<◌, ◌≤◌, length, Contains}
use Rattle.array_spec.specs.Prelude.{any_number, objects, OBJECTS, Volume, ObjectFact, MediumFact, AnyFact, AreNext, IsFact}
use Rattle.pur_base.specs.declared.facts.AnyFact.TheVariants as any
use Rattle.memory_spec.specs.Prelude.{facts, Memory, IsSound}
use Rattle.command_spec.specs.Deriving.{Derived, HasDerived, IsDerived}

-- one of the facts that are added
abbrev pub IsGiven : Derived → AnyFact → Type 0
IsGiven d (any.Object x) = Contains d.objects x
IsGiven d (any.Medium r) = Contains d.ranges r
IsGiven d _ = ⊥

-- visible before
abbrev pub WasVisible : Memory → ObjectFact → Type 0
WasVisible m x = Contains (objects (facts m.tables) m.next.object) x

-- visible afterwards: added, or visible before and none that is added has its id
abbrev pub IsVisible : Memory → Derived → ObjectFact → Type 0
IsVisible m d x = Contains d.objects x ⊎ (WasVisible m x × ((y : ObjectFact) → Contains d.objects y → y.object.0 ≢ x.object.0))

-- ids and numbers weren't given before, but for objects that move, and are given now
pub record AreNewNumbers (m : Memory) (d : Derived) : Type 0 where
  pub next : AreNext d.next
  pub segment : d.next.segment ≡ m.next.segment
  pub patch_segment : d.next.patch_segment ≡ m.next.patch_segment
  pub rise : (m.next.object ≤ d.next.object) × (m.next.medium ≤ d.next.medium) × (m.next.sequence ≤ d.next.sequence)
  pub numbers : (f : AnyFact) → IsGiven d f → (m.next.sequence ≤ any_number f) × (any_number f < d.next.sequence)
  pub one_number : (f g : AnyFact) → IsGiven d f → IsGiven d g → any_number f ≡ any_number g → f ≡ g
  pub objects : (x : ObjectFact) → Contains d.objects x → (x.object.0 < d.next.object) × (x.medium.0 < d.next.medium)
  pub one_object : (x y : ObjectFact) → Contains d.objects x → Contains d.objects y → x.object.0 ≡ y.object.0 → x ≡ y
  pub mediums : (r : MediumFact) → Contains d.ranges r → (m.next.medium ≤ r.medium.0) × (r.medium.0 < d.next.medium)

-- So does each of them fit beside the others: an object that isn't new was visible, and one on an old medium is a snapshot that is as large as one that was on it;
-- names and volumes' mediums are apart, and ranges of a medium lie apart within its object and lead to no volume's medium.
pub record MayDerive (m : Memory) (d : Derived) : Type 0 where
  pub lawful : (f : AnyFact) → IsGiven d f → IsFact f
  pub new_numbers : AreNewNumbers m d
  pub few : length (objects (facts m.tables) m.next.object) + d.next.object ≤ OBJECTS + m.next.object
  pub visible : (x : ObjectFact) → Contains d.objects x → (m.next.object ≤ x.object.0) ⊎ ((y : ObjectFact) × WasVisible m y × (y.object.0 ≡ x.object.0))
  pub on_medium : (x : ObjectFact) → Contains d.objects x → (m.next.medium ≤ x.medium.0) ⊎ ((y : ObjectFact) × WasVisible m y × (y.medium.0 ≡ x.medium.0) × (y.sectors ≡ x.sectors))
  pub new_medium : (x : ObjectFact) → Contains d.objects x → x.kind ≡ Volume → m.next.medium ≤ x.medium.0
  pub names : (x y : ObjectFact) → IsVisible m d x → IsVisible m d y → x.name ≡ y.name → x ≡ y
  pub own_medium : (x y : ObjectFact) → IsVisible m d x → IsVisible m d y → x.kind ≡ Volume → x.medium.0 ≡ y.medium.0 → x ≡ y
  pub some : (r : MediumFact) → Contains d.ranges r → r.start < r.end
  pub apart : (r s : MediumFact) (sector : ℕ) → Contains d.ranges r → Contains d.ranges s → r.medium.0 ≡ s.medium.0
      → r.start ≤ sector → sector < r.end → s.start ≤ sector → sector < s.end → r ≡ s
  pub within : (x : ObjectFact) (r : MediumFact) → Contains d.objects x → Contains d.ranges r → r.medium.0 ≡ x.medium.0 → r.end ≤ x.sectors
  pub frozen : (x : ObjectFact) (r : MediumFact) → IsVisible m d x → Contains d.ranges r → x.kind ≡ Volume → r.target.0 ≢ x.medium.0

-- The tables then say what was added, and memory is sound.
abbrev pub DerivingSays : Type 0
DerivingSays = (was now : Memory) (d : Derived) → IsSound was → MayDerive was d → HasDerived was now d → IsDerived (facts was.tables) (facts now.tables) d

abbrev pub DerivingIsSound : Type 0
DerivingIsSound = (was now : Memory) (d : Derived) → IsSound was → MayDerive was d → HasDerived was now d → IsSound now
