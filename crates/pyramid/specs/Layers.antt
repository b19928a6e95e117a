-- Layers of facts, and what a table may do with them.
use Rattle.std.specs.Prelude.{◌≡◌, ◌⊎◌, ℕ, ◌<◌, ◌≤◌, ◌%◌, Bool, ◌&&◌, IsTrue, List, [], ◌∷◌, ◌++◌, Option, Some, None, option_and_then, if◌then◌else◌, nat_le, AllPairs, All, Contains, slice_index_or, ⊤, length}
use Rattle.std.specs.List.{flat_map}
use Rattle.pur_base.specs.Prelude.{id_of, newest, has_key, Ascends, says}
use Rattle.elision.specs.Merging.{stays}

-- sorted patches, oldest first, and the facts that aren't flushed yet
pub record Layers (F : Type 0) : Type 0 where
  pub patches : List (List F)
  pub unflushed : List F
  -- how many more facts it takes without memory
  pub room : ℕ
  -- how many more patches it takes without memory
  pub patch_room : ℕ

-- all facts of these patches
abbrev pub facts_of : {F : Type 0} → List (List F) → List F
facts_of patches = flat_map (λ facts. facts) patches

-- all facts of a table
abbrev pub facts_in : {F : Type 0} → Layers F → List F
facts_in l = facts_of l.patches ++ l.unflushed

-- the facts of one of the patches
abbrev pub patch_at : {F : Type 0} → Layers F → ℕ → List F
patch_at l i = slice_index_or l.patches i []

-- a patch's facts, or none
abbrev pub patch_facts : {F : Type 0} → Option (List F) → List F
patch_facts None = []
patch_facts (Some facts) = facts

-- a patch, if there is one, as a list of patches
abbrev pub patches_of : {F : Type 0} → Option (List F) → List (List F)
patches_of None = []
patches_of (Some facts) = facts ∷ []

-- different facts have different numbers
abbrev pub AreDistinct : {F : Type 0} → (F → ℕ) → List F → Type 0
AreDistinct {F} number fs = (f g : F) → Contains fs f → Contains fs g → number f ≡ number g → f ≡ g

-- each number of the first is below each of the second
abbrev pub AreBelow : {F : Type 0} → (F → ℕ) → List F → List F → Type 0
AreBelow number fs gs = All (λ f. All (λ g. number f < number g) gs) fs

-- each number of a patch is below those of the next ones and of what isn't flushed
abbrev pub Rises : {F : Type 0} → (F → ℕ) → List (List F) → List F → Type 0
Rises number [] unflushed = ⊤
Rises number (facts ∷ patches) unflushed = AreBelow number facts (facts_of patches ++ unflushed) × Rises number patches unflushed

module _ {F : Type 0} (key number : F → ℕ) where
  -- by key, and of one key by number
  abbrev pub IsBefore : F → F → Type 0
  IsBefore f g = (key f < key g) ⊎ ((key f ≡ key g) × (number f < number g))

  -- in that order
  abbrev pub IsOrdered : List F → Type 0
  IsOrdered fs = AllPairs IsBefore fs

  -- the newest fact of the key
  abbrev pub newest_of : ℕ → List F → Option F
  newest_of k fs = newest number (has_key key k) fs

  -- there is a newer fact of its key
  abbrev pub HasNewer : List F → F → Type 0
  HasNewer fs f = (g : F) × Contains fs g × (key g ≡ key f) × (number f < number g)

-- a patch: some facts, ascending by key
pub record IsPatch {F : Type 0} (key : F → ℕ) (facts : List F) : Type 0 where
  pub ascends : Ascends key facts
  pub some : 0 < length facts

-- the facts by layers: each patch ascends by key, the unflushed facts stand in order, and numbers rise from layer to layer
pub record IsLayered {F : Type 0} (key number : F → ℕ) (patches : List (List F)) (unflushed : List F) : Type 0 where
  pub ascend : All (Ascends key) patches
  pub ordered : IsOrdered key number unflushed
  pub rises : Rises number patches unflushed

-- the fact lies in one of these
abbrev pub LiesInOne : {F : Type 0} → (F → F → Bool) → List F → F → Type 0
LiesInOne {F} within fs f = (g : F) × Contains fs g × IsTrue (within f g)

-- no fact of the table lies in another
abbrev pub IsApart : {F : Type 0} → (F → F → Bool) → Type 0
IsApart {F} within = (f g : F) → IsTrue (within f g) → ⊥

-- the class of a key, by its remainder
abbrev pub class_of : ℕ → ℕ
class_of k = k % 8

-- facts of a class lie in one another as ranges do that begin at their keys
pub record NestAsRanges {F : Type 0} (key : F → ℕ) (within : F → F → Bool) : Type 0 where
  -- a fact lies only in those of its class that begin no later
  pub before : (f g : F) → IsTrue (within f g) → (key g ≤ key f) × (class_of (key f) ≡ class_of (key g))
  -- what begins between a fact and one that it lies in lies in that one, or has the fact in it
  pub between : (f g h : F) → IsTrue (within f g) → key g ≤ key h → key h ≤ key f → class_of (key h) ≡ class_of (key g) → IsTrue (within h g) ⊎ IsTrue (within f h)

-- none of the facts lies in another
abbrev pub AreAlone : {F : Type 0} → (F → F → Bool) → List F → Type 0
AreAlone {F} within fs = (f g : F) → Contains fs f → Contains fs g → IsTrue (within f g) → f ≡ g

-- each of the facts is among the others, or lies in one of them
abbrev pub AreCovered : {F : Type 0} → (F → F → Bool) → List F → List F → Type 0
AreCovered {F} within fs gs = (f : F) → Contains fs f → Contains gs f ⊎ LiesInOne within gs f

-- a newer fact of a key says all that an older one does
abbrev pub Grow : {F : Type 0} → (F → ℕ) → (F → ℕ) → (F → F → Bool) → List F → Type 0
Grow {F} key number within fs = (f g : F) → Contains fs f → Contains fs g → key f ≡ key g → number f < number g → IsTrue (within f g)

-- the new patch has of each key the newest unflushed fact, whether it is empty or elided
pub record IsFlushed {F : Type 0} (key number : F → ℕ) (unflushed new : List F) : Type 0 where
  pub ascends : Ascends key new
  pub source : (f : F) → Contains new f → Contains unflushed f
  pub dropped : (f : F) → Contains unflushed f → Contains new f ⊎ HasNewer key number unflushed f
  pub newest : (k : ℕ) → newest_of key number k new ≡ newest_of key number k unflushed

-- the fact, if it passes
abbrev pub if_passes : {F : Type 0} → (F → Bool) → F → Option F
if_passes test f = if test f then Some f else None

-- the new patch is made of these two: why a fact is left out, and that of each key only the newest fact stays
pub record IsMerged {F : Type 0} (key number : F → ℕ) (empty : F → Bool) (within : F → F → Bool) (oldest : Bool) (elided : ℕ → Bool) (older newer new : List F) : Type 0 where
  pub ascends : Ascends key new
  pub source : (f : F) → Contains new f → Contains (older ++ newer) f
  -- it is elided, there is a newer one of its key, it is empty in the oldest patch, or it lies in another that stays
  pub dropped : (f : F) → Contains (older ++ newer) f
      → Contains new f ⊎ (IsTrue (elided (id_of (key f))) ⊎ (HasNewer key number (older ++ newer) f ⊎ ((IsTrue oldest × IsTrue (empty f)) ⊎ LiesInOne within new f)))
  -- none that stays lies in another
  pub alone : NestAsRanges key within → AreAlone within new
  pub newest : IsApart within → (k : ℕ) → newest_of key number k new ≡ option_and_then (if_passes (stays key empty oldest elided)) (newest_of key number k (older ++ newer))

-- the facts say the same after as before, for every key, wherever at least these ids are elided
abbrev pub SaysTheSame : {F : Type 0} → (F → ℕ) → (F → ℕ) → (F → Bool) → (ℕ → Bool) → List F → List F → Type 0
SaysTheSame key number empty elided old new =
    (wider : ℕ → Bool) → ((id : ℕ) → IsTrue (elided id) → IsTrue (wider id)) → (k : ℕ) → says key number empty new wider k ≡ says key number empty old wider k

-- whether a key lies between these, both taken in
abbrev pub is_between : ℕ → ℕ → ℕ → Bool
is_between from to k = nat_le from k && nat_le k to

-- facts of which some are left out, each of them since it lies in one that stays
pub record IsPruned {F : Type 0} (key : F → ℕ) (within : F → F → Bool) (old front rest : List F) : Type 0 where
  pub ascends : Ascends key (front ++ rest)
  pub source : (f : F) → Contains (front ++ rest) f → Contains old f
  pub dropped : (f : F) → Contains old f → Contains (front ++ rest) f ⊎ LiesInOne within front f
  pub alone : NestAsRanges key within → AreAlone within front
  pub same : IsApart within → front ++ rest ≡ old
