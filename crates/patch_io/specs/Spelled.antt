-- Facts that stand as bytes, 64 to a fact.
use Rattle.std.specs.Prelude.{◌≡◌, ℕ, ◌*◌, List, ◌++◌, length, Some, slice_get}
use Rattle.array_spec.specs.Prelude.{bytes_at, AnyFact, FACT_BYTES, Decodes}
use Rattle.patch_io.specs.Tables.{AreInOrder}
use Rattle.patch_io.specs.declared.fault.PatchFault.{PatchFault}
use Rattle.patch_io.specs.declared.fault.PatchFault.TheVariants.{Bad, Lost, Memory}

-- the bytes of the fact of that number
abbrev pub fact_text : List ℕ → ℕ → List ℕ
fact_text bytes k = bytes_at (FACT_BYTES * k) FACT_BYTES bytes

-- the bytes spell the facts, one behind another
abbrev pub Spell : List ℕ → List AnyFact → Type 0
Spell bytes facts = (k : ℕ) (f : AnyFact) → slice_get facts k ≡ Some f → Decodes (fact_text bytes k) f

-- behind the old facts stand as many more as the bytes spell, all in order
pub record Extends (tag : ℕ) (bytes : List ℕ) (count : ℕ) (old new : List AnyFact) : Type 0 where
  pub added : List AnyFact
  pub behind : new ≡ old ++ added
  pub size : length added ≡ count
  pub spelled : Spell bytes added
  pub in_order : AreInOrder tag new

-- the bytes spell no such facts, unless memory ran out
abbrev pub SpellsNone : ℕ → List ℕ → ℕ → List AnyFact → PatchFault → Type 0
SpellsNone tag bytes count old Bad = (added : List AnyFact) → length added ≡ count → Spell bytes added → ¬ AreInOrder tag (old ++ added)
SpellsNone tag bytes count old (Lost lost) = ⊥
SpellsNone tag bytes count old (Memory m) = Unit {0}
