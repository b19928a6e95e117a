-- Keys, and facts that are newer than all of a table.
use Rattle.std.proofs.Common.{◌≡◌, ◌≢◌, ◌↔◌, ℕ, ◌^◌, ◌<◌, Bool, true, false, List, ◌++◌, refl, arith, Contains}
use Rattle.std.specs.Prelude.{IsTrue}
use Rattle.std.proofs.lemmas.List.Elements.{Contains-append_left, Contains-append_right}
use Rattle.pur_base.specs.declared.request.Table.{Table}
use Rattle.pur_base.specs.declared.facts.ElisionFact.{ElisionFact}
use Rattle.pur_base.specs.Prelude.{id_of, key_of, is_elided, is_within, AreElidedRanges}
use Rattle.pyramid.specs.Layers.{AreBelow}
use Rattle.pyramid.specs.lemmas.Layers.{all_below, below_at}

-- the id of a key
pub id_of_key : (id second : ℕ) → second < 2 ^ 64 → id_of (key_of id second) ≡ id
id_of_key id second l = omega arith

module _ {F : Type 0} (number : F → ℕ) where
  -- facts that are newer than all are newer than the flushed ones
  pub above_flushed : (fs us run : List F) → AreBelow number (fs ++ us) run → AreBelow number fs run
  above_flushed fs us run h = all_below number fs run (λ f g c d. below_at number (fs ++ us) run f g h (Contains-append_left fs us f c) d)

  -- and have other numbers than the unflushed ones
  pub above_unflushed : (fs us run : List F) → AreBelow number (fs ++ us) run → (f g : F) → Contains run f → Contains us g → number f ≢ number g
  above_unflushed fs us run h f g c d e =
      let less : number g < number f = below_at number (fs ++ us) run g f h (Contains-append_right fs us g d) c in
      omega (arith, less, e)

-- two tests that hold of the same are one
same_tests : (a b : Bool) → IsTrue a ↔ IsTrue b → a ≡ b
same_tests true true h = refl
same_tests true false h = let e : false ≡ true = h.0 refl in cc
same_tests false true h = let e : false ≡ true = h.1 refl in cc
same_tests false false h = refl

-- the ranges of a table's elided ids elide what its elisions do
pub within_elided : (elisions : List ElisionFact) (t : Table) (ranges : List (ℕ × ℕ)) (id : ℕ) → AreElidedRanges elisions t ranges → is_elided elisions t id ≡ is_within ranges id
within_elided elisions t ranges id h = same_tests (is_elided elisions t id) (is_within ranges id) (h.same id)
