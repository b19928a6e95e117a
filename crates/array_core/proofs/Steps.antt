-- Conditions that agree with a record, holders and moments, as an array that goes on has them.
use Rattle.array_core.proofs.Prelude.{nat_tests, ◌≡◌, ◌⊎◌, inl, inr, zero, suc, List, [], ◌∷◌, true, false, refl, sym, ap, ◌∙◌, arith, Contains, Device, Conditions, Command, after, BootRecord, Rises, geometry_of, Shelved, LeavesOnly, weaker, Content, array_of, IsArrayOf, IsReady, logged, AgreesWith, DropsFailed, IsHolder, NoneJoins, IsKeptAt, IsLost, without_or_with, AgreesFor, by_faults, Calls, HandsOn, IsOnWay, GoesOnMeanwhile, Halts}
use Rattle.pur_base.specs.Plain as plain
use Rattle.array_core.specs.declared.array.Array.{Array}
use Rattle.array_core.proofs.Commands.{after_last}
use Rattle.array_core.proofs.Lost.{lost_unborne}

-- ---- parts

module _ (old new : Shelved) (a b : Array) where
  drops_too : (d : Device) → IsHolder b d ⊎ Rises (old.disk d).write_faults (new.disk d).write_faults → IsHolder b d ⊎ Rises (old.disk d).write_faults (new.disk d).write_faults ⊎ (false ≡ true)
  drops_too d (inl holds) = inl holds
  drops_too d (inr rose) = inr (inl rose)

  more_named : {A B : Type 0} → A ⊎ B → A ⊎ B ⊎ (false ≡ true)
  more_named (inl x) = inl x
  more_named (inr x) = inr (inl x)

  pub hands : DropsFailed old new a b → NoneJoins a b → HandsOn by_faults old new a b
  hands drops joins = grind (arith, nat_tests, drops_too, more_named)

agrees_too : (boot : BootRecord) (now : Conditions) → AgreesFor by_faults boot now → AgreesWith boot now
agrees_too boot now agrees = record { sound = λ d e. (agrees.sound d e).0; left_out = λ d e. (agrees.left_out d e).0 }

-- ---- the same array by other tables

only_one : (x z y : plain.Array) → x ≡ z → Contains (z ∷ []) y → IsOnWay x [] y
only_one x z y is (zero, lt, e) = record { front = []; rest = []; whole = refl; is = sym e ∙ sym is }
only_one x z y is (suc k, lt, e) = absurd (omega (arith, lt))

module _ (old new : Shelved) (a : Array) where
  pub same_meanwhile : (old.honest → (held : Content) → IsReady old a held → LeavesOnly old new (IsKeptAt old a.register.record (array_of held ∷ []))) → GoesOnMeanwhile by_faults old new a []
  same_meanwhile moments h x holds = weaker (λ stop at now agrees borne. record {
    arrays = array_of holds.held ∷ [];
    each = λ y has. only_one x (array_of holds.held) y holds.is has;
    standing = at now (agrees_too a.register.record now agrees) borne;
  }) (moments h holds.held holds.ready)

-- ---- a command

module _ (old new : Shelved) (a : Array) (c : Command) where
  with_it : (held : Content) (x : plain.Array) → x ≡ array_of held → array_of (logged held c) ≡ after x c
  with_it held x is = after_last held.base held.log c ∙ ap (λ (z : plain.Array). after z c) (sym is)

  without_with : (held : Content) (x y : plain.Array) → x ≡ array_of held → Contains (without_or_with held c) y → IsOnWay x (c ∷ []) y
  without_with held x y is (zero, lt, e) = record { front = []; rest = c ∷ []; whole = refl; is = sym e ∙ sym is }
  without_with held x y is (suc zero, lt, e) = record { front = c ∷ []; rest = []; whole = refl; is = sym e ∙ with_it held x is }
  without_with held x y is (suc (suc k), lt, e) = absurd (omega (arith, lt))

  pub command_meanwhile : (old.honest → (held : Content) → IsReady old a held → LeavesOnly old new (IsKeptAt old a.register.record (without_or_with held c))) → GoesOnMeanwhile by_faults old new a (c ∷ [])
  command_meanwhile moments h x holds = weaker (λ stop at now agrees borne. record {
    arrays = without_or_with holds.held c;
    each = λ y has. without_with holds.held x y holds.is has;
    standing = at now (agrees_too a.register.record now agrees) borne;
  }) (moments h holds.held holds.ready)

-- ---- it doesn't go on

pub lost_halts : (old new : Shelved) (a : Array) (commands : List Command) → Calls old new → IsArrayOf (geometry_of old) a → IsLost old new a → GoesOnMeanwhile by_faults old new a commands → Halts by_faults old new a commands
lost_halts old new a commands ran is lost moments = record {
  ran = ran;
  unborne = λ now holders. lost_unborne old new a now is.of_shelf (λ d e. (holders d e).0) lost;
  any_moment = moments;
}
