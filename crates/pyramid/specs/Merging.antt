-- What facts of two layers say together, and what stands between two keys.
use Rattle.std.specs.Prelude.{◌≡◌, ℕ, Contains, List, Option, Some, None, if◌then◌else◌}
use Rattle.pur_base.specs.Prelude.{newer, Ascends}
use Rattle.pyramid.specs.Layers.{newest_of, is_between}

module _ {F : Type 0} (number : F → ℕ) where
  -- the newer of two facts, if there are any
  abbrev pub later : Option F → Option F → Option F
  later None b = b
  later (Some f) b = newer number f b

-- of these facts the newest of each key between two, ascending by key
pub record IsSpan {F : Type 0} (key number : F → ℕ) (from to : ℕ) (facts found : List F) : Type 0 where
  pub ascends : Ascends key found
  pub source : (f : F) → Contains found f → Contains facts f
  pub newest : (k : ℕ) → newest_of key number k found ≡ (if is_between from to k then newest_of key number k facts else None)
