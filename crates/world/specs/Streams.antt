-- What a source and a sink mean.
use Rattle.std.specs.Prelude.{◌≡◌, ◌⊎◌, ◌++◌, ℕ, List, [], take, Result, Ok, Err}
use Rattle.world.specs.declared.streams.Failed.{Failed}

-- the bytes left of a source, or those given to a sink
pub record Streamed : Type 1 where
  -- it tells its bytes
  pub honest : Type 0
  pub bytes : List ℕ
  -- how often a call of it failed
  pub faults : ℕ

-- it tells what it told, and has the bytes and the count that it had
pub record SameStream (old new : Streamed) : Type 0 where
  pub honest : old.honest → new.honest
  pub honest_before : new.honest → old.honest
  pub bytes : new.bytes ≡ old.bytes
  pub faults : new.faults ≡ old.faults

-- The first bytes are taken; none only where there is no room, or at the end. A failure takes nothing.
abbrev pub WasTaken : Result ℕ Failed → List ℕ → List ℕ → List ℕ → Type 0
WasTaken (Ok n) into old new = (take n into ++ new ≡ old) × (n ≡ 0 → (into ≡ []) ⊎ (old ≡ []))
WasTaken (Err _) into old new = new ≡ old

-- The first bytes are given behind those before. A failure gives nothing.
abbrev pub WasGiven : Result ℕ Failed → List ℕ → List ℕ → List ℕ → Type 0
WasGiven (Ok n) from old new = new ≡ old ++ take n from
WasGiven (Err _) from old new = new ≡ old

-- the rest of something stays
pub record IsPreorder {X : Type 0} (R : X → X → Type 0) : Type 0 where
  pub reflexive : (x : X) → R x x
  pub transitive : (x y z : X) → R x y → R y z → R x z
