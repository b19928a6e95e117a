-- What a sector of a medium reads as.
use Rattle.std.specs.Prelude.{◌≡◌, ℕ, ◌+◌, ◌-◌, ◌<◌, ◌≤◌, Some, None}
use Rattle.pur_base.specs.declared.facts.Target.{Target}
use Rattle.pur_base.specs.declared.facts.Target.TheVariants.{Zero}
use Rattle.pur_base.specs.declared.facts.MediumFact.{MediumFact}
use Rattle.pur_base.specs.Facts.{Facts}
use Rattle.pur_base.specs.Visible.{address, range}

-- a visible range of the medium has the sector
pub record IsOver (facts : Facts) (medium sector : ℕ) (r : MediumFact) : Type 0 where
  pub there : range facts medium r.start ≡ Some r
  pub from_start : r.start ≤ sector
  pub below_end : sector < r.end

-- what a sector of a medium reads as, by the first of these that applies
pub data Reads (facts : Facts) : ℕ → ℕ → Target → Type 0 where
  -- the medium itself says where
  here : {medium sector : ℕ} {target : Target} → address facts medium sector ≡ Some target → Reads facts medium sector target
  -- else the target of the range over it does
  below : {medium sector : ℕ} {target : Target} (r : MediumFact) → address facts medium sector ≡ None → IsOver facts medium sector r
      → Reads facts r.target.0 (r.target_start + (sector - r.start)) target → Reads facts medium sector target
  -- else it is zeros
  unwritten : {medium sector : ℕ} → address facts medium sector ≡ None → ((r : MediumFact) → ¬ (IsOver facts medium sector r)) → Reads facts medium sector Zero
