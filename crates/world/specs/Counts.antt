-- Counts of faults: the causes of failed calls.
use Rattle.std.specs.Prelude.{◌≡◌, ◌⊎◌, ◌<◌, ◌-◌, ◌^◌, ℕ, min, Result, Ok, Err}

-- a count goes up, or stands at its end
abbrev pub Rises : ℕ → ℕ → Type 0
Rises before now = (before < now) ⊎ ((before ≡ 2 ^ 64 - 1) × (now ≡ before))

-- a count rises exactly where the call failed
abbrev pub Counts : {T E : Type 0} → Result T E → ℕ → ℕ → Type 0
Counts (Ok _) before now = now ≡ before
Counts (Err _) before now = Rises before now

-- counts end there
abbrev pub capped : ℕ → ℕ
capped n = min n (2 ^ 64 - 1)
