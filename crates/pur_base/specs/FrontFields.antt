-- How the front of some bytes lies in its fields.
use Rattle.std.specs.Prelude.{◌≡◌, ℕ, ◌-◌, ◌≤◌, List, length, drop}
use Rattle.pur_base.specs.Bytes.{zeros}

-- The bytes so far stand in front, and zeros behind them.
pub record IsPadded (n : ℕ) (bytes : List ℕ) (len : ℕ) : Type 0 where
  pub size : length bytes ≡ n
  pub within : len ≤ n
  pub zeros : drop len bytes ≡ zeros (n - len)
