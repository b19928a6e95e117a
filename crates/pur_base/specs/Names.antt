-- Which texts are names.
use Rattle.std.specs.Prelude.{ℕ, Bool, List, length, ◌&&◌, ◌||◌, ◌==◌, nat_le}
use Rattle.std.specs.List.{list_all}
use Rattle.pur_base.specs.declared.limits.TheConstants.{NAME_BYTES}

-- `a-z`, `0-9`, `-`, `_` and `.`
abbrev pub is_name_byte : ℕ → Bool
is_name_byte b = (nat_le 97 b && nat_le b 122) || (nat_le 48 b && nat_le b 57) || (b == 45) || (b == 95) || (b == 46)

-- 1 to 24 such bytes
abbrev pub is_name : List ℕ → Bool
is_name text = nat_le 1 (length text) && nat_le (length text) NAME_BYTES && list_all is_name_byte text
