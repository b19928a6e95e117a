-- Gates: what they guard counts where they are open.
use Rattle.std.specs.Prelude.{ℕ, Bool, List, slice_index, ◌==◌}

-- a gate is open where its byte is 1
abbrev pub is_open : ℕ → List ℕ → Bool
is_open place bytes = slice_index bytes place == 1
