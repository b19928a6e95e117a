-- What reading data did: before and after are the unread bytes.
use Rattle.std.specs.Prelude.{◌≡◌, ℕ, ◌*◌, ◌<◌, ◌≤◌, List, [], ◌∷◌, ◌++◌, length, drop}
use Rattle.world.specs.Prelude.{sectors_in, SECTOR_BYTES}
use Rattle.line_input.specs.Prelude.{Overruns}
use Rattle.request_codec.specs.declared.data.DataEnd.{DataEnd}
use Rattle.request_codec.specs.declared.data.DataEnd.TheVariants as data_end

-- one sector behind those before, or too few bytes for it
abbrev pub AddsSector : DataEnd → List (List ℕ) → List (List ℕ) → List ℕ → List ℕ → Type 0
AddsSector data_end.Whole old new before after = (sector : List ℕ) × (length sector ≡ SECTOR_BYTES) × (before ≡ sector ++ after) × (new ≡ old ++ sector ∷ [])
AddsSector data_end.Cut old new before after = (length before < SECTOR_BYTES) × (after ≡ [])
AddsSector data_end.Limit old new before after = Overruns before after (λ rest. length rest < SECTOR_BYTES)

-- so many sectors, or too few bytes for them
abbrev pub ReadsData : DataEnd → ℕ → List (List ℕ) → List ℕ → List ℕ → Type 0
ReadsData data_end.Whole count sectors before after = (SECTOR_BYTES * count ≤ length before) × (sectors ≡ sectors_in count before) × (after ≡ drop (SECTOR_BYTES * count) before)
ReadsData data_end.Cut count sectors before after = (length before < SECTOR_BYTES * count) × (after ≡ [])
ReadsData data_end.Limit count sectors before after = Overruns before after (λ rest. length rest < SECTOR_BYTES * count)
