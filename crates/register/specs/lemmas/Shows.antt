-- An NVRAM device that holds a log shows it.
use Rattle.std.proofs.Common.{ℕ, List, Bool}
use Rattle.array_spec.specs.Prelude.{Command}
use Rattle.world.specs.Prelude.{Shelved}
use Rattle.nvram_log.specs.Prelude.{HoldsOn}
use Rattle.register.specs.Standing.{ShowsOn}

pub holds_shows : {shelf : Shelved} {members : List Bool} {flushed : ℕ} {commands : List Command} → HoldsOn shelf members flushed commands → ShowsOn shelf members flushed commands
holds_shows h = record { log = λ n lt m. let l = h.log n lt m in record { room = l.room; between = l.between }; clean = h.clean }
