use Rattle.std.proofs.Common.{◌≡◌, length}
use Rattle.world_file.proofs.opening.open_devices.Given as goal

abbrev pub invariant-loop-path : goal.invariant-loop-path
invariant-loop-path l = length l.files.items ≡ l.path-index
