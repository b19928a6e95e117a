-- What a view shows of nine drives at moments in between.
use Rattle.std.proofs.Common.{arith}
use Rattle.std.proofs.lemmas.Bool.Decides.{nat_tests}
use Rattle.std.proofs.Common.{◌≡◌, Bool, List}
use Rattle.world.specs.Prelude.{View, Device, Place, Shelved, Continues, not_risen_before, not_risen_since}
use Rattle.segment_io.specs.Stripes.{bytes_of}
use Rattle.segment_io.specs.Reads.{ShowsNoOther}

-- what shows no drive but as it stands and answers over two runs does so over each
module _ (a b c : Shelved) (places : List Place) (missing : List Bool) (view : View) (bc : Continues b c) (shows : ShowsNoOther a c places missing view) where
  pub shows_first : ShowsNoOther a b places missing view
  shows_first shard lt = grind (arith, nat_tests, not_risen_before)

  pub shows_then : Continues a b → ((device : Device) → bytes_of b device ≡ bytes_of a device) → ShowsNoOther b c places missing view
  shows_then ab same shard lt = grind (arith, nat_tests, not_risen_since)
