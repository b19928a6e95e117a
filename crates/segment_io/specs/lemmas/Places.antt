-- Places stay places.
use Rattle.std.proofs.lemmas.Bool.Decides.{nat_tests}
use Rattle.std.proofs.Common.{List, arith}
use Rattle.world.specs.Prelude.{Place, Shelved, Continues}
use Rattle.segment_io.specs.Places.{IsPlace, ArePlaces}

pub still_place : {a b : Shelved} {place : Place} → Continues a b → IsPlace a place → IsPlace b place
still_place {a} {b} {place} on is = grind (arith, nat_tests)

pub still_places : {a b : Shelved} {places : List Place} → Continues a b → ArePlaces a places → ArePlaces b places
still_places {a} {b} {places} on are = grind (arith, nat_tests, still_place)
