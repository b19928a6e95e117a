-- The record of an array whose tables hold nothing names no patch.
use Rattle.register.proofs.Prelude.{refl, arith, Shelved, Stop, MayStop, IsShelf}

-- the devices as reads give them
pub read_stop : Shelved → Stop
read_stop shelf = record { image = λ d. (shelf.disk d).bytes; faults = λ d. (shelf.disk d).faults; write_faults = λ d. (shelf.disk d).write_faults; output = shelf.output; taken = shelf.taken }

pub may_read : (shelf : Shelved) → IsShelf shelf → shelf.honest → MayStop shelf (read_stop shelf)
unfolding read_stop
may_read shelf is h = record {
  device = λ d. record { size = refl; is_byte = is.bytes h d; clean = λ i clean. refl };
  counts = record { faults = λ d. omega arith; write_faults = λ d. omega arith };
  output = refl;
  taken = refl;
}
