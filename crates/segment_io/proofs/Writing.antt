-- What a write of a whole write unit leaves.
use Rattle.segment_io.proofs.Prelude.{◌≡◌, ℕ, ◌+◌, ◌-◌, List, length, take, drop, false, Result, Ok, Err, ◌∙◌, ap, arith, is_err, bytes_at, Disk, WasWritten, Failed}

pub part_at : (at n : ℕ) (bytes part : List ℕ) → length part ≡ n → take (at + length part - at) (drop at bytes) ≡ part → bytes_at at n bytes ≡ part
part_at at n bytes part size is = ap (λ (k : ℕ). take k (drop at bytes)) (let e : n ≡ at + length part - at = omega (arith, size) in e) ∙ is

pub was_written : (answer : Result (Unit {0}) Failed) (lapsed : Type 0) (at n : ℕ) (from : List ℕ) (old new : Disk) → length from ≡ n → WasWritten answer lapsed at from old new → is_err answer ≡ false → bytes_at at n new.bytes ≡ from
was_written (Ok x) lapsed at n from old new size was is = part_at at n new.bytes from size was.bytes.within
was_written (Err x) lapsed at n from old new size was is = absurd (cc is)
