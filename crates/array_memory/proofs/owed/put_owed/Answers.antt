use Rattle.array_memory.proofs.Prelude.{◌≡◌, ◌+◌, arith, length, take, ap, refl, sym, length-take-le, take_more_set, AddressFact, fact}
use Rattle.array_memory.proofs.OwedLemmas.{owed_skip, owed_push}
use Rattle.array_memory.proofs.owed.put_owed.Goals.{in-Some-read, in_default-read}
use Rattle.array_memory.proofs.owed.put_owed.Goals as goal

pub loop-i-preserved-in-Some : goal.loop-i-preserved-in-Some
loop-i-preserved-in-Some c =
    let l = c.loop-i in
    record { few = omega arith; owed = owed_skip l.invariant.owed (λ t none some. cc) }

pub loop-i-preserved : goal.loop-i-preserved
loop-i-preserved c =
    let s = c.args in
    let l = c.loop-i in
    let given = take l.len l.given in
    elim c.match-read-i.branch [
      | in-Some-read w ↦
          let a : AddressFact = fact s.medium.0 (s.first + l.i) w.in-Some-read.target (s.number + l.len) in
          let long : length given ≡ l.len = length-take-le l.len l.given (omega arith) in
          rw (w.given-is, w.len-is) (record {
            few = omega arith;
            owed = rw (take_more_set l.given l.len a (omega arith)) (owed_push l.invariant.owed a (record { of_medium = refl; sector = refl; unsaid = c.in_default.is; reads = w.in-Some-read.is }) (ap (λ n. s.number + n) (sym long)));
          })
      | in_default-read w ↦ rw (w.given-is, w.len-is) (record { few = omega arith; owed = owed_skip l.invariant.owed (λ t none some. cc) })
    ]
