use Rattle.array_memory.proofs.Prelude.{◌≡◌, length, take, arith, subst, length-take-le, facts, Kept, IsKept, AreOwedIn}
use Rattle.array_memory.proofs.Seen.{seen, sound_of}
use Rattle.array_memory.proofs.ResolveLemmas.{are_chains}
use Rattle.array_memory.proofs.OwedLemmas.{AreTold, may_give}
use Rattle.array_memory.proofs.memory.Memory.owed_in.Goals as goal

pub resolve-requires-clause-tables : goal.resolve-requires-clause-tables
resolve-requires-clause-tables c =
    let k = seen c.self.inside in
    (facts k.memory.tables, are_chains k c.self.invariant (sound_of c.self.inside c.args.self.now c.self.view_is c.requires.sound))

pub returns-clause-owed : goal.returns-clause-owed
returns-clause-owed c =
    let r = c.args.range.now in
    let k = seen c.self.inside in
    let said = c.span.new.out in
    let read = c.resolve.new.out in
    let given = take c.put_owed.result c.put_owed.new.given in
    let chains = are_chains k c.self.invariant (sound_of c.self.inside c.args.self.now c.self.view_is c.requires.sound) in
    let told : AreTold k r.medium.0 r.start said read = record {
      said_is = rw c.ranges-2.ensures.value at c.span.ensures;
      reads = λ i l. c.resolve.ensures (facts k.memory.tables) chains i (omega arith);
    } in
    let few : length given ≡ c.put_owed.result = length-take-le c.put_owed.result c.put_owed.new.given (omega arith) in
    may_give c.args.self.now (subst IsKept c.self.view_is c.self.invariant) r (omega arith) c.requires.there c.requires.of_object c.requires.some c.requires.within
    (subst (λ (x : Kept). AreTold x r.medium.0 r.start said read) c.self.view_is told)
    (subst (λ (x : Kept). AreOwedIn r.medium.0 r.start x.memory.next.sequence said read (length said) given) c.self.view_is c.put_owed.ensures.owed)
    (omega (arith, few))
