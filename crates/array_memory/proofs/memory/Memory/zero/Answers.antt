use Rattle.array_memory.proofs.Prelude.{[], ap, arith, None, ObjectFact, targets_from, targets_long, put_done, none_staged}
use Rattle.array_memory.proofs.memory.Memory.zero.Goals as goal

pub overflow_cast-lba : goal.overflow_cast-lba
overflow_cast-lba c =
    let s = c.requires.span in
    let e = ap (λ (x : ObjectFact). x.sectors) (c.object_of-object.ensures.is s.volume s.there s.named) in
    omega (arith, e, s.within, c.object_of-object.ensures.size)

pub put-requires-clause-sectors : goal.put-requires-clause-sectors
put-requires-clause-sectors c =
    let s = c.requires.span in
    let e = ap (λ (x : ObjectFact). x.sectors) (c.object_of-object.ensures.is s.volume s.there s.named) in
    omega (arith, e, s.within, c.object_of-object.ensures.size)

pub returns-clause-put : goal.returns-clause-put
returns-clause-put c =
    let s = c.requires.span in
    let k = c.args.self.now in
    put_done k k c.put.new.self c.args.name.now c.args.lba c.args.count c.object_of-object.result.medium.0 k.staged_room (targets_from None 0 c.args.count) [] s
    (ap (λ (x : ObjectFact). x.medium.0) (c.object_of-object.ensures.is s.volume s.there s.named)) (none_staged k) c.put.ensures.rest (targets_long None 0 c.args.count)
    c.put.ensures.addresses c.put.ensures.patches
