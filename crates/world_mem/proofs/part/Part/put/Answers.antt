use Rattle.world_mem.proofs.Prelude.{◌≡◌, ◌+◌, ◌++◌, ◌∷◌, [], length, slice_range, take, drop, rules}
use Rattle.world_mem.proofs.Undone.{undone, unmarked, written}
use Rattle.world_mem.proofs.part.Part.put.Goals as goal

pub returns-clause-written : goal.returns-clause-written
returns-clause-written c = written c.args.at c.args.self.now.bytes.items c.args.from.now c.put_bytes.new.bytes.items c.requires (search rules)

pub returns-clause-undone : goal.returns-clause-undone
returns-clause-undone c =
    let old = c.args.self.now.bytes.items in
    let from = c.args.from.now in
    let at = c.args.at in
    let put : c.put_bytes.new.bytes.items ≡ take at old ++ from ++ drop (at + length from) old = search rules in
    let was : c.in-Ok.was.items ≡ slice_range old at (at + length from) = search rules in
    let dirty : c.mark.new.self.dirty.items ≡ c.args.self.now.dirty.items ++ record { start = at; size = length from } ∷ [] = search rules in
    λ i. record {
      bytes = undone at old from c.put_bytes.new.bytes.items c.in-Ok.was.items c.requires put was i;
      dirty = unmarked c.args.self.now.dirty.items _ _ dirty i;
      faults = c.mark.ensures.counts.0 i;
      write_faults = c.mark.ensures.counts.1 i;
    }
