use Rattle.array_memory.proofs.Prelude.{refl, arith, Volume, ObjectFact, created_by}
use Rattle.array_memory.proofs.memory.Memory.create.Goals as goal

pub returns-clause-created : goal.returns-clause-created
returns-clause-created c =
    let n = c.self.inside.next in
    let left = rw (← c.self.view_is) at c.requires.numbers in
    let adds = rw (← c.self.view_is) at c.add.ensures.adds in
    let tables = rw (← c.self.view_is) at c.add.ensures.tables in
    let x : ObjectFact = record { object = record { 0 = n.object }; kind = Volume; sectors = c.args.sectors; medium = record { 0 = n.medium }; name = c.args.name; seq = record { 0 = n.sequence } } in
    rw (← c.self.view_is) (
      x,
      record {
        object = refl;
        medium = refl;
        number = refl;
        kind = refl;
        name = c.requires.free.lawful;
        size = (c.requires.free.some, c.requires.free.most);
        objects_left = left.objects;
        mediums_left = omega (arith, left.mediums);
        numbers_left = omega (arith, left.numbers);
      },
      refl,
      refl,
      created_by _ c.add.new.self x adds tables refl,
    )
