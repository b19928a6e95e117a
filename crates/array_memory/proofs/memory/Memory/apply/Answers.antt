use Rattle.array_memory.proofs.Prelude.{◌≡◌, length, HasCopy, HasObject, IsDerivable}
use Rattle.command_spec.proofs.DoneLemmas.{write_does, fill_does, zero_does, create_does, snapshot_does, clone_does, copy_does, destroy_does}
use Rattle.array_memory.proofs.memory.Memory.apply.Goals as goal

pub returns-in-Create : goal.returns-in-Create
returns-in-Create c =
    let w = c.create.ensures.created in
    rw c.in-Create.is (create_does c.args.self.now c.create.new.self c.kept.ensures c.requires.numbers c.args.sectors.now c.in-Create.name c.in-Create.size w.0 w.1 w.2 w.3 w.4
    (rw c.in-Create.is at c.requires.allowed) c.create.ensures.patches c.create.ensures.segments c.create.ensures.elided c.create.ensures.room_left)

pub returns-in-Write : goal.returns-in-Write
returns-in-Write c =
    let long : length c.args.sectors.now ≡ c.in-Write.count = rw c.in-Write.is at c.requires.sectors in
    rw c.in-Write.is (write_does c.args.self.now c.write.new.self c.kept.ensures c.requires.numbers c.args.sectors.now c.in-Write.name c.in-Write.lba c.in-Write.count long
    c.write.ensures.put c.write.ensures.sectors c.write.ensures.room_left)

pub returns-in-Fill : goal.returns-in-Fill
returns-in-Fill c = rw c.in-Fill.is (fill_does c.args.self.now c.fill.new.self c.kept.ensures c.requires.numbers c.args.sectors.now c.in-Fill.name c.in-Fill.lba c.in-Fill.count
    c.in-Fill.byte c.fill.ensures.put c.fill.ensures.room_left)

pub returns-in-Zero : goal.returns-in-Zero
returns-in-Zero c = rw c.in-Zero.is (zero_does c.args.self.now c.zero.new.self c.kept.ensures c.requires.numbers c.args.sectors.now c.in-Zero.name c.in-Zero.lba c.in-Zero.count
    c.zero.ensures.put c.zero.ensures.room_left)

pub returns-in-Snapshot : goal.returns-in-Snapshot
returns-in-Snapshot c =
    let may : IsDerivable c.args.self.now.objects c.in-Snapshot.name c.in-Snapshot.new = rw c.in-Snapshot.is at c.requires.allowed in
    rw c.in-Snapshot.is (snapshot_does c.args.self.now c.snapshot.new.self c.kept.ensures c.requires.numbers c.args.sectors.now c.in-Snapshot.name c.in-Snapshot.new may
    (c.snapshot.ensures.adds may.source may.there may.named) c.snapshot.ensures.room_left)

pub returns-in-Clone : goal.returns-in-Clone
returns-in-Clone c =
    let may : IsDerivable c.args.self.now.objects c.in-Clone.name c.in-Clone.new = rw c.in-Clone.is at c.requires.allowed in
    rw c.in-Clone.is (clone_does c.args.self.now c.clone_of.new.self c.kept.ensures c.requires.numbers c.args.sectors.now c.in-Clone.name c.in-Clone.new may
    (c.clone_of.ensures.adds may.source may.there may.named) c.clone_of.ensures.room_left)

pub returns-in-Copy : goal.returns-in-Copy
returns-in-Copy c =
    let may : HasCopy c.args.self.now.objects c.in-Copy.name c.in-Copy.lba c.in-Copy.to c.in-Copy.to_lba c.in-Copy.count = rw c.in-Copy.is at c.requires.allowed in
    rw c.in-Copy.is (copy_does c.args.self.now c.copy.new.self c.kept.ensures c.requires.numbers c.args.sectors.now c.in-Copy.name c.in-Copy.lba c.in-Copy.to c.in-Copy.to_lba c.in-Copy.count may
    (c.copy.ensures.adds may.source may.target may.source_there may.source_named may.target_there may.target_named) c.copy.ensures.room_left)

pub returns-in-Destroy : goal.returns-in-Destroy
returns-in-Destroy c =
    let may : HasObject c.args.self.now.objects c.in-Destroy.name = rw c.in-Destroy.is at c.requires.allowed in
    let gone = c.destroy.ensures.removed may.0 may.1 may.2 in
    rw c.in-Destroy.is (destroy_does c.args.self.now c.destroy.new.self c.kept.ensures c.requires.numbers c.args.sectors.now c.in-Destroy.name may gone.0 gone.1
    c.destroy.ensures.patches c.destroy.ensures.segments c.destroy.ensures.elided c.destroy.ensures.room_left)
