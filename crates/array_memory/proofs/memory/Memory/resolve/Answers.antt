use Rattle.array_memory.proofs.Prelude.{facts}
use Rattle.array_memory.proofs.Seen.{seen, sound_of}
use Rattle.array_memory.proofs.ResolveLemmas.{are_chains}
use Rattle.array_memory.proofs.memory.Memory.resolve.Goals as goal

pub translate-requires-clause-tables : goal.translate-requires-clause-tables
translate-requires-clause-tables c =
    let k = seen c.self.inside in
    (facts k.memory.tables, are_chains k c.self.invariant (sound_of c.self.inside c.args.self.now c.self.view_is c.requires.sound))

pub returns : goal.returns
returns c =
    let k = seen c.self.inside in
    rw (← c.self.view_is) (c.translate.ensures (facts k.memory.tables) (are_chains k c.self.invariant (sound_of c.self.inside c.args.self.now c.self.view_is c.requires.sound)))
