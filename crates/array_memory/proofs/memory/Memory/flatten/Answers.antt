use Rattle.array_memory.proofs.Prelude.{cut_fits, flattened_as, given_next}
use Rattle.array_memory.proofs.memory.Memory.flatten.Goals as goal

pub give-requires-clause-next : goal.give-requires-clause-next
give-requires-clause-next c = given_next c.args.self.now.memory c.args.range.now c.args.until c.args.given.now c.requires.sound c.requires.may

pub cut-requires-clause-fits : goal.cut-requires-clause-fits
cut-requires-clause-fits c = cut_fits c.args.self.now.memory c.args.range.now c.args.until c.requires.sound c.requires.may.there c.requires.may.some c.requires.may.within

pub returns-clause-flattened : goal.returns-clause-flattened
returns-clause-flattened c =
    flattened_as c.args.self.now c.give.new.self c.cut.new.self c.args.range.now c.args.until c.args.given.now c.give.ensures.rest c.give.ensures.addresses c.cut.ensures.rest c.cut.ensures.mediums

pub returns-clause-reads : goal.returns-clause-reads
returns-clause-reads c = λ contents array reads.
    let done = flattened_as c.args.self.now c.give.new.self c.cut.new.self c.args.range.now c.args.until c.args.given.now c.give.ensures.rest c.give.ensures.addresses c.cut.ensures.rest c.cut.ensures.mediums in
    c.laws_of_flattening.ensures.reads contents c.args.self.now.memory c.cut.new.self.memory c.args.range.now c.args.until c.args.given.now array reads c.requires.may done

pub returns-clause-sound : goal.returns-clause-sound
returns-clause-sound c =
    c.laws_of_flattening.ensures.sound c.args.self.now.memory c.cut.new.self.memory c.args.range.now c.args.until c.args.given.now c.requires.sound c.requires.may
    (flattened_as c.args.self.now c.give.new.self c.cut.new.self c.args.range.now c.args.until c.args.given.now c.give.ensures.rest c.give.ensures.addresses c.cut.ensures.rest c.cut.ensures.mediums)
