use Rattle.takeover.proofs.Prelude.{◌≡◌, List, ℕ, ◌++◌, length, take, drop, sym, ◌∙◌, ap, arith, length-take, take_at, data_count, Request, command_of}
use Rattle.takeover.proofs.Applying.{done_by}
use Rattle.takeover.proofs.replay.do_accepted.Goals as goal

pub returns-clause-done : goal.returns-clause-done
returns-clause-done c number command lawful read accepts =
    let r = c.args.logged.now.head.command in
    let room = c.args.room.now in
    let n = c.data_sectors-count.result in
    let count : n ≡ data_count r = c.data_sectors-count.ensures in
    let long : length command.sectors ≡ n = lawful.count ∙ sym (ap (λ (q : Request). data_count q) read.request) ∙ sym count in
    let text = c.sectors.ensures.text number command lawful read in
    let front : length (take n room) ≡ n = omega (arith, length-take n room, c.requires.room, text.1, c.sectors.ensures.few, long) in
    let copied : c.copy_sectors.new.into ≡ command.sectors = c.copy_sectors.ensures command.sectors (long ∙ sym front) lawful.sectors text.0 in
    let passed : List (List ℕ) = take n (c.copy_sectors.new.into ++ drop n room) in
    let is : passed ≡ command.sectors = take_at c.copy_sectors.new.into (drop n room) n (ap length copied ∙ long) ∙ copied in
    let it : command_of r passed ≡ command = λ k. record { request = read.request k; sectors = is k } in
    done_by c.args.memory.now c.prepare.new.self c.apply.new.self command r passed c.kept.ensures c.kept-2.ensures c.prepare.ensures.room c.prepare.ensures.rest accepts c.prepare.ensures.reads
    c.apply.ensures.reads c.apply.ensures.patches c.apply.ensures.segments c.apply.ensures.next c.apply.ensures.segment_ids c.apply.ensures.room c.requires.lawful it
