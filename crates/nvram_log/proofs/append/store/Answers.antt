use Rattle.nvram_log.proofs.Prelude.{◌≡◌, ◌+◌, ◌*◌, ◌≤◌, ℕ, List, length, take, sym, ◌∙◌, ap, arith, length-take, nvram, then_run, weaker, ran_then, ran_more, Command, Spells, slot_bytes}
use Rattle.nvram_log.proofs.Along.{front_of}
use Rattle.nvram_log.proofs.Storing.{first_phase, second_phase, end_log, range_of_members, fewer_members}
use Rattle.nvram_log.proofs.Losing.{loses_each, loses_then}
use Rattle.nvram_log.proofs.append.store.Goals as goal

-- what is written is the text of the command
written_text : (slot : List ℕ) (n number : ℕ) (c : Command) → length c.sectors ≡ n → Spells slot number c → take (512 * (1 + n)) slot ≡ slot_bytes number c
written_text slot n number c is spells = ap (λ (k : ℕ). take (512 * (1 + k)) slot) (sym is) ∙ front_of slot number c spells

few : (slot : List ℕ) (n : ℕ) → n ≤ 64 → length (take (512 * (1 + n)) slot) ≤ 33280
few slot n le = omega (arith, length-take (512 * (1 + n)) slot, le)

pub returns-clause-ran : goal.returns-clause-ran
returns-clause-ran g c =
    let members = c.args.members.now in
    let left = c.write_members.new.members in
    let before = (loses_each (g.S.Shelf.shelf c.args.shelf.now) (g.S.Shelf.shelf c.write_members.new.shelf) members left (omega arith) c.write_members.ensures.outcome).fewer in
    ran_then g.met.S.Shelf.shelf_rest_stays (ran_more (λ d is. is) (range_of_members members members _ _ (λ n is. is)) c.write_members.ensures.ran)
    (ran_more (fewer_members members left before) (range_of_members members left c.args.first _ before) c.write_gates.ensures.ran)

pub returns-clause-members : goal.returns-clause-members
returns-clause-members g c =
    loses_then c.write_members.ensures.ran.on.continues c.write_gates.ensures.ran.on.continues
    (loses_each _ _ c.args.members.now c.write_members.new.members (omega arith) c.write_members.ensures.outcome)
    (loses_each _ _ c.write_members.new.members c.write_gates.new.members (omega arith) c.write_gates.ensures.outcome)

pub returns-clause-holds : goal.returns-clause-holds
returns-clause-holds g c h flushed commands d count sectors spells holds =
    let a = g.S.Shelf.shelf c.args.shelf.now in
    let m = g.S.Shelf.shelf c.write_members.new.shelf in
    let slot = c.args.slot.now in
    let x = c.write_members.ensures in
    let y = c.write_gates.ensures in
    record {
      log = λ n lt is.
          let o = y.outcome n lt in
          end_log a m c.args.members.now c.write_members.new.members _ flushed c.args.first commands d (g.met.S.Shelf.is_shelf c.args.shelf.now) h count c.requires.room (few slot c.args.sectors c.requires.sectors) spells.lawful (written_text slot c.args.sectors _ d sectors spells) holds (x.ran.on.writes h) x.outcome
          n lt (o.before is) ((g.S.Shelf.shelf c.write_gates.new.shelf).disk (nvram n)) (o.written (x.ran.on.continues.honest h) is);
      clean = λ n lt is. (y.outcome n lt).clean (x.ran.on.continues.honest h) is;
    }

pub returns-clause-any_moment : goal.returns-clause-any_moment
returns-clause-any_moment g c h flushed commands d count sectors spells holds =
    let a = g.S.Shelf.shelf c.args.shelf.now in
    let m = g.S.Shelf.shelf c.write_members.new.shelf in
    let slot = c.args.slot.now in
    let x = c.write_members.ensures in
    let long = few slot c.args.sectors c.requires.sectors in
    let text = written_text slot c.args.sectors _ d sectors spells in
    then_run x.ran.on.continues
    (weaker (first_phase a m c.args.members.now c.write_members.new.members _ flushed c.args.first commands d (g.met.S.Shelf.is_shelf c.args.shelf.now) h count c.requires.room long spells.lawful text holds (x.ran.on.writes h) x.outcome) (x.ran.on.writes h).any_moment)
    (weaker (second_phase a m c.args.members.now c.write_members.new.members _ flushed c.args.first commands d (g.met.S.Shelf.is_shelf c.args.shelf.now) h count c.requires.room long spells.lawful text holds (x.ran.on.writes h) x.outcome)
    (c.write_gates.ensures.ran.on.writes (x.ran.on.continues.honest h)).any_moment)
