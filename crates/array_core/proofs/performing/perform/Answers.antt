use Rattle.array_core.proofs.Prelude.{◌≡◌, ◌∙◌, ◌≤◌, ℕ, List, [], ◌∷◌, Result, OnErr, sym, ap, subst, AllZip, Command, Accepts, after, Geometry, segment, AddressFact, AnyFact, BootRecord, AreSegmentsSound, geometry_of, runs_moments, facts_of, Contents, IsSound, ReadsAs, HasSameSegmentIds, next_after, facts, patches, IsNamed, Content, array_of, AreStored, HasSamePatches, Kept, accepted, IsReady, logged, HasRoomFor, Background, MayLog, by_faults, Calls, GoesOnMeanwhile, Halts}
use Rattle.std.proofs.lemmas.Result.{err_from_is_err_and}
use Rattle.pur_base.specs.Plain as plain
use Rattle.array_core.specs.declared.array.TheConstants.{BACKGROUND_FACTS, BACKGROUND_STAGED}
use Rattle.array_core.specs.declared.performing.PerformFault.{PerformFault}
use Rattle.array_core.proofs.Applied.{room_for_next, segments_sound, same_patches}
use Rattle.array_core.proofs.Commands.{accept_last, after_last}
use Rattle.array_core.proofs.Steps.{command_meanwhile, hands, lost_halts}
use Rattle.array_core.proofs.performing.perform.Given as given
use Rattle.array_core.proofs.performing.perform.Goals as goal
use Rattle.array_core.proofs.performing.perform.Goals.{After-commit}
use Rattle.register.proofs.Rounds.{same_shelf}

-- what is said of segments, by memory as it was before the call
same_segments_since : (was mid now : Kept) → mid ≡ was → ((id : ℕ) → segment (facts now.memory.tables) id ≡ segment (facts mid.memory.tables) id) → (id : ℕ) → segment (facts now.memory.tables) id ≡ segment (facts was.memory.tables) id
same_segments_since was mid now e same id = same id ∙ ap (λ (k : Kept). segment (facts k.memory.tables) id) e

-- the command may be logged
may_log : (g : given.Over) (c : After-commit g) (held : Content) → IsReady (g.S.Shelf.shelf c.args.shelf.now) c.args.array.now held → MayLog (g.S.Shelf.shelf c.args.shelf.now) c.args.array.now held (record { request = c.args.request.now; sectors = c.args.sectors.now })
may_log g c held ready =
    let cmd : Command = record { request = c.args.request.now; sectors = c.args.sectors.now } in
    let fine : Accepts (array_of held) cmd = accepted ready.contents c.args.array.now.memory (array_of held) c.kept.ensures ready.reads c.args.request.now c.args.sectors.now c.requires.allowed in
    record {
      is_open = record { is_open = ready.is_open; held_log = ready.held_log };
      keeps = ready.keeps;
      accepted = accept_last held.base held.log cmd ready.is_open.logged.accepted fine;
    }

ran : (g : given.Over) (c : After-commit g) → Calls (g.S.Shelf.shelf c.args.shelf.now) (g.S.Shelf.shelf c.commit.new.shelf)
ran g c = record { continues = c.commit.ensures.ran.on.continues; counted = runs_moments c.commit.ensures.ran.on }

meanwhile : (g : given.Over) (c : After-commit g) → GoesOnMeanwhile by_faults (g.S.Shelf.shelf c.args.shelf.now) (g.S.Shelf.shelf c.commit.new.shelf) c.args.array.now (record { request = c.args.request.now; sectors = c.args.sectors.now } ∷ [])
meanwhile g c = command_meanwhile (g.S.Shelf.shelf c.args.shelf.now) (g.S.Shelf.shelf c.commit.new.shelf) c.args.array.now (record { request = c.args.request.now; sectors = c.args.sectors.now })
    (λ h held ready. (c.commit.ensures.stays h held (may_log g c held ready)).any_moment)

pub returns-in_err-commit-clause-halts : goal.returns-in_err-commit-clause-halts
returns-in_err-commit-clause-halts g c =
    let old = g.S.Shelf.shelf c.args.shelf.now in
    let new = g.S.Shelf.shelf c.commit.new.shelf in
    let was = c.args.array.now in
    let cmd : Command = record { request = c.args.request.now; sectors = c.args.sectors.now } in
    let q = err_from_is_err_and c.from_residual.result c.from_residual.ensures.1 in
    let k = (goal.at.returns-in_err-commit-clause-halts g c).After-commit in
    subst (λ (t : Result (Unit {0}) PerformFault). OnErr t (Halts by_faults old new was (cmd ∷ []))) (sym q.1)
    (lost_halts old new was (cmd ∷ []) (ran g k) c.requires.is_of c.in_err-commit.ensures.faults.lost (meanwhile g k))

pub returns-clause-goes : goal.returns-clause-goes
returns-clause-goes g c =
    let old = g.S.Shelf.shelf c.args.shelf.now in
    let new = g.S.Shelf.shelf c.commit.new.shelf in
    let was = c.args.array.now in
    let now = c.commit.new.array in
    let of = c.requires.is_of in
    let k = (goal.at.returns-clause-goes g c).After-commit in
    let x = c.commit.ensures.unapplied in
    let w = c.in_ok-commit.ensures.appended in
    let y = c.apply.ensures in
    let cmd : Command = record { request = c.args.request.now; sectors = c.args.sectors.now } in
    let fine : (contents : Contents) (z : plain.Array) → ReadsAs contents was.memory.memory z → Accepts z cmd =
    λ contents z reads. accepted contents was.memory z c.kept.ensures reads c.args.request.now c.args.sectors.now c.requires.allowed in
    let same = same_segments_since was.memory now.memory c.apply.new.memory x.memory y.segments in
    let patches_are : patches c.apply.new.memory.memory.tables ≡ patches was.memory.memory.tables =
    same_patches now.memory.memory.tables c.apply.new.memory.memory.tables y.done.patches ∙ ap (λ (k : Kept). patches k.memory.tables) c.commit.ensures.unapplied.memory in
    let addresses : c.apply.new.memory.memory.tables.addresses.patches ≡ was.memory.memory.tables.addresses.patches =
    y.done.patches.addresses ∙ ap (λ (k : Kept). k.memory.tables.addresses.patches) c.commit.ensures.unapplied.memory in
    let stored : AreStored (facts_of was.memory.memory.tables.addresses.patches) = of.stored in
    let ids = subst (λ (k : Kept). HasSameSegmentIds k.memory.next c.apply.new.memory.memory.next) c.commit.ensures.unapplied.memory y.done.segment_ids in
    let after_it : (contents : Contents) (z : plain.Array) → ReadsAs contents was.memory.memory z → ReadsAs contents c.apply.new.memory.memory (after z cmd) =
    λ contents z reads. y.reads contents z (subst (λ (k : Kept). ReadsAs contents k.memory z) (sym c.commit.ensures.unapplied.memory) reads) in
    record {
      ran = ran g k;
      is_of = record {
        of_shelf = x.of_shelf;
        flushed = x.flushed;
        some = w.some;
        sound = y.done.sound (subst (λ (k : Kept). IsSound k.memory) (sym c.commit.ensures.unapplied.memory) of.sound);
        layered = y.layered;
        stored = subst (λ (ps : List (List AddressFact)). AreStored (facts_of ps)) (sym addresses) stored;
        named = subst (λ (ps : List (List AnyFact)). AllZip IsNamed now.register.record.patches ps) (sym patches_are)
            (subst (λ (b : BootRecord). AllZip IsNamed b.patches (patches was.memory.memory.tables)) (sym x.later.rest) of.named);
        segments = subst (λ (s : Geometry). AreSegmentsSound s now.register.record (facts c.apply.new.memory.memory.tables)) (same_shelf c.commit.ensures.ran.on.continues)
            (segments_sound (geometry_of old) was.register.record now.register.record (facts was.memory.memory.tables) (facts c.apply.new.memory.memory.tables) x.later same of.segments);
        room = subst (λ (b : Background). HasRoomFor c.apply.new.memory now.log.count b) (sym x.background) (room_for_next now.memory c.apply.new.memory was.log.count now.log.count c.args.request.now was.background (subst (λ (k : Kept). HasRoomFor k was.log.count was.background) (sym c.commit.ensures.unapplied.memory) of.room)
            w.count c.requires.lawful y.done.room);
        rested = subst (λ (b : Background). (b.facts ≤ BACKGROUND_FACTS) × (b.staged ≤ BACKGROUND_STAGED)) (sym x.background) of.rested;
        segment_ids = ids.segment ∙ of.segment_ids ∙ sym (ap (λ (b : BootRecord). b.next.segment) x.later.rest);
        patch_ids = ids.patch_segment ∙ of.patch_ids ∙ sym (ap (λ (b : BootRecord). b.next.patch_segment) x.later.rest);
      };
      hands_on = hands old new was (record now { memory = c.apply.new.memory }) c.commit.ensures.faults.holders (record { holders = w.joins.holders; named = w.joins.named; names_holders = w.joins.names_holders; enough = w.joins.enough });
      accepted = λ contents z reads. (fine contents z reads, tt);
      reads = λ contents z reads. record {
        more = contents;
        reads = after_it contents z reads;
        hold = λ h hold id index d is placed. w.segments h contents hold id index d (sym (same id) ∙ is) placed;
      };
      holds = λ h z holds.
          let held = holds.held in
          let ready = holds.ready in
          let both = (c.in_ok-commit.ensures.stays h held (may_log g k held ready)).opens in
          record {
            held = logged held cmd;
            ready = record {
              is_open = both.is_open;
              held_log = both.held_log;
              keeps = w.keeps held.log ready.keeps;
              flushed = x.flushed;
              some = w.some;
              patches_are = ready.patches_are ∙ sym patches_are;
              contents = ready.contents;
              reads = subst (λ (k : plain.Array). ReadsAs ready.contents c.apply.new.memory.memory k) (sym (after_last held.base held.log cmd)) (after_it ready.contents (array_of held) ready.reads);
              hold = λ id index d is placed. w.segments h ready.contents ready.hold id index d (sym (same id) ∙ is) placed;
            };
            is = sym (after_last held.base held.log cmd ∙ ap (λ (k : plain.Array). after k cmd) (sym holds.is));
          };
      any_moment = meanwhile g k;
    }

pub returns-clause-logged : goal.returns-clause-logged
returns-clause-logged g c =
    let same = c.commit.ensures.unapplied.memory in
    record {
      count = c.in_ok-commit.ensures.appended.count;
      next = λ contents z reads. c.apply.ensures.done.next contents z (subst (λ (k : Kept). ReadsAs contents k.memory z) (sym same) reads) ∙ ap (λ (k : Kept). next_after z k.memory.next c.args.request.now) same;
      patches = subst (λ (k : Kept). HasSamePatches k.memory.tables c.apply.new.memory.memory.tables) same c.apply.ensures.done.patches;
      background = c.commit.ensures.unapplied.background;
      boot = c.in_ok-commit.ensures.appended.boot;
    }

pub returns-in_err-commit-clause-outlasts : goal.returns-in_err-commit-clause-outlasts
returns-in_err-commit-clause-outlasts g c h held ready = c.commit.ensures.outlasts h held (may_log g (goal.at.returns-in_err-commit-clause-outlasts g c).After-commit held ready)

pub returns-clause-outlasts : goal.returns-clause-outlasts
returns-clause-outlasts g c h held ready = c.commit.ensures.outlasts h held (may_log g (goal.at.returns-clause-outlasts g c).After-commit held ready)
