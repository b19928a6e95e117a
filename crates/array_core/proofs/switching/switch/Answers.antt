use Rattle.array_core.proofs.Prelude.{rules, ◌≡◌, ◌∙◌, inl, arith, ap, subst, [], ◌∷◌, Array, BootRecord, LeavesOnly, continues_trans, then_run, ran_more, ran_then, array_of, IsKeptAt}
use Rattle.register.proofs.Tabling.{same_array}
use Rattle.array_core.proofs.Behind.{segments_left}
use Rattle.array_core.proofs.Changes.{changed_then, faults_on, faults_then, fewer_then, kept_then}
use Rattle.array_core.proofs.Holders.{all_of_more, fewer_hold}
use Rattle.array_core.proofs.Keeping.{run_since}
use Rattle.array_core.proofs.Stages.{came_after}
use Rattle.array_core.proofs.Whole.{log_is_done}
use Rattle.array_core.proofs.switching.switch.Given as given
use Rattle.array_core.proofs.switching.switch.Goals as goal

-- ---- the tables could not be stored

pub returns-in_err-switch_tables-clause-ran : goal.returns-in_err-switch_tables-clause-ran
returns-in_err-switch_tables-clause-ran g c = ran_more (λ d is. tt) (λ d i w. inl w) c.switch_tables.ensures.ran

pub returns-in_err-switch_tables-clause-faults : goal.returns-in_err-switch_tables-clause-faults
returns-in_err-switch_tables-clause-faults g c start on are = faults_on c.from_residual.result (c.in_err-switch_tables.ensures.faults start on are)

pub returns-in_err-switch_tables-clause-stays : goal.returns-in_err-switch_tables-clause-stays
returns-in_err-switch_tables-clause-stays g c h start held next may = record { opens = search rules; any_moment = (c.switch_tables.ensures.stays h start held next may).any_moment }

-- ---- the log was cleared, or could not be

slots_are : (g : given.Over) (c : goal.After-clear_log g) → c.switch_tables.new.register.record.slots ≡ c.args.register.now.record.slots
slots_are g c = ap (λ (k : BootRecord). k.slots) c.in_ok-switch_tables.ensures.record.changed.later.rest

pub returns-clause-ran : goal.returns-clause-ran
returns-clause-ran g c =
    let r0 = c.args.register.now in
    let r2 = c.switch_tables.new.register in
    let x = c.switch_tables.ensures in
    ran_then g.met.S.Shelf.shelf_rest_stays (ran_more (λ d is. tt) (λ d i w. inl w) x.ran)
    (ran_more (λ d is. is) (all_of_more r0 r2 c.args.log.now.members (slots_are g c) (λ k m. (x.left.fewer k m).0)) c.clear_log.ensures.ran)

pub returns-clause-left : goal.returns-clause-left
returns-clause-left g c = fewer_then c.switch_tables.ensures.left c.clear_log.ensures.left

pub returns-clause-record : goal.returns-clause-record
returns-clause-record g c =
    let r0 = c.args.register.now in
    let r3 = c.clear_log.new.register in
    let members = c.args.log.now.members in
    let left = c.clear_log.new.log.members in
    let x = c.in_ok-switch_tables.ensures.record.changed in
    let z = c.clear_log.ensures in
    record {
      kept = kept_then c.switch_tables.ensures.record.kept z.record.later;
      changed = changed_then (g.S.Shelf.shelf c.clear_log.new.shelf) r0 c.switch_tables.new.register r3 members left x z.left c.clear_log.result z.record
          (segments_left (g.S.Shelf.shelf c.args.shelf.now) (g.S.Shelf.shelf c.clear_log.new.shelf) r0 r3 members left c.args.lost.now (returns-clause-ran g c).on (returns-clause-left g c) (ap (λ (k : BootRecord). k.slots) z.record.later.rest ∙ slots_are g c));
    }

pub returns-clause-faults : goal.returns-clause-faults
returns-clause-faults g c start on are =
    let x = c.switch_tables.ensures in
    let z = c.clear_log.ensures in
    faults_then (g.S.Shelf.shelf start) (g.S.Shelf.shelf c.switch_tables.new.shelf) (g.S.Shelf.shelf c.clear_log.new.shelf) (continues_trans on x.ran.on.continues) z.ran.on.continues
    c.args.register.now c.switch_tables.new.register c.clear_log.new.register c.args.log.now.members c.clear_log.new.log.members (slots_are g c)
    (fewer_hold c.switch_tables.new.register c.clear_log.new.register c.args.log.now.members c.clear_log.new.log.members (ap (λ (k : BootRecord). k.slots) z.record.later.rest) (λ i m. (z.left.fewer i m).0) z.left.fewer_logs)
    c.switch_tables.result c.clear_log.result (x.faults start on are) z.faults

pub returns-clause-stays : goal.returns-clause-stays
returns-clause-stays g c h start held next may =
    let s = g.S.Shelf.shelf start in
    let e = g.S.Shelf.shelf c.switch_tables.new.shelf in
    let n = g.S.Shelf.shelf c.clear_log.new.shelf in
    let r0 = c.args.register.now in
    let r2 = c.switch_tables.new.register in
    let log = c.args.log.now in
    let x = c.switch_tables.ensures in
    let z = c.clear_log.ensures in
    let he = x.ran.on.continues.honest h in
    let on_e = continues_trans may.wrote.free.continues x.ran.on.continues in
    let then = x.stays h start held next may in
    let opened = (c.in_ok-switch_tables.ensures.stays h start held next may).opens in
    let after = came_after s e r0 r2 log.members held next may.was.is_open opened.is_open (λ i m. (x.left.fewer i m).0) (x.faults start may.wrote.free.continues may.wrote.cause).drives in
    let cleared = z.stays he next held.log (record {
      is_open = opened;
      keeps = may.was.keeps;
      empty = log_is_done r0 c.args.tables held next may.hold.keeps (omega (arith, c.requires.counted, may.was.keeps.count));
    }) in
    record {
      opens = cleared.opens;
      any_moment = then_run x.ran.on.continues then.any_moment
          (run_since s e n on_e r0.record r2.record after (array_of held ∷ []) (z.ran.on.writes he)
          (subst (λ (y : Array). LeavesOnly e n (IsKeptAt e r2.record (y ∷ []))) (same_array r0 c.args.tables held next may.hold.keeps) cleared.any_moment));
    }
