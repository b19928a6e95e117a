use Rattle.array_core.proofs.Prelude.{rules, ◌≡◌, ◌∙◌, inl, inr, ◌+◌, ◌-◌, ◌^◌, ◌<◌, ◌∷◌, [], List, Bool, arith, sym, ap, subst, nvram, Disk, BootRecord, geometry_of, LeavesOnly, Continues, then_run, ran_more, ran_then, DroppedFailed, drives_of, Content, IsOpen, array_of, in_cut, LeavesFewer, DropsFailedBy, IsKeptAt, AreLost, MaySwitch}
use Rattle.register.proofs.Rounds.{cut_drives}
use Rattle.array_core.proofs.Behind.{segments_left}
use Rattle.array_core.proofs.Changes.{kept_tables, later_tables, tables_fewer, unlost_of, when_err}
use Rattle.array_core.proofs.Holders.{drives_failed, is_drive, named_left, none_joins_tables, slots_of_more}
use Rattle.array_core.proofs.Stages.{left_among, left_dropped, left_unlost}
use Rattle.array_core.proofs.Whole.{HasLeft, both_dropped, none_left, none_stored, open_b, open_then, plan, tables_run}
use Rattle.array_core.proofs.merging.switch_tables.Given as given
use Rattle.array_core.proofs.merging.switch_tables.Goals as goal
use Rattle.array_core.proofs.merging.switch_tables.Goals.{After-store_tables}

-- ---- no record could be stored without the drives that were lost

pub returns-in_err-leave_lost-clause-left : goal.returns-in_err-leave_lost-clause-left
returns-in_err-leave_lost-clause-left g c =
    let x = c.leave_lost.ensures.left in
    record { of_shelf = x.of_shelf; few = omega (arith, x.few); fewer = x.fewer; fewer_logs = λ n m. m }

pub returns-in_err-leave_lost-clause-record : goal.returns-in_err-leave_lost-clause-record
returns-in_err-leave_lost-clause-record g c = record { kept = inl c.leave_lost.ensures.record.later; changed = search rules }

pub returns-in_err-leave_lost-clause-faults : goal.returns-in_err-leave_lost-clause-faults
returns-in_err-leave_lost-clause-faults g c start on are =
    let s = g.S.Shelf.shelf start in
    let a = g.S.Shelf.shelf c.args.shelf.now in
    let b = g.S.Shelf.shelf c.leave_lost.new.shelf in
    let r0 = c.args.register.now in
    let r1 = c.leave_lost.new.register in
    let x = c.leave_lost.ensures in
    let low : r1.record.generation + 1 < 2 ^ 48 = omega (arith, x.left.few, c.requires.not_spent) in
    let dropped = left_dropped s a b on x.ran.on.continues r0 r1 c.args.lost.now are x.dropped in
    record {
      holders = drives_failed s b r0 r1 c.args.log.now.members dropped (left_unlost s a b r0 r1 c.args.lost.now are x.dropped (left_among (ap (λ (k : BootRecord). k.slots) x.record.later.rest) x.left))
          (λ n. ap (λ (k : Disk). k.write_faults) (x.ran.on.others (nvram n) (λ v. v)) ∙ are.logs n);
      drives = dropped;
      lost = when_err c.from_residual.result (inr (none_left s a b on x.ran.on.continues r0 r1 c.args.lost.now are x.dropped x.record.later low c.in_err-leave_lost.field-0.0 c.in_err-leave_lost.ensures.fault));
    }

pub returns-in_err-leave_lost-clause-stays : goal.returns-in_err-leave_lost-clause-stays
returns-in_err-leave_lost-clause-stays g c h start held next may = record {
  opens = search rules;
  any_moment = c.leave_lost.ensures.any_moment h start held (subst (λ (l : List Bool). IsOpen (g.S.Shelf.shelf start) c.args.register.now l held) (sym c.members.ensures) may.was.is_open) may.wrote;
}

-- ---- a record of the tables was stored, or could not be

left : (g : given.Over) (c : After-store_tables g) → LeavesFewer (geometry_of (g.S.Shelf.shelf c.store_tables.new.shelf)) c.args.lost.now 6 c.args.register.now c.store_tables.new.self c.args.log.now.members c.args.log.now.members
left g c = tables_fewer c.leave_lost.ensures.left c.store_tables.ensures.left c.store_tables.ensures.made.few

-- drives that were lost were left
has_left : (g : given.Over) (c : After-store_tables g) → (g.S.Shelf.shelf c.args.shelf.now).honest → (start : g.row.S.Denot) (held next : Content)
    → MaySwitch (g.S.Shelf.shelf start) (g.S.Shelf.shelf c.args.shelf.now) c.args.register.now c.args.log.now c.args.lost.now c.args.tables held next
    → HasLeft (g.S.Shelf.shelf start) (g.S.Shelf.shelf c.args.shelf.now) (g.S.Shelf.shelf c.leave_lost.new.shelf) c.args.register.now c.leave_lost.new.register c.args.log.now c.args.lost.now c.args.tables held next
has_left g c h start held next may =
    let x = c.leave_lost.ensures in
    let o : IsOpen (g.S.Shelf.shelf start) c.args.register.now c.members.result held = subst (λ (l : List Bool). IsOpen (g.S.Shelf.shelf start) c.args.register.now l held) (sym c.members.ensures) may.was.is_open in
    record {
      is = g.met.S.Shelf.is_shelf c.leave_lost.new.shelf;
      honest = h;
      runs = x.ran.on;
      is_of = c.requires.is_of;
      lawful = c.requires.lawful;
      may = may;
      later = x.record.later;
      fewer = x.left.fewer;
      left = x.dropped;
      is_open = subst (λ (l : List Bool). IsOpen (g.S.Shelf.shelf c.leave_lost.new.shelf) c.leave_lost.new.register l held) c.members.ensures (c.in_ok-leave_lost.ensures.held h start held o may.wrote);
    }

low : (g : given.Over) (c : After-store_tables g) → c.store_tables.new.self.record.generation < 2 ^ 48 - 8
low g c = omega (arith, c.leave_lost.ensures.left.few, c.store_tables.ensures.made.few, c.requires.not_spent)

moments : (g : given.Over) (c : After-store_tables g) → (g.S.Shelf.shelf c.args.shelf.now).honest → (start : g.row.S.Denot) (held next : Content)
    → MaySwitch (g.S.Shelf.shelf start) (g.S.Shelf.shelf c.args.shelf.now) c.args.register.now c.args.log.now c.args.lost.now c.args.tables held next
    → LeavesOnly (g.S.Shelf.shelf c.args.shelf.now) (g.S.Shelf.shelf c.store_tables.new.shelf) (IsKeptAt (g.S.Shelf.shelf start) c.args.register.now.record (array_of held ∷ []))
moments g c h start held next may =
    let s = g.S.Shelf.shelf start in
    let a = g.S.Shelf.shelf c.args.shelf.now in
    let b = g.S.Shelf.shelf c.leave_lost.new.shelf in
    let r0 = c.args.register.now in
    let r1 = c.leave_lost.new.register in
    let log = c.args.log.now in
    let lost = c.args.lost.now in
    let tables = c.args.tables in
    let x = c.leave_lost.ensures in
    let y = c.store_tables.ensures in
    let hb = x.ran.on.continues.honest h in
    let p = has_left g c h start held next may in
    let ob = open_b s a b r0 r1 log lost tables held next p in
    let pl = plan s a b r0 r1 log lost tables held next p in
    then_run x.ran.on.continues (x.any_moment h start held (subst (λ (l : List Bool). IsOpen s r0 l held) (sym c.members.ensures) may.was.is_open) may.wrote)
    (tables_run s a b r0 r1 log lost tables held next p (g.S.Shelf.shelf c.store_tables.new.shelf) (y.ran.on.writes hb) (y.any_moment hb (low g c) held next ob pl) (y.gives hb (low g c) held next ob pl))

dropped : (g : given.Over) (c : After-store_tables g) → (start : g.row.S.Denot) → Continues (g.S.Shelf.shelf start) (g.S.Shelf.shelf c.args.shelf.now) → AreLost (g.S.Shelf.shelf start) (g.S.Shelf.shelf c.args.shelf.now) c.args.register.now c.args.lost.now
    → DroppedFailed (g.S.Shelf.shelf start) (g.S.Shelf.shelf c.store_tables.new.shelf) (drives_of c.args.register.now) (drives_of c.store_tables.new.self)
dropped g c start on are =
    let x = c.leave_lost.ensures in
    both_dropped (g.S.Shelf.shelf start) (g.S.Shelf.shelf c.args.shelf.now) (g.S.Shelf.shelf c.leave_lost.new.shelf) (g.S.Shelf.shelf c.store_tables.new.shelf) on x.ran.on.continues c.store_tables.ensures.ran.on.continues
    c.args.register.now c.leave_lost.new.register c.store_tables.new.self c.args.lost.now are x.dropped c.store_tables.ensures.left.dropped

-- drives that were lost before or meanwhile are left, and on no other device a write failed
holders : (g : given.Over) (c : After-store_tables g) → (start : g.row.S.Denot) → Continues (g.S.Shelf.shelf start) (g.S.Shelf.shelf c.args.shelf.now) → AreLost (g.S.Shelf.shelf start) (g.S.Shelf.shelf c.args.shelf.now) c.args.register.now c.args.lost.now
    → DropsFailedBy (g.S.Shelf.shelf start) (g.S.Shelf.shelf c.store_tables.new.shelf) c.args.register.now c.args.log.now.members c.store_tables.new.self c.args.log.now.members
holders g c start on are =
    let r1 = c.leave_lost.new.register in
    let r2 = c.store_tables.new.self in
    let x = c.leave_lost.ensures in
    let y = c.store_tables.ensures in
    drives_failed (g.S.Shelf.shelf start) (g.S.Shelf.shelf c.store_tables.new.shelf) c.args.register.now r2 c.args.log.now.members (dropped g c start on are)
    (λ i m. unlost_of y.left i m ∙ left_unlost (g.S.Shelf.shelf start) (g.S.Shelf.shelf c.args.shelf.now) (g.S.Shelf.shelf c.leave_lost.new.shelf) c.args.register.now r1 c.args.lost.now are x.dropped
    (left_among (ap (λ (k : BootRecord). k.slots) x.record.later.rest) x.left) i (cut_drives _ r1 x.left.of_shelf i (y.left.fewer i (in_cut r2.drives r2.record.slots i m))))
    (λ n. ap (λ (k : Disk). k.write_faults) (y.ran.on.others (nvram n) (λ v. v) ∙ x.ran.on.others (nvram n) (λ v. v)) ∙ are.logs n)

-- ---- it could not be

pub returns-in_err-store_tables-clause-ran : goal.returns-in_err-store_tables-clause-ran
returns-in_err-store_tables-clause-ran g c =
    let r1 = c.leave_lost.new.register in
    let x = c.leave_lost.ensures in
    ran_then g.met.S.Shelf.shelf_rest_stays x.ran (ran_more (is_drive (drives_of r1)) (slots_of_more c.args.register.now r1 (ap (λ (k : BootRecord). k.slots) x.record.later.rest) (λ k m. (x.left.fewer k m).0)) c.store_tables.ensures.ran)

pub returns-in_err-store_tables-clause-left : goal.returns-in_err-store_tables-clause-left
returns-in_err-store_tables-clause-left g c = left g (goal.at.returns-in_err-store_tables-clause-left g c).After-store_tables

pub returns-in_err-store_tables-clause-record : goal.returns-in_err-store_tables-clause-record
returns-in_err-store_tables-clause-record g c = record { kept = kept_tables c.leave_lost.new.register c.store_tables.new.self c.args.tables c.leave_lost.ensures.record.later c.in_err-store_tables.ensures.made.kept; changed = search rules }

pub returns-in_err-store_tables-clause-faults : goal.returns-in_err-store_tables-clause-faults
returns-in_err-store_tables-clause-faults g c start on are =
    let s = g.S.Shelf.shelf start in
    let e = g.S.Shelf.shelf c.store_tables.new.shelf in
    let r0 = c.args.register.now in
    let r1 = c.leave_lost.new.register in
    let r2 = c.store_tables.new.self in
    let x = c.leave_lost.ensures in
    let y = c.store_tables.ensures in
    let low : r2.record.generation + 1 < 2 ^ 48 = omega (arith, x.left.few, y.made.few, c.requires.not_spent) in
    let k = (goal.at.returns-in_err-store_tables-clause-faults g c).After-store_tables in
    let all = dropped g k start on are in
    record {
      holders = holders g k start on are;
      drives = all;
      lost = when_err c.from_residual-in_err-store_tables.result
          (inr (none_stored s (g.S.Shelf.shelf c.args.shelf.now) (g.S.Shelf.shelf c.leave_lost.new.shelf) e on x.ran.on.continues y.ran.on.continues r0 r1 r2 c.args.lost.now c.args.tables are x.dropped y.left.dropped x.record.later
          c.in_err-store_tables.ensures.made.kept low c.in_err-store_tables.field-0.0 c.in_err-store_tables.ensures.made.fault));
    }

pub returns-in_err-store_tables-clause-stays : goal.returns-in_err-store_tables-clause-stays
returns-in_err-store_tables-clause-stays g c h start held next may = record { opens = search rules; any_moment = moments g (goal.at.returns-in_err-store_tables-clause-stays g c).After-store_tables h start held next may }

-- ---- it was

pub returns-clause-ran : goal.returns-clause-ran
returns-clause-ran g c =
    let r1 = c.leave_lost.new.register in
    let x = c.leave_lost.ensures in
    ran_then g.met.S.Shelf.shelf_rest_stays x.ran (ran_more (is_drive (drives_of r1)) (slots_of_more c.args.register.now r1 (ap (λ (k : BootRecord). k.slots) x.record.later.rest) (λ k m. (x.left.fewer k m).0)) c.store_tables.ensures.ran)

pub returns-clause-left : goal.returns-clause-left
returns-clause-left g c = left g (goal.at.returns-clause-left g c).After-store_tables

pub returns-clause-record : goal.returns-clause-record
returns-clause-record g c =
    let r0 = c.args.register.now in
    let r1 = c.leave_lost.new.register in
    let r2 = c.store_tables.new.self in
    let members = c.args.log.now.members in
    let x = c.leave_lost.ensures in
    let y = c.in_ok-store_tables.ensures in
    let slots : r2.record.slots ≡ r0.record.slots = ap (λ (k : BootRecord). k.slots) y.made.stored.rest ∙ ap (λ (k : BootRecord). k.slots) x.record.later.rest in
    let later = later_tables c.args.tables x.record.later y.made.stored in
    record {
      kept = inr later;
      changed = record {
        later = later;
        rises = omega (arith, x.record.later.generation, y.made.generation.0);
        drives = y.made.members.0;
        enough = y.made.enough;
        joins = none_joins_tables _ r0 r1 r2 members c.requires.is_of (λ k m. (x.left.fewer k m).0) y.left.fewer slots (named_left r0 r1 c.members.result members c.members.ensures c.in_ok-leave_lost.ensures.record.named)
            (subst (λ (l : List Bool). r0.record.members.nvrams ≡ l → r1.record.members.nvrams ≡ l) c.members.ensures c.in_ok-leave_lost.ensures.record.nvrams) y.made.members y.made.enough;
        segments = segments_left (g.S.Shelf.shelf c.args.shelf.now) (g.S.Shelf.shelf c.store_tables.new.shelf) r0 r2 members members c.args.lost.now (ran_more (λ d is. is) (λ d i w. inl w) (returns-clause-ran g c)).on
            (returns-clause-left g c) slots y.made.members.0 y.made.enough;
      };
    }

pub returns-clause-faults : goal.returns-clause-faults
returns-clause-faults g c start on are =
    let k = (goal.at.returns-clause-faults g c).After-store_tables in
    record { holders = holders g k start on are; drives = dropped g k start on are; lost = tt }

pub returns-clause-stays : goal.returns-clause-stays
returns-clause-stays g c h start held next may =
    let s = g.S.Shelf.shelf start in
    let a = g.S.Shelf.shelf c.args.shelf.now in
    let b = g.S.Shelf.shelf c.leave_lost.new.shelf in
    let r0 = c.args.register.now in
    let r1 = c.leave_lost.new.register in
    let log = c.args.log.now in
    let lost = c.args.lost.now in
    let tables = c.args.tables in
    let k = (goal.at.returns-clause-stays g c).After-store_tables in
    let y = c.in_ok-store_tables.ensures in
    let p = has_left g k h start held next may in
    record {
      opens = open_then s a b r0 r1 log lost tables held next p (g.S.Shelf.shelf c.store_tables.new.shelf) c.store_tables.new.self (λ n. y.ran.on.others (nvram n) (λ v. v))
          (y.held (c.leave_lost.ensures.ran.on.continues.honest h) (low g k) held next (open_b s a b r0 r1 log lost tables held next p) (plan s a b r0 r1 log lost tables held next p));
      any_moment = moments g k h start held next may;
    }
