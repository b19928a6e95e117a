use Rattle.shelf_look.proofs.Prelude.{sym, subst, ran_more, ran_none, ran_then, Cause, IsCauseOf}
use Rattle.shelf_look.proofs.Causing.{cause_of_those, log_cause, log_of, record_cause}
use Rattle.shelf_look.proofs.Lifting.{same_then}
use Rattle.shelf_look.proofs.finding.find.Goals as goal
use Rattle.boot_region.proofs.LoadingLemmas.{if_err}

pub returns-in_err-loaded-clause-ran : goal.returns-in_err-loaded-clause-ran
returns-in_err-loaded-clause-ran g c = ran_none g.met.S.Shelf.shelf_rest_stays c.args.shelf.now (g.met.S.Shelf.is_shelf c.args.shelf.now)

pub returns-in_err-tables-clause-same : goal.returns-in_err-tables-clause-same
returns-in_err-tables-clause-same g c = c.read_tables.ensures.same

pub returns-in_err-tables-clause-ran : goal.returns-in_err-tables-clause-ran
returns-in_err-tables-clause-ran g c = c.read_tables.ensures.ran

pub returns-in_err-log-clause-same : goal.returns-in_err-log-clause-same
returns-in_err-log-clause-same g c h d = same_then (c.read_tables.ensures.same h d) (c.read.ensures.same (c.read_tables.ensures.ran.on.continues.honest h) d)

pub returns-clause-same : goal.returns-clause-same
returns-clause-same g c h d = same_then (c.read_tables.ensures.same h d) (c.read.ensures.same (c.read_tables.ensures.ran.on.continues.honest h) d)

pub returns-in_err-loaded-clause-cause : goal.returns-in_err-loaded-clause-cause
returns-in_err-loaded-clause-cause g c honest bytes answered answer =
    let a = g.S.Shelf.shelf c.args.shelf.now in
    if_err c.from_residual.result _ _ c.from_residual.ensures.1 (λ e is.
    subst (λ (x : Cause). IsCauseOf a a bytes answered x) (sym is)
    (record_cause a a bytes answered c.in_err-loaded.field-0.0 (rw c.in_err-loaded.was at answer)))

pub read_tables-requires : goal.read_tables-requires
read_tables-requires g c = record { lawful = (rw c.in_ok-loaded.was at c.requires).lawful }

pub returns-in_err-tables-clause-cause : goal.returns-in_err-tables-clause-cause
returns-in_err-tables-clause-cause g c honest bytes answered answer =
    let a = g.S.Shelf.shelf c.args.shelf.now in
    let n = g.S.Shelf.shelf c.read_tables.new.shelf in
    let given = rw c.in_ok-loaded.was at answer in
    if_err c.from_residual-in_err-tables.result _ _ c.from_residual-in_err-tables.ensures.1 (λ e is.
    subst (λ (x : Cause). IsCauseOf a n bytes answered x) (sym is)
    (cause_of_those a n bytes answered c.in_ok-loaded.loaded given c.in_err-tables.field-0.0 (c.in_err-tables.ensures.fault honest)))

pub returns-in_err-log-clause-ran : goal.returns-in_err-log-clause-ran
returns-in_err-log-clause-ran g c = ran_then g.met.S.Shelf.shelf_rest_stays c.read_tables.ensures.ran (ran_more (λ d on. tt) (λ d i w. w) c.read.ensures.ran)

pub returns-in_err-log-clause-cause : goal.returns-in_err-log-clause-cause
returns-in_err-log-clause-cause g c honest bytes answered answer =
    let a = g.S.Shelf.shelf c.args.shelf.now in
    let mid = g.S.Shelf.shelf c.read_tables.new.shelf in
    let n = g.S.Shelf.shelf c.read.new.shelf in
    let given = rw c.in_ok-loaded.was at answer in
    if_err c.from_residual-in_err-log.result _ _ c.from_residual-in_err-log.ensures.1 (λ e is.
    subst (λ (x : Cause). IsCauseOf a n bytes answered x) (sym is)
    (log_cause a mid n bytes answered c.in_ok-loaded.loaded given c.read_tables.ensures.nvrams c.in_err-log.field-0.0 c.in_err-log.ensures.err))

pub returns-clause-ran : goal.returns-clause-ran
returns-clause-ran g c = ran_then g.met.S.Shelf.shelf_rest_stays c.read_tables.ensures.ran (ran_more (λ d on. tt) (λ d i w. w) c.read.ensures.ran)

pub returns-clause-opening : goal.returns-clause-opening
returns-clause-opening g c = record {
  lawful = (rw c.in_ok-loaded.was at c.requires).lawful;
  memory = c.in_ok-tables.ensures.memory;
  waiting = c.waiting_in-waiting.ensures;
}

pub returns-clause-found : goal.returns-clause-found
returns-clause-found g c honest bytes answered answer =
    let a = g.S.Shelf.shelf c.args.shelf.now in
    let mid = g.S.Shelf.shelf c.read_tables.new.shelf in
    let n = g.S.Shelf.shelf c.read.new.shelf in
    record {
      given = rw c.in_ok-loaded.was at answer;
      tables = c.in_ok-tables.ensures.tables honest;
      visible = c.in_ok-tables.ensures.visible;
      log = log_of a mid n c.in_ok-loaded.loaded.record c.in_ok-log.log c.read_tables.ensures.ran.on.continues.honest c.read_tables.ensures.nvrams c.in_ok-log.ensures.flushed
          c.in_ok-log.ensures.members.0 c.in_ok-log.ensures.members.1 c.in_ok-log.ensures.dropped c.in_ok-log.ensures.log;
    }
