use Rattle.request_codec.proofs.Prelude.{refl, length, ap, ◌∙◌, arith, length-drop, err_from_is_err_and, asks-then, asks-on, asks-failed, asks-consumed, tells-same}
use Rattle.request_codec.proofs.DataLemmas.{more-of-sector, sector-room, left-of, behind-of, sector-cut}
use Rattle.request_codec.proofs.TakenLemmas.{totals-well, totals-limit, totals-behind}
use Rattle.request_codec.proofs.data.read_split_sector.Goals as goal

pub pieces-preserved : goal.pieces-preserved
pieces-preserved g c =
    let ready = rw c.in-Bytes.is at c.in_ok-ready.ensures.told in
    let bytes = c.in_ok-ready.ensures.bytes c.in-Bytes.is in
    let taken = c.consume.ensures.taken in
    record {
      room = sector-room c.pieces.body.items c.extend.new.body.items c.pending-pending.result.now c.min-count.result (omega arith) (rw c.len-in-pieces.ensures.value at c.min-count.ensures) c.extend.ensures;
      told = λ t.
          let told = c.pieces.invariant.told t in
          let r = ready told.0 in (
            tells-same c.consume.ensures.ended r.0,
            rw (c.extend.ensures, c.pending-pending.ensures) (more-of-sector _ c.pieces.body.items _ c.ready.new.self.pending _ c.consume.new.self.pending c.min-count.result told.1 r.1 c.consume.ensures.pending),
          );
      spent = rw taken (omega (arith, bytes.1, c.pieces.invariant.spent, ap length c.consume.ensures.pending, length-drop c.min-count.result c.ready.new.self.pending));
      total = λ t. rw taken (((rw c.in-Bytes.is at c.in_ok-ready.ensures.total) (c.pieces.invariant.told t).0).same (λ e. cc) ∙ c.pieces.invariant.total t);
      asks = asks-consumed taken c.consume.ensures.ended (asks-then g.met.S.Source.source_rest_stays c.pieces.invariant.asks c.in_ok-ready.ensures.asks);
    }

pub returns-in_err-ready-clause-asks : goal.returns-in_err-ready-clause-asks
returns-in_err-ready-clause-asks g c =
    let p = err_from_is_err_and c.from_residual.result c.from_residual.ensures.1 in rw p.1 (asks-failed (asks-then g.met.S.Source.source_rest_stays c.pieces.invariant.asks c.in_err-ready.ensures.asks))

pub returns-in_err-ready-clause-failed : goal.returns-in_err-ready-clause-failed
returns-in_err-ready-clause-failed g c =
    let p = err_from_is_err_and c.from_residual.result c.from_residual.ensures.1 in rw p.1 (λ t.
    let told = c.pieces.invariant.told t in
    let part = c.in_err-ready.ensures.failed told.0 in
    (part.0, record { rest = c.pieces.body.items; split = left-of _ c.pieces.body.items _ _ _ told.1 part.1 part.2; part = omega arith }))

pub returns-in-End-clause-told : goal.returns-in-End-clause-told
returns-in-End-clause-told g c = λ t.
    let told = c.pieces.invariant.told t in
    let none = (rw c.in-End.is at c.in_ok-ready.ensures.told) told.0 in
    (none.0, (sector-cut _ c.pieces.body.items _ told.1 none.1.0 (omega arith), none.1.1))

pub returns-in-Limit-clause-told : goal.returns-in-Limit-clause-told
returns-in-Limit-clause-told g c = λ t.
    let told = c.pieces.invariant.told t in
    let past = (rw c.in-Limit.is at c.in_ok-ready.ensures.told) told.0 in
    (past.0, (c.pieces.body.items, past.1.0, behind-of _ c.pieces.body.items _ _ told.1 past.1.1, omega arith))

pub returns-in-End-clause-asks : goal.returns-in-End-clause-asks
returns-in-End-clause-asks g c = asks-on g.met.S.Source.source_rest_stays c.pieces.invariant.asks c.in_ok-ready.ensures.asks

pub returns-in-End-clause-total : goal.returns-in-End-clause-total
returns-in-End-clause-total g c = λ t. totals-behind (c.pieces.invariant.total t) (totals-well (λ e. cc) (λ e. cc) ((rw c.in-End.is at c.in_ok-ready.ensures.total) (c.pieces.invariant.told t).0))

pub returns-in-Limit-clause-asks : goal.returns-in-Limit-clause-asks
returns-in-Limit-clause-asks g c = asks-on g.met.S.Source.source_rest_stays c.pieces.invariant.asks c.in_ok-ready.ensures.asks

pub returns-in-Limit-clause-total : goal.returns-in-Limit-clause-total
returns-in-Limit-clause-total g c = λ t. totals-behind (c.pieces.invariant.total t) (totals-limit refl refl ((rw c.in-Limit.is at c.in_ok-ready.ensures.total) (c.pieces.invariant.told t).0))

pub returns-in-End-clause-budget : goal.returns-in-End-clause-budget
returns-in-End-clause-budget g c = omega (arith, (c.in_ok-ready.ensures.end c.in-End.is).2, c.pieces.invariant.spent)

pub returns-in-Limit-clause-budget : goal.returns-in-Limit-clause-budget
returns-in-Limit-clause-budget g c = rw (c.in_ok-ready.ensures.limit c.in-Limit.is).0 c.pieces.invariant.spent

pub returns-in-End-clause-stops : goal.returns-in-End-clause-stops
returns-in-End-clause-stops g c = record { end = λ e. (c.in_ok-ready.ensures.end c.in-End.is).0; limit = λ e. absurd cc }

pub returns-in-Limit-clause-stops : goal.returns-in-Limit-clause-stops
returns-in-Limit-clause-stops g c = record { end = λ e. absurd cc; limit = λ e. (c.in_ok-ready.ensures.limit c.in-Limit.is).1 }
