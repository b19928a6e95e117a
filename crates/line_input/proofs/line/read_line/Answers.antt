use Rattle.std.proofs.Common.{◌≡◌, ℕ, ◌-◌, ◌++◌, List, take, ap, subst, ◌∙◌, ◌<◌, length, sym, refl}
use Rattle.std.specs.List.{position_or_len}
use Rattle.world.specs.Prelude.{is_line_end, INPUT_BYTES, open-append, whole-line, more-of-line, spent}
use Rattle.std.proofs.lemmas.Result.{err_from_is_err_and}
use Rattle.line_input.specs.lemmas.Failed.{has-end}
use Rattle.line_input.specs.Lines.{Holds}
use Rattle.line_input.specs.lemmas.Asking.{asks-then, asks-well, asks-failed, asks-consumed}
use Rattle.line_input.specs.lemmas.Calls.{tells-same}
use Rattle.line_input.proofs.EndLemmas.{not-both, bytes-below, end-below, line-below, ended-below, limit-before, behind, nothing-left, last-line, overrun, counted-on, limited-on, some-held, line-gone, piece-gone}
use Rattle.line_input.proofs.line.read_line.Goals as goal

pub returns-in-Some-clause-told : goal.returns-in-Some-clause-told
returns-in-Some-clause-told g c = λ t.
    let inv = c.pieces.invariant.read in
    let told = inv.3 t in
    let ready = rw c.in-Bytes.is at (c.in_ok-ready.ensures.told told.0) in
    let at-is = c.in-Some.ensures.some in
    let line = whole-line _ inv.0 c.ready.new.self.pending (g.S.Source.source c.ready.new.source).bytes c.in-Some.at told.1
    (behind _ inv.0 _ _ told.2 ready.1)
    (rw (← c.pending-pending.ensures) at-is.0) (rw (← c.pending-pending.ensures) at-is.1) in (
      tells-same c.consume.ensures.ended ready.0,
      (line.some, subst (λ (ys : List ℕ). Holds c.append.new.self ys) (ap (λ (p : List ℕ). inv.0 ++ take c.in-Some.at p) c.pending-pending.ensures ∙ line.line) (c.append.ensures inv.0 inv.1), rw c.consume.ensures.pending line.rest),
    )

pub pieces-preserved : goal.pieces-preserved
pieces-preserved g c =
    let inv = c.pieces.invariant.read in
    let ready = rw c.in-Bytes.is at c.in_ok-ready.ensures.told in
    let none = c.in-None.ensures.none in
    let bytes = c.in_ok-ready.ensures.bytes c.in-Bytes.is in
    let pend = c.pending-pending.ensures in
    let gone = c.consume-in-None.ensures.pending in
    let taken = c.consume-in-None.ensures.taken in
    record {
      read = (
        inv.0 ++ c.pending-pending.result.now,
        c.append-in-None.ensures inv.0 inv.1,
        rw taken (spent _ (INPUT_BYTES - c.ready.new.self.taken) _ c.ready.new.self.taken inv.0 c.pending-pending.result.now c.ready.new.self.pending c.consume-in-None.new.self.pending inv.2 bytes.1 pend gone),
        λ t. let told = inv.3 t in (
          tells-same c.consume-in-None.ensures.ended (ready told.0).0,
          open-append inv.0 c.pending-pending.result.now told.1 (record { none = none }),
          more-of-line _ inv.0 c.pending-pending.result.now _ _ c.ready.new.self.pending c.consume-in-None.new.self.pending told.2 (ready told.0).1 pend gone,
        ),
      );
      total = λ t. rw taken (((rw c.in-Bytes.is at c.in_ok-ready.ensures.total) (inv.3 t).0).same bytes-below ∙ c.pieces.invariant.total t);
      asks = asks-consumed taken c.consume-in-None.ensures.ended (asks-then g.met.S.Source.source_rest_stays c.pieces.invariant.asks c.in_ok-ready.ensures.asks);
    }

pub returns-in-Some-clause-last : goal.returns-in-Some-clause-last
returns-in-Some-clause-last g c = λ e t none.
    let inv = c.pieces.invariant.read in
    let told = inv.3 t in
    let ready = rw c.in-Bytes.is at (c.in_ok-ready.ensures.told told.0) in
    let at-is = c.in-Some.ensures.some in
    let pend = c.pending-pending.ensures in
    let inside : position_or_len is_line_end c.ready.new.self.pending < length c.ready.new.self.pending = rw (← pend) (rw (at-is.0) at at-is.1) in
    let some = has-end _ inv.0 c.ready.new.self.pending (g.S.Source.source c.ready.new.source).bytes (behind _ inv.0 _ _ told.2 ready.1) inside in
    absurd (not-both _ some none)

pub returns-in-Limit-clause-asks : goal.returns-in-Limit-clause-asks
returns-in-Limit-clause-asks g c = asks-well (asks-then g.met.S.Source.source_rest_stays c.pieces.invariant.asks c.in_ok-ready.ensures.asks)

pub returns-in-Some-clause-asks : goal.returns-in-Some-clause-asks
returns-in-Some-clause-asks g c = asks-consumed c.consume.ensures.taken c.consume.ensures.ended (asks-then g.met.S.Source.source_rest_stays c.pieces.invariant.asks c.in_ok-ready.ensures.asks)

pub returns-in-Limit-clause-told : goal.returns-in-Limit-clause-told
returns-in-Limit-clause-told g c = λ t.
    let inv = c.pieces.invariant.read in
    let told = inv.3 t in
    let ready = rw c.in-Limit.is at (c.in_ok-ready.ensures.told told.0) in
    (ready.0, overrun _ inv.0 _ _ ready.1.0 told.2 ready.1.1 told.1)

pub returns-in-Limit-clause-total : goal.returns-in-Limit-clause-total
returns-in-Limit-clause-total g c = λ t.
    let total = (rw c.in-Limit.is at c.in_ok-ready.ensures.total) (c.pieces.invariant.read.3 t).0 in
    limited-on refl refl c.args.input.now.taken c.pieces.input.taken c.ready.new.self.taken _ _ _ (c.pieces.invariant.total t) total

pub returns-in-Some-clause-total : goal.returns-in-Some-clause-total
returns-in-Some-clause-total g c = λ t.
    let total = (rw c.in-Bytes.is at c.in_ok-ready.ensures.total) (c.pieces.invariant.read.3 t).0 in
    rw c.consume.ensures.taken (counted-on bytes-below line-below c.args.input.now.taken c.pieces.input.taken c.ready.new.self.taken _ _ _ (c.pieces.invariant.total t) total)

pub returns-in_err-ready-clause-asks : goal.returns-in_err-ready-clause-asks
returns-in_err-ready-clause-asks g c =
    let error = err_from_is_err_and c.from_residual.result c.from_residual.ensures.1 in
    rw error.1 (asks-failed (asks-then g.met.S.Source.source_rest_stays c.pieces.invariant.asks c.in_err-ready.ensures.asks))

pub returns-in_err-ready-clause-failed : goal.returns-in_err-ready-clause-failed
returns-in_err-ready-clause-failed g c =
    let error = err_from_is_err_and c.from_residual.result c.from_residual.ensures.1 in
    let inv = c.pieces.invariant.read in
    rw error.1 (λ t.
    let told = inv.3 t in
    let ready = c.in_err-ready.ensures.failed told.0 in
    (ready.0, record { rest = inv.0; split = told.2 ∙ (λ i. inv.0 ++ (ready.1 i ++ sym ready.2 i)); part = told.1.none }))

pub returns-in_err-ready-clause-told : goal.returns-in_err-ready-clause-told
returns-in_err-ready-clause-told g c = let error = err_from_is_err_and c.from_residual.result c.from_residual.ensures.1 in rw error.1 tt

pub returns-in_err-ready-clause-total : goal.returns-in_err-ready-clause-total
returns-in_err-ready-clause-total g c = let error = err_from_is_err_and c.from_residual.result c.from_residual.ensures.1 in rw error.1 tt

pub returns-in_err-ready-clause-progress : goal.returns-in_err-ready-clause-progress
returns-in_err-ready-clause-progress g c = let error = err_from_is_err_and c.from_residual.result c.from_residual.ensures.1 in rw error.1 tt

pub returns-in_err-ready-clause-last : goal.returns-in_err-ready-clause-last
returns-in_err-ready-clause-last g c = let error = err_from_is_err_and c.from_residual.result c.from_residual.ensures.1 in rw error.1 tt

pub returns-in_err-ready-clause-stops : goal.returns-in_err-ready-clause-stops
returns-in_err-ready-clause-stops g c = let error = err_from_is_err_and c.from_residual.result c.from_residual.ensures.1 in rw error.1 tt

pub returns-then-is_empty-clause-told : goal.returns-then-is_empty-clause-told
returns-then-is_empty-clause-told g c = λ t.
    let inv = c.pieces.invariant.read in
    let told = inv.3 t in
    let ready = rw c.in-End.is at (c.in_ok-ready.ensures.told told.0) in
    let empty = (c.is_empty.ensures inv.0 inv.1).0 c.if-is_empty.true in
    (ready.0, (nothing-left _ inv.0 _ told.2 ready.1.0 empty, ready.1.1))

pub returns-then-is_empty-clause-total : goal.returns-then-is_empty-clause-total
returns-then-is_empty-clause-total g c = λ t.
    let total = (rw c.in-End.is at c.in_ok-ready.ensures.total) (c.pieces.invariant.read.3 t).0 in
    counted-on end-below ended-below c.args.input.now.taken c.pieces.input.taken c.ready.new.self.taken _ _ _ (c.pieces.invariant.total t) total

pub returns-then-is_empty-clause-stops : goal.returns-then-is_empty-clause-stops
returns-then-is_empty-clause-stops g c = record { end = λ _. (c.in_ok-ready.ensures.end c.in-End.is).0; limit = λ _. (c.in_ok-ready.ensures.end c.in-End.is).1 }

pub returns-then-is_empty-clause-asks : goal.returns-then-is_empty-clause-asks
returns-then-is_empty-clause-asks g c = asks-well (asks-then g.met.S.Source.source_rest_stays c.pieces.invariant.asks c.in_ok-ready.ensures.asks)

pub returns-else-is_empty-clause-told : goal.returns-else-is_empty-clause-told
returns-else-is_empty-clause-told g c = λ t.
    let inv = c.pieces.invariant.read in
    let told = inv.3 t in
    let ready = rw c.in-End.is at (c.in_ok-ready.ensures.told told.0) in
    let some = λ (e : length inv.0 ≡ 0). not-both c.is_empty.result ((c.is_empty.ensures inv.0 inv.1).1 e) c.if-is_empty.false in
    let last = last-line c.pieces.line _ inv.0 _ _ told.2 ready.1.0 ready.1.1 told.1 inv.1 some in
    (ready.0, (last.some, last.line, last.rest))

pub returns-else-is_empty-clause-total : goal.returns-else-is_empty-clause-total
returns-else-is_empty-clause-total g c = λ t.
    let total = (rw c.in-End.is at c.in_ok-ready.ensures.total) (c.pieces.invariant.read.3 t).0 in
    counted-on end-below line-below c.args.input.now.taken c.pieces.input.taken c.ready.new.self.taken _ _ _ (c.pieces.invariant.total t) total

pub returns-else-is_empty-clause-progress : goal.returns-else-is_empty-clause-progress
returns-else-is_empty-clause-progress g c = λ _.
    let inv = c.pieces.invariant.read in
    let some = λ (e : length inv.0 ≡ 0). not-both c.is_empty.result ((c.is_empty.ensures inv.0 inv.1).1 e) c.if-is_empty.false in
    some-held _ _ _ inv.0 inv.2 (c.in_ok-ready.ensures.end c.in-End.is).2 some

pub returns-else-is_empty-clause-asks : goal.returns-else-is_empty-clause-asks
returns-else-is_empty-clause-asks g c = asks-well (asks-then g.met.S.Source.source_rest_stays c.pieces.invariant.asks c.in_ok-ready.ensures.asks)

pub returns-in-Limit-clause-stops : goal.returns-in-Limit-clause-stops
returns-in-Limit-clause-stops g c = let limit = c.in_ok-ready.ensures.limit c.in-Limit.is in record { end = λ e. absurd (limit-before e); limit = λ _. limit.1 }

pub returns-in-Some-clause-progress : goal.returns-in-Some-clause-progress
returns-in-Some-clause-progress g c = λ _.
    let inv = c.pieces.invariant.read in
    let bytes = c.in_ok-ready.ensures.bytes c.in-Bytes.is in
    rw c.consume.ensures.taken (line-gone _ _ (INPUT_BYTES - c.ready.new.self.taken) c.in-Some.at inv.0 c.ready.new.self.pending c.pending-pending.result.now c.consume.new.self.pending
    inv.2 bytes.1 c.pending-pending.ensures c.in-Some.ensures.some.1 c.consume.ensures.pending)

pub pieces-smaller : goal.pieces-smaller
pieces-smaller g c =
    let bytes = c.in_ok-ready.ensures.bytes c.in-Bytes.is in
    let gone = c.consume-in-None.ensures in
    rw gone.taken (piece-gone _ (INPUT_BYTES - c.ready.new.self.taken) c.ready.new.self.pending c.pending-pending.result.now c.consume-in-None.new.self.pending bytes.1 bytes.0 c.pending-pending.ensures gone.pending)
