use Rattle.request_codec.proofs.Prelude.{◌++◌, refl, sym, ◌∙◌, inl, inr, arith, err_from_is_err_and, asks-then, asks-on, asks-well, asks-failed, line-failed, line-overrun, data-failed, data-overrun}
use Rattle.request_codec.proofs.ItemLemmas.{item-cut, item-whole}
use Rattle.request_codec.proofs.TakenLemmas.{totals-well, totals-limit, totals-behind, stops-neither, stops-limit}
use Rattle.request_codec.proofs.reader.Reader.next.Goals as goal

pub returns-in_err-read_line-clause-failed : goal.returns-in_err-read_line-clause-failed
returns-in_err-read_line-clause-failed g c = rw (← c.self.view_is) (
    let p = err_from_is_err_and c.from_residual.result c.from_residual.ensures.1 in rw p.1 (λ t.
    let part = c.in_err-read_line.ensures.failed t in
    (part.0, line-failed (c.self.inside.input.pending ++ (g.S.Source.source c.args.source.now).bytes) _ part.1.rest part.1.split part.1.part)))

pub returns-in-Limit-clause-told : goal.returns-in-Limit-clause-told
returns-in-Limit-clause-told g c = rw (← c.self.view_is) (λ t.
    let line = rw c.in-Limit.is at c.in_ok-read_line.ensures.told t in
    (line.0, line-overrun (c.self.inside.input.pending ++ (g.S.Source.source c.args.source.now).bytes) _ line.1.0 line.1.1 line.1.2 line.1.3))

pub returns-in_err-read_data-clause-failed : goal.returns-in_err-read_data-clause-failed
returns-in_err-read_data-clause-failed g c = rw (← c.self.view_is) (
    let p = err_from_is_err_and c.from_residual-in_err-read_data.result c.from_residual-in_err-read_data.ensures.1 in rw p.1 (λ t.
    let line = rw c.in-Line.is at c.in_ok-read_line.ensures.told t in
    let part = rw c.data_sectors-count.ensures at c.in_err-read_data.ensures.failed line.0 in
    let is = sym (c.request_of.ensures.request _ line.1.1) ∙ c.in-Some.is in
    (part.0, data-failed (c.self.inside.input.pending ++ (g.S.Source.source c.args.source.now).bytes) _ _ part.1.rest c.in-Some.request line.1.2 is part.1.split part.1.part)))

pub returns-in-Cut-clause-told : goal.returns-in-Cut-clause-told
returns-in-Cut-clause-told g c = rw (← c.self.view_is) (λ t.
    let line = rw c.in-Line.is at c.in_ok-read_line.ensures.told t in
    let read = rw c.in-Cut.is at (c.in_ok-read_data.ensures.told line.0) in
    let is = sym (c.request_of.ensures.request _ line.1.1) ∙ c.in-Some.is in
    (read.0, (line.1.0, item-cut (c.self.inside.input.pending ++ (g.S.Source.source c.args.source.now).bytes) c.in-Some.request _ _ is line.1.2 (rw c.data_sectors-count.ensures at read.1.0) read.1.1)))

pub returns-in-Limit-2-clause-told : goal.returns-in-Limit-2-clause-told
returns-in-Limit-2-clause-told g c = rw (← c.self.view_is) (λ t.
    let line = rw c.in-Line.is at c.in_ok-read_line.ensures.told t in
    let read = rw (c.in-Limit-2.is, c.data_sectors-count.ensures) at c.in_ok-read_data.ensures.told line.0 in
    let is = sym (c.request_of.ensures.request _ line.1.1) ∙ c.in-Some.is in
    (read.0, data-overrun (c.self.inside.input.pending ++ (g.S.Source.source c.args.source.now).bytes) _ _ read.1.0 read.1.1 c.in-Some.request line.1.2 is read.1.2 read.1.3))

pub returns-in_err-read_data-clause-asks : goal.returns-in_err-read_data-clause-asks
returns-in_err-read_data-clause-asks g c = rw (← c.self.view_is) (
    let p = err_from_is_err_and c.from_residual-in_err-read_data.result c.from_residual-in_err-read_data.ensures.1 in rw p.1 (asks-failed (asks-then g.met.S.Source.source_rest_stays c.in_ok-read_line.ensures.asks c.in_err-read_data.ensures.asks)))

pub returns-in-Cut-clause-asks : goal.returns-in-Cut-clause-asks
returns-in-Cut-clause-asks g c = rw (← c.self.view_is) (asks-on g.met.S.Source.source_rest_stays c.in_ok-read_line.ensures.asks c.in_ok-read_data.ensures.asks)

pub returns-in-Limit-2-clause-asks : goal.returns-in-Limit-2-clause-asks
returns-in-Limit-2-clause-asks g c = rw (← c.self.view_is) (asks-on g.met.S.Source.source_rest_stays c.in_ok-read_line.ensures.asks c.in_ok-read_data.ensures.asks)

pub returns-clause-asks : goal.returns-clause-asks
returns-clause-asks g c = rw (← c.self.view_is) (asks-on g.met.S.Source.source_rest_stays c.in_ok-read_line.ensures.asks c.in_ok-read_data.ensures.asks)

pub returns-in_err-read_line-clause-asks : goal.returns-in_err-read_line-clause-asks
returns-in_err-read_line-clause-asks g c = rw (← c.self.view_is) (let p = err_from_is_err_and c.from_residual.result c.from_residual.ensures.1 in rw p.1 (asks-failed c.in_err-read_line.ensures.asks))

pub returns-in-End-clause-asks : goal.returns-in-End-clause-asks
returns-in-End-clause-asks g c = rw (← c.self.view_is) (asks-well c.in_ok-read_line.ensures.asks)

pub returns-in-Limit-clause-asks : goal.returns-in-Limit-clause-asks
returns-in-Limit-clause-asks g c = rw (← c.self.view_is) (asks-well c.in_ok-read_line.ensures.asks)

pub returns-in_default-clause-asks : goal.returns-in_default-clause-asks
returns-in_default-clause-asks g c = rw (← c.self.view_is) (asks-well c.in_ok-read_line.ensures.asks)

pub returns-in-End-clause-total : goal.returns-in-End-clause-total
returns-in-End-clause-total g c = rw (← c.self.view_is) (λ t. totals-well (λ e. cc) (λ e. cc) ((rw c.in-End.is at c.in_ok-read_line.ensures.total) t))

pub returns-in-Limit-clause-total : goal.returns-in-Limit-clause-total
returns-in-Limit-clause-total g c = rw (← c.self.view_is) (λ t. totals-limit refl refl ((rw c.in-Limit.is at c.in_ok-read_line.ensures.total) t))

pub returns-in_default-clause-total : goal.returns-in_default-clause-total
returns-in_default-clause-total g c = rw (← c.self.view_is) (λ t. totals-well (λ e. cc) (λ e. cc) ((rw c.in-Line.is at c.in_ok-read_line.ensures.total) t))

pub returns-in-Cut-clause-total : goal.returns-in-Cut-clause-total
returns-in-Cut-clause-total g c = rw (← c.self.view_is) (λ t.
    let line = rw c.in-Line.is at c.in_ok-read_line.ensures.told t in
    totals-behind (((rw c.in-Line.is at c.in_ok-read_line.ensures.total) t).same (λ e. cc)) (totals-well (λ e. cc) (λ e. cc) ((rw c.in-Cut.is at c.in_ok-read_data.ensures.total) line.0)))

pub returns-in-Limit-2-clause-total : goal.returns-in-Limit-2-clause-total
returns-in-Limit-2-clause-total g c = rw (← c.self.view_is) (λ t.
    let line = rw c.in-Line.is at c.in_ok-read_line.ensures.told t in
    totals-behind (((rw c.in-Line.is at c.in_ok-read_line.ensures.total) t).same (λ e. cc)) (totals-limit refl refl ((rw c.in-Limit-2.is at c.in_ok-read_data.ensures.total) line.0)))

pub returns-clause-total : goal.returns-clause-total
returns-clause-total g c = rw (← c.self.view_is) (λ t.
    let line = rw c.in-Line.is at c.in_ok-read_line.ensures.told t in
    totals-behind (((rw c.in-Line.is at c.in_ok-read_line.ensures.total) t).same (λ e. cc)) (totals-well (λ e. cc) (λ e. cc) ((rw c.in-Whole.is at c.in_ok-read_data.ensures.total) line.0)))

pub returns-in-End-clause-stops : goal.returns-in-End-clause-stops
returns-in-End-clause-stops g c = record { end = λ e. (rw c.in-End.is at c.in_ok-read_line.ensures.stops).end refl; limit = λ e. absurd cc }

pub returns-in-End-clause-last : goal.returns-in-End-clause-last
returns-in-End-clause-last g c = rw (← c.self.view_is) (λ t none. inr ((rw c.in-End.is at c.in_ok-read_line.ensures.stops).end refl))

pub returns-in-Limit-clause-last : goal.returns-in-Limit-clause-last
returns-in-Limit-clause-last g c = rw (← c.self.view_is) (λ t none. inl refl)

pub returns-in-Limit-2-clause-last : goal.returns-in-Limit-2-clause-last
returns-in-Limit-2-clause-last g c = rw (← c.self.view_is) (λ t none. inl refl)

pub returns-in_default-clause-last : goal.returns-in_default-clause-last
returns-in_default-clause-last g c = rw (← c.self.view_is) (λ t none. inr (c.in_ok-read_line.ensures.last c.in-Line.is t none))

pub returns-in-Cut-clause-last : goal.returns-in-Cut-clause-last
returns-in-Cut-clause-last g c = rw (← c.self.view_is) (λ t none. inr ((rw c.in-Cut.is at c.in_ok-read_data.ensures.stops).end refl))

pub returns-in-End-clause-told : goal.returns-in-End-clause-told
returns-in-End-clause-told g c = rw (← c.self.view_is) (rw c.in-End.is at c.in_ok-read_line.ensures.told)

pub returns-clause-told : goal.returns-clause-told
returns-clause-told g c = rw (← c.self.view_is) (λ t.
    let line = rw c.in-Line.is at c.in_ok-read_line.ensures.told t in
    let read = rw (c.in-Whole.is, c.data_sectors-count.ensures) at c.in_ok-read_data.ensures.told line.0 in
    let is = sym (c.request_of.ensures.request _ line.1.1) ∙ c.in-Some.is in
    (read.0, (line.1.0, item-whole (c.self.inside.input.pending ++ (g.S.Source.source c.args.source.now).bytes) c.in-Some.request _ _ _ is line.1.2 read.1.0 read.1.1 read.1.2)))

pub returns-in_default-clause-progress : goal.returns-in_default-clause-progress
returns-in_default-clause-progress g c = rw (← c.self.view_is) (c.in_ok-read_line.ensures.progress c.in-Line.is)

pub returns-in-Cut-clause-progress : goal.returns-in-Cut-clause-progress
returns-in-Cut-clause-progress g c = rw (← c.self.view_is) (omega (arith, c.in_ok-read_line.ensures.progress c.in-Line.is, c.in_ok-read_data.ensures.budget))

pub returns-clause-progress : goal.returns-clause-progress
returns-clause-progress g c = rw (← c.self.view_is) (omega (arith, c.in_ok-read_line.ensures.progress c.in-Line.is, c.in_ok-read_data.ensures.budget))

pub returns-in-Limit-clause-stops : goal.returns-in-Limit-clause-stops
returns-in-Limit-clause-stops g c = stops-limit (λ e. cc) (λ e. cc) ((rw c.in-Limit.is at c.in_ok-read_line.ensures.stops).limit refl)

pub returns-in_default-clause-stops : goal.returns-in_default-clause-stops
returns-in_default-clause-stops g c = stops-neither (λ e. cc) (λ e. cc) (λ e. cc)

pub returns-in-Cut-clause-stops : goal.returns-in-Cut-clause-stops
returns-in-Cut-clause-stops g c = record { end = λ e. (rw c.in-Cut.is at c.in_ok-read_data.ensures.stops).end refl; limit = λ e. absurd cc }

pub returns-in-Limit-2-clause-stops : goal.returns-in-Limit-2-clause-stops
returns-in-Limit-2-clause-stops g c = stops-limit (λ e. cc) (λ e. cc) ((rw c.in-Limit-2.is at c.in_ok-read_data.ensures.stops).limit refl)

pub returns-clause-stops : goal.returns-clause-stops
returns-clause-stops g c = stops-neither (λ e. cc) (λ e. cc) (λ e. cc)

pub returns-in-End-clause-complete : goal.returns-in-End-clause-complete
returns-in-End-clause-complete g c = record { served = tt; spelled = tt; has_data = tt }

pub returns-in-Limit-clause-complete : goal.returns-in-Limit-clause-complete
returns-in-Limit-clause-complete g c = record { served = tt; spelled = tt; has_data = tt }

pub returns-in_default-clause-complete : goal.returns-in_default-clause-complete
returns-in_default-clause-complete g c = record { served = tt; spelled = tt; has_data = tt }

pub returns-in-Cut-clause-complete : goal.returns-in-Cut-clause-complete
returns-in-Cut-clause-complete g c = record { served = tt; spelled = tt; has_data = tt }

pub returns-in-Limit-2-clause-complete : goal.returns-in-Limit-2-clause-complete
returns-in-Limit-2-clause-complete g c = record { served = tt; spelled = tt; has_data = tt }
