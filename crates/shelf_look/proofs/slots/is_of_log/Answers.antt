use Rattle.shelf_look.proofs.Prelude.{sym, arith, eqb-true, ltb-true, eqb-false, Head}
use Rattle.shelf_look.proofs.Heads.{number_shown, shown_if}
use Rattle.nvram_log.specs.lemmas.Heads.{shown_by_head, shown_head}
use Rattle.shelf_look.proofs.slots.is_of_log.Goals as goal

pub returns-then-head-flushed : goal.returns-then-head-flushed
returns-then-head-flushed c bytes are gate first =
    let h : Head = c.in-Ok.head in
    shown_if bytes c.args.flushed c.args.slot _
    (λ e. shown_by_head bytes c.args.flushed c.args.slot c.args.sector.now h c.requires are gate (sym first) c.in-Ok.ensures.ok (omega (arith, eqb-true _ _ e, c.if-head-flushed.true)))
    (λ e d shows. absurd (eqb-false _ _ e (omega (arith, number_shown bytes c.args.flushed c.args.slot c.args.sector.now h first (λ x is. cc (c.in-Ok.ensures.complete x is)) d shows))))

pub returns-else-head-flushed : goal.returns-else-head-flushed
returns-else-head-flushed c bytes are gate first =
    let h : Head = c.in-Ok.head in
    shown_if bytes c.args.flushed c.args.slot _
    (λ e. absurd (omega (arith, ltb-true _ _ e, c.if-head-flushed.false)))
    (λ e d shows. absurd (omega (arith, c.if-head-flushed.false, number_shown bytes c.args.flushed c.args.slot c.args.sector.now h first (λ x is. cc (c.in-Ok.ensures.complete x is)) d shows)))

pub returns-in-Err : goal.returns-in-Err
returns-in-Err c bytes are gate first d shows =
    absurd (cc (c.in-Err.is, c.read_head.ensures.complete _ (shown_head bytes c.args.flushed c.args.slot c.args.sector.now (sym first) d shows)))
