use Rattle.shelf_init.proofs.Prelude.{then_run, continues_trans, continues_refl, ran_then, ran_more, all_drives}
use Rattle.shelf_init.proofs.CallLemmas.{open_in_boot, gates_in_log, slot_in_boot, making_first, making_two, spells_then, moments_of, emptied}
use Rattle.shelf_init.proofs.making.make.Goals as goal

pub returns-in_err-close_all_gates-clause-ran : goal.returns-in_err-close_all_gates-clause-ran
returns-in_err-close_all_gates-clause-ran g c = ran_more (λ d is. tt) (open_in_boot c.args.regions.now.bytes.items) c.close_all_gates.ensures.ran

pub returns-in_err-clear_nvram-clause-ran : goal.returns-in_err-clear_nvram-clause-ran
returns-in_err-clear_nvram-clause-ran g c = ran_then g.met.S.Shelf.shelf_rest_stays (ran_more (λ d is. tt) (open_in_boot c.args.regions.now.bytes.items) c.close_all_gates.ensures.ran) (ran_more (λ d is. tt) gates_in_log c.clear_nvram.ensures.ran)

pub returns-clause-ran : goal.returns-clause-ran
returns-clause-ran g c =
    let stays = g.met.S.Shelf.shelf_rest_stays in
    ran_then stays (ran_then stays (ran_more (λ d is. tt) (open_in_boot c.args.regions.now.bytes.items) c.close_all_gates.ensures.ran) (ran_more (λ d is. tt) gates_in_log c.clear_nvram.ensures.ran))
    (ran_more (λ d is. tt) (slot_in_boot (all_drives (g.S.Shelf.shelf c.clear_nvram.new.shelf).drives)) c.store_first.ensures.ran)

pub returns-in_err-close_all_gates-clause-any_moment : goal.returns-in_err-close_all_gates-clause-any_moment
returns-in_err-close_all_gates-clause-any_moment g c h clean blank read spells =
    making_first (g.S.Shelf.shelf c.args.shelf.now) (g.S.Shelf.shelf c.close_all_gates.new.shelf) (g.S.Shelf.shelf c.close_all_gates.new.shelf) c.close_all_gates.ensures.ran.on.continues
    (continues_refl (g.S.Shelf.shelf c.close_all_gates.new.shelf)) blank (c.close_all_gates.ensures.any_moment h read clean)

pub returns-in_err-clear_nvram-clause-any_moment : goal.returns-in_err-clear_nvram-clause-any_moment
returns-in_err-clear_nvram-clause-any_moment g c h clean blank read spells =
    let on = c.close_all_gates.ensures.ran.on.continues in
    making_two (g.S.Shelf.shelf c.args.shelf.now) (g.S.Shelf.shelf c.close_all_gates.new.shelf) (g.S.Shelf.shelf c.clear_nvram.new.shelf) on c.clear_nvram.ensures.ran.on.continues blank
    (c.close_all_gates.ensures.any_moment h read clean) (c.in_ok-close_all_gates.ensures.clean h clean) (c.in_ok-close_all_gates.ensures.shut h read) (c.clear_nvram.ensures.ran.on.writes (on.honest h))

pub returns-clause-any_moment : goal.returns-clause-any_moment
returns-clause-any_moment g c h clean blank read spells =
    let a = g.S.Shelf.shelf c.args.shelf.now in
    let b = g.S.Shelf.shelf c.close_all_gates.new.shelf in
    let e = g.S.Shelf.shelf c.clear_nvram.new.shelf in
    let on = c.close_all_gates.ensures.ran.on.continues in
    let next = c.clear_nvram.ensures.ran.on.continues in
    let both = continues_trans on next in
    let clean_b = c.in_ok-close_all_gates.ensures.clean h clean in
    let shut = c.in_ok-close_all_gates.ensures.shut h read in
    let w = c.clear_nvram.ensures.ran.on.writes (on.honest h) in
    let empty = emptied a b e on clean_b shut w next (c.in_ok-clear_nvram.ensures.clean (on.honest h) clean_b) (c.in_ok-clear_nvram.ensures.cleared (on.honest h)) in
    then_run both (making_two a b e on next blank (c.close_all_gates.ensures.any_moment h read clean) clean_b shut w)
    (moments_of a e (g.S.Shelf.shelf c.store_first.new.shelf) both (c.store_first.ensures.any_moment (both.honest h) empty (spells_then a e c.args.body.now both spells)))
