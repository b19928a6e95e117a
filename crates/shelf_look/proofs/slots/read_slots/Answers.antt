use Rattle.shelf_look.proofs.Prelude.{◌∙◌, List, ℕ, ap, refl, subst, sym, IfOk, slice_range, nvram, ran_then, AreShown}
use Rattle.boot_region.proofs.GateCalls.{ran_read}
use Rattle.segment_io.proofs.Gathers.{same_then}
use Rattle.shelf_look.proofs.Heads.{same_on}
use Rattle.shelf_look.proofs.slots.read_slots.Goals as goal

pub returns-in_err-read-clause-ran : goal.returns-in_err-read-clause-ran
returns-in_err-read-clause-ran g c =
    ran_read (nvram c.args.device.0) refl (g.met.S.Shelf.is_shelf c.args.shelf.now) c.read.ensures.time c.read.ensures.others c.read.ensures.rest c.read.ensures.device

pub returns-clause-same : goal.returns-clause-same
returns-clause-same g c h d =
    same_then
    (same_on (g.S.Shelf.shelf c.args.shelf.now) (g.S.Shelf.shelf c.read.new.self) (nvram c.args.device.0) c.read.ensures.others (c.read.ensures.device h) d)
    (c.slots_under.ensures.same (c.read.ensures.time.continues.honest h) d)

pub returns-clause-ran : goal.returns-clause-ran
returns-clause-ran g c =
    ran_then g.met.S.Shelf.shelf_rest_stays
    (ran_read (nvram c.args.device.0) refl (g.met.S.Shelf.is_shelf c.args.shelf.now) c.read.ensures.time c.read.ensures.others c.read.ensures.rest c.read.ensures.device)
    c.slots_under.ensures.ran

pub returns-clause-shown : goal.returns-clause-shown
returns-clause-shown g c h =
    let same = (c.read.ensures.device h).bytes in
    subst (λ (l : List ℕ). IfOk c.slots_under.result (λ s. AreShown l c.args.flushed s.shown)) same
    (c.slots_under.ensures.shown (c.read.ensures.time.continues.honest h) (c.in_ok-read.ensures.bytes h ∙ ap (λ (l : List ℕ). slice_range l 0 64) (sym same)))
