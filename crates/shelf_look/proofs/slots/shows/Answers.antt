use Rattle.shelf_look.proofs.Prelude.{◌∙◌, refl, sym, arith, nvram}
use Rattle.boot_region.proofs.GateCalls.{ran_read}
use Rattle.shelf_look.proofs.Heads.{first_of, gate_open, same_on}
use Rattle.shelf_look.proofs.slots.shows.Goals as goal

pub returns-in_err-read-clause-ran : goal.returns-in_err-read-clause-ran
returns-in_err-read-clause-ran g c =
    ran_read (nvram c.args.device.0) refl (g.met.S.Shelf.is_shelf c.args.shelf.now) c.read.ensures.time c.read.ensures.others c.read.ensures.rest c.read.ensures.device

pub returns-in_err-read-clause-same : goal.returns-in_err-read-clause-same
returns-in_err-read-clause-same g c h = same_on (g.S.Shelf.shelf c.args.shelf.now) (g.S.Shelf.shelf c.read.new.self) (nvram c.args.device.0) c.read.ensures.others (c.read.ensures.device h)

pub returns-in_ok-read-clause-same : goal.returns-in_ok-read-clause-same
returns-in_ok-read-clause-same g c h = same_on (g.S.Shelf.shelf c.args.shelf.now) (g.S.Shelf.shelf c.read.new.self) (nvram c.args.device.0) c.read.ensures.others (c.read.ensures.device h)

pub returns-in_ok-read-clause-ran : goal.returns-in_ok-read-clause-ran
returns-in_ok-read-clause-ran g c =
    ran_read (nvram c.args.device.0) refl (g.met.S.Shelf.is_shelf c.args.shelf.now) c.read.ensures.time c.read.ensures.others c.read.ensures.rest c.read.ensures.device

pub returns-in_ok-read-clause-shown : goal.returns-in_ok-read-clause-shown
returns-in_ok-read-clause-shown g c h gate =
    let a = g.S.Shelf.shelf c.args.shelf.now in
    let is = g.met.S.Shelf.is_shelf c.args.shelf.now in
    let bytes = (a.disk (nvram c.args.device.0)).bytes in
    c.is_of_log.ensures bytes (is.sizes h (nvram c.args.device.0) c.requires.device, is.bytes h (nvram c.args.device.0))
    (gate_open bytes c.args.slot c.args.gate gate c.if-gate-eq-OPEN.true) (first_of bytes _ c.args.slot (omega arith) ∙ sym (c.in_ok-read.ensures.bytes h) ∙ sym c.new.ensures)
