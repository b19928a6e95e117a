use Rattle.nvram_log.proofs.Prelude.{rules, ◌≡◌, List, Bool, length, refl, continues_trans, nvram, unchanged, ran_then, ran_more, none_dirty}
use Rattle.nvram_log.proofs.Settled.{SettlesEach, flags_of, where_ok, on_gates, on_slots, settling, settling_then, while_closing, while_copying, while_opening, settled}
use Rattle.nvram_log.proofs.settle.settle_on.Given as given
use Rattle.nvram_log.proofs.settle.settle_on.Goals as goal
use Rattle.nvram_log.proofs.settle.settle_on.Goals.{After-write_some_gates, After-write_some_slots, After-write_some_gates-2}

-- ---- gates are closed

closes : (g : given.Over) (c : After-write_some_gates g) → (g.S.Shelf.shelf c.args.shelf.now).honest
    → SettlesEach (g.S.Shelf.shelf c.args.shelf.now) (g.S.Shelf.shelf c.write_some_gates.new.shelf) (nvram c.args.device.0) c.args.count c.args.seen.now c.args.records.now c.closing-closing.result c.lacking-lacking.result
closes g c h flushed commands long is =
    let d = nvram c.args.device.0 in
    let closing : List Bool = c.closing-closing.result in
    let lacking : List Bool = c.lacking-lacking.result in
    let size : length closing ≡ 64 = search rules in
    let flags = flags_of c.args.seen.now c.args.count (length commands) closing lacking size long c.closing-closing.ensures c.lacking-lacking.ensures in
    let shelf = g.met.S.Shelf.is_shelf c.args.shelf.now in
    settling flags (c.write_some_gates.ensures.ran.on.writes h) (while_closing _ d flushed c.args.seen.now c.args.records.now commands closing lacking (shelf.sizes h d c.requires.device) (shelf.bytes h d) is flags)

pub returns-in_err-write_some_gates-clause-ran : goal.returns-in_err-write_some_gates-clause-ran
returns-in_err-write_some_gates-clause-ran g c = ran_more (λ d is. is) (on_gates _ c.closing-closing.result) c.write_some_gates.ensures.ran

pub returns-in_err-write_some_gates-clause-any_moment : goal.returns-in_err-write_some_gates-clause-any_moment
returns-in_err-write_some_gates-clause-any_moment g c h flushed commands long is = (closes g (goal.at.returns-in_err-write_some_gates-clause-any_moment g c).After-write_some_gates h flushed commands long is).any_moment

pub returns-in_err-write_some_gates-clause-later : goal.returns-in_err-write_some_gates-clause-later
returns-in_err-write_some_gates-clause-later g c h flushed commands long is = (closes g (goal.at.returns-in_err-write_some_gates-clause-later g c).After-write_some_gates h flushed commands long is).later

pub returns-then-not-has_flag-clause-ran : goal.returns-then-not-has_flag-clause-ran
returns-then-not-has_flag-clause-ran g c = ran_more (λ d is. is) (on_gates _ c.closing-closing.result) c.write_some_gates.ensures.ran

pub returns-then-not-has_flag-clause-any_moment : goal.returns-then-not-has_flag-clause-any_moment
returns-then-not-has_flag-clause-any_moment g c h flushed commands long is = (closes g (goal.at.returns-then-not-has_flag-clause-any_moment g c).After-write_some_gates h flushed commands long is).any_moment

pub returns-then-not-has_flag-clause-later : goal.returns-then-not-has_flag-clause-later
returns-then-not-has_flag-clause-later g c h flushed commands long is = (closes g (goal.at.returns-then-not-has_flag-clause-later g c).After-write_some_gates h flushed commands long is).later

pub returns-then-not-has_flag-clause-settled : goal.returns-then-not-has_flag-clause-settled
returns-then-not-has_flag-clause-settled g c h flushed commands long is =
    let d = nvram c.args.device.0 in
    let b = g.S.Shelf.shelf c.write_some_gates.new.shelf in
    let clean1 = c.in_ok-write_some_gates.ensures.clean h in
    let flags = (closes g (goal.at.returns-then-not-has_flag-clause-settled g c).After-write_some_gates h flushed commands long is).flags in
    let shelf = g.met.S.Shelf.is_shelf c.args.shelf.now in
    let none = c.has_flag.ensures c.if-not-has_flag.true in
    settled _ d flushed c.args.seen.now c.args.records.now commands _ _ (shelf.sizes h d c.requires.device) (shelf.bytes h d) is flags (b.disk d) ((c.write_some_gates.ensures.ran.on.writes h).device d) (c.in_ok-write_some_gates.ensures.written h) clean1
    (b.disk d) (unchanged (b.disk d)) (λ i l lt flag. absurd (none i flag)) clean1 (b.disk d).bytes refl (λ k out. refl) (λ i lt flag. absurd (none i flag))

-- ---- slots are copied

copies : (g : given.Over) (c : After-write_some_slots g) → (g.S.Shelf.shelf c.args.shelf.now).honest
    → SettlesEach (g.S.Shelf.shelf c.args.shelf.now) (g.S.Shelf.shelf c.write_some_gates.new.shelf) (nvram c.args.device.0) c.args.count c.args.seen.now c.args.records.now c.closing-closing.result c.lacking-lacking.result
    → SettlesEach (g.S.Shelf.shelf c.args.shelf.now) (g.S.Shelf.shelf c.write_some_slots.new.shelf) (nvram c.args.device.0) c.args.count c.args.seen.now c.args.records.now c.closing-closing.result c.lacking-lacking.result
copies g c h first flushed commands long is =
    let d = nvram c.args.device.0 in
    let k1 = c.write_some_gates.ensures.ran.on.continues in
    let so_far = first flushed commands long is in
    let shelf = g.met.S.Shelf.is_shelf c.args.shelf.now in
    settling_then k1 so_far (c.write_some_slots.ensures.ran.on.writes (k1.honest h)) (while_copying _ d flushed c.args.seen.now c.args.records.now commands _ _ (shelf.sizes h d c.requires.device) (shelf.bytes h d) is so_far.flags
    _ ((c.write_some_gates.ensures.ran.on.writes h).device d) (c.in_ok-write_some_gates.ensures.written h) (c.in_ok-write_some_gates.ensures.clean h))

pub returns-in_err-write_some_slots-clause-ran : goal.returns-in_err-write_some_slots-clause-ran
returns-in_err-write_some_slots-clause-ran g c =
    ran_then g.met.S.Shelf.shelf_rest_stays (ran_more (λ d is. is) (on_gates _ c.closing-closing.result) c.write_some_gates.ensures.ran) (ran_more (λ d is. is) (on_slots _ c.lacking-lacking.result) c.write_some_slots.ensures.ran)

pub returns-in_err-write_some_slots-clause-any_moment : goal.returns-in_err-write_some_slots-clause-any_moment
returns-in_err-write_some_slots-clause-any_moment g c h flushed commands long is =
    let k = goal.at.returns-in_err-write_some_slots-clause-any_moment g c in (copies g k.After-write_some_slots h (closes g k.After-write_some_gates h) flushed commands long is).any_moment

pub returns-in_err-write_some_slots-clause-later : goal.returns-in_err-write_some_slots-clause-later
returns-in_err-write_some_slots-clause-later g c h flushed commands long is =
    let k = goal.at.returns-in_err-write_some_slots-clause-later g c in (copies g k.After-write_some_slots h (closes g k.After-write_some_gates h) flushed commands long is).later

-- ---- gates are opened

opens : (g : given.Over) (c : After-write_some_gates-2 g) → (g.S.Shelf.shelf c.args.shelf.now).honest
    → SettlesEach (g.S.Shelf.shelf c.args.shelf.now) (g.S.Shelf.shelf c.write_some_slots.new.shelf) (nvram c.args.device.0) c.args.count c.args.seen.now c.args.records.now c.closing-closing.result c.lacking-lacking.result
    → SettlesEach (g.S.Shelf.shelf c.args.shelf.now) (g.S.Shelf.shelf c.write_some_gates-2.new.shelf) (nvram c.args.device.0) c.args.count c.args.seen.now c.args.records.now c.closing-closing.result c.lacking-lacking.result
opens g c h second flushed commands long is =
    let d = nvram c.args.device.0 in
    let k1 = c.write_some_gates.ensures.ran.on.continues in
    let k2 = c.write_some_slots.ensures.ran.on.continues in
    let h1 = k1.honest h in
    let so_far = second flushed commands long is in
    let shelf = g.met.S.Shelf.is_shelf c.args.shelf.now in
    let clean2 = c.in_ok-write_some_slots.ensures.clean h1 in
    settling_then (continues_trans k1 k2) so_far (c.write_some_gates-2.ensures.ran.on.writes (k2.honest h1)) (λ x o.
    while_opening _ d flushed c.args.seen.now c.args.records.now commands _ _ (shelf.sizes h d c.requires.device) (shelf.bytes h d) is so_far.flags
    _ ((c.write_some_gates.ensures.ran.on.writes h).device d) (c.in_ok-write_some_gates.ensures.written h) (c.in_ok-write_some_gates.ensures.clean h)
    _ ((c.write_some_slots.ensures.ran.on.writes h1).device d) (c.in_ok-write_some_slots.ensures.written h1) clean2 x o.size (λ k out. o.same k (none_dirty ((g.S.Shelf.shelf c.write_some_slots.new.shelf).disk d) clean2 k) out))

pub returns-clause-ran : goal.returns-clause-ran
returns-clause-ran g c =
    let stays = g.met.S.Shelf.shelf_rest_stays in
    let first = ran_then stays (ran_more (λ d is. is) (on_gates _ c.closing-closing.result) c.write_some_gates.ensures.ran) (ran_more (λ d is. is) (on_slots _ c.lacking-lacking.result) c.write_some_slots.ensures.ran) in
    ran_then stays first (ran_more (λ d is. is) (on_gates _ c.lacking-lacking.result) c.write_some_gates-2.ensures.ran)

pub returns-clause-settled : goal.returns-clause-settled
returns-clause-settled g c h =
    let d = nvram c.args.device.0 in
    let k1 = c.write_some_gates.ensures.ran.on.continues in
    let h1 = k1.honest h in
    let h2 = c.write_some_slots.ensures.ran.on.continues.honest h1 in
    let shelf = g.met.S.Shelf.is_shelf c.args.shelf.now in
    let changes = (c.write_some_gates-2.ensures.ran.on.writes h2).device d in
    where_ok _ _ c.write_some_gates-2.result (c.write_some_gates-2.ensures.written h2) (λ opened flushed commands long is.
    settled _ d flushed c.args.seen.now c.args.records.now commands _ _ (shelf.sizes h d c.requires.device) (shelf.bytes h d) is (closes g (goal.at.returns-clause-settled g c).After-write_some_gates h flushed commands long is).flags
    _ ((c.write_some_gates.ensures.ran.on.writes h).device d) (c.in_ok-write_some_gates.ensures.written h) (c.in_ok-write_some_gates.ensures.clean h)
    _ ((c.write_some_slots.ensures.ran.on.writes h1).device d) (c.in_ok-write_some_slots.ensures.written h1) (c.in_ok-write_some_slots.ensures.clean h1) _ changes.size changes.bytes opened)

pub returns-clause-any_moment : goal.returns-clause-any_moment
returns-clause-any_moment g c h flushed commands long is =
    let k = goal.at.returns-clause-any_moment g c in (opens g k.After-write_some_gates-2 h (copies g k.After-write_some_slots h (closes g k.After-write_some_gates h)) flushed commands long is).any_moment

pub returns-clause-later : goal.returns-clause-later
returns-clause-later g c h flushed commands long is =
    let k = goal.at.returns-clause-later g c in (opens g k.After-write_some_gates-2 h (copies g k.After-write_some_slots h (closes g k.After-write_some_gates h)) flushed commands long is).later
