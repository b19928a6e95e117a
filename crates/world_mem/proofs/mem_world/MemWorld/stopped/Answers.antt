use Rattle.world_mem.proofs.Prelude.{◌≡◌, ◌∙◌, [], ap, sym, subst, length, Device, MayStop, View, shelved, shelved_of, image_now}
use Rattle.world_mem.proofs.Steps.{same_length}
use Rattle.world_mem.proofs.Torn.{torn_each, may_stop, is_clean}
use Rattle.world_mem.proofs.mem_world.MemWorld.stopped.Goals as goal

pub over-requires-clause-drives_in : goal.over-requires-clause-drives_in
over-requires-clause-drives_in g c =
    let w = c.args.self.now in
    let len = c.in_ok-drives.ensures.len ∙ ap length c.deref.ensures.value in
    rw len w.drives_in

pub over-requires-clause-drive_sizes : goal.over-requires-clause-drive_sizes
over-requires-clause-drive_sizes g c k lt =
    let w = c.args.self.now in
    let x = c.in_ok-drives.ensures in
    let len = x.len ∙ ap length c.deref.ensures.value in
    (torn_each w.drives.items c.deref.result.now c.in_ok-drives.drives.items c.deref.ensures.value x.len x.disks k).left.size ∙ w.drive_sizes k (rw len at lt)

pub over-requires-clause-nvram_sizes : goal.over-requires-clause-nvram_sizes
over-requires-clause-nvram_sizes g c k lt =
    let w = c.args.self.now in
    let x = c.in_ok-nvram.ensures in
    (torn_each w.nvram.items c.deref-2.result.now c.in_ok-nvram.nvram.items c.deref-2.ensures.value x.len x.disks k).left.size ∙ w.nvram_sizes k lt

pub returns-clause-left : goal.returns-clause-left
returns-clause-left g c =
    let w = c.args.self.now in
    let x = c.in_ok-drives.ensures in
    let y = c.in_ok-nvram.ensures in
    subst (λ (v : View). MayStop (shelved w) (image_now (shelved w) (shelved_of v))) (sym c.over.ensures.view)
    (may_stop w c.in_ok-drives.drives.items c.in_ok-nvram.nvram.items w.units
    (torn_each w.drives.items c.deref.result.now c.in_ok-drives.drives.items c.deref.ensures.value x.len x.disks)
    (torn_each w.nvram.items c.deref-2.result.now c.in_ok-nvram.nvram.items c.deref-2.ensures.value y.len y.disks))

pub returns-clause-shape : goal.returns-clause-shape
returns-clause-shape g c =
    let view = c.over.ensures.view in
    let len = c.in_ok-drives.ensures.len ∙ ap length c.deref.ensures.value in
    (ap (λ (v : View). length v.now.drives) view ∙ same_length c.args.self.now.drives.items c.in_ok-drives.drives.items len, ap (λ (v : View). v.units) view)

pub returns-clause-clean : goal.returns-clause-clean
returns-clause-clean g c =
    let w = c.args.self.now in
    let x = c.in_ok-drives.ensures in
    let y = c.in_ok-nvram.ensures in
    subst (λ (v : View). (d : Device) → ((shelved_of v).disk d).dirty ≡ []) (sym c.over.ensures.view)
    (is_clean w c.in_ok-drives.drives.items c.in_ok-nvram.nvram.items w.units
    (torn_each w.drives.items c.deref.result.now c.in_ok-drives.drives.items c.deref.ensures.value x.len x.disks)
    (torn_each w.nvram.items c.deref-2.result.now c.in_ok-nvram.nvram.items c.deref-2.ensures.value y.len y.disks))

pub returns-clause-sound : goal.returns-clause-sound
returns-clause-sound g c = c.over.ensures.sound c.in_ok-drives.ensures.plans c.in_ok-nvram.ensures.plans

pub returns-clause-streams : goal.returns-clause-streams
returns-clause-streams g c = (c.over.ensures.input ∙ c.new.ensures.items, ap (λ (v : View). v.now.output) c.over.ensures.view)

pub returns-clause-starts : goal.returns-clause-starts
returns-clause-starts g c = let view = c.over.ensures.view in (ap (λ (v : View). v.calls) view, ap (λ (v : View). v.starved) view)
