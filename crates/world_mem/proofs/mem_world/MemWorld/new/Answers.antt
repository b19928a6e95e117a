use Rattle.world_mem.proofs.Prelude.{◌≡◌, ◌<◌, ◌*◌, ◌∙◌, ℕ, List, ap, sym, subst, length, arith, length-map, UNIT_BYTES, NVRAM_BYTES, Device, Drive, Nv, IsOf, size_of, NVRAM_DEVICES, Part, disk_of, disks_of, disk_at, IsNew, View, shelved_of}
use Rattle.world_mem.proofs.Torn.{anew}
use Rattle.world_mem.proofs.mem_world.MemWorld.new.Goals as goal

each_new : (drives nvram : List Part) (count units : ℕ) → length drives ≡ count → ((k : ℕ) → k < count → IsNew (UNIT_BYTES * units) (disk_at (disks_of drives) k)) → ((k : ℕ) → k < NVRAM_DEVICES → IsNew NVRAM_BYTES (disk_at (disks_of nvram) k))
    → (d : Device) → IsOf (shelved_of (anew drives nvram units)) d → IsNew (size_of (shelved_of (anew drives nvram units)) d) ((shelved_of (anew drives nvram units)).disk d)
each_new drives nvram count units len each each_nv (Drive d) there = each d.0 (omega (arith, there, len, length-map drives disk_of))
each_new drives nvram count units len each each_nv (Nv n) there = each_nv n.0 there

pub over-requires-clause-drive_sizes : goal.over-requires-clause-drive_sizes
over-requires-clause-drive_sizes c k lt = (c.in_ok-drives.ensures.disks k (rw c.in_ok-drives.ensures.len at lt)).blank.long

pub over-requires-clause-nvram_sizes : goal.over-requires-clause-nvram_sizes
over-requires-clause-nvram_sizes c k lt = (c.in_ok-nvram.ensures.disks k lt).blank.long

pub returns-clause-shape : goal.returns-clause-shape
returns-clause-shape c =
    let view = c.over.ensures.view in
    (ap (λ (v : View). length v.now.drives) view ∙ length-map c.in_ok-drives.drives.items disk_of ∙ c.in_ok-drives.ensures.len, ap (λ (v : View). v.units) view)

pub returns-clause-disks : goal.returns-clause-disks
returns-clause-disks c =
    subst (λ (v : View). (d : Device) → IsOf (shelved_of v) d → IsNew (size_of (shelved_of v) d) ((shelved_of v).disk d)) (sym c.over.ensures.view)
    (each_new c.in_ok-drives.drives.items c.in_ok-nvram.nvram.items c.args.drives c.args.units c.in_ok-drives.ensures.len c.in_ok-drives.ensures.disks c.in_ok-nvram.ensures.disks)

pub returns-clause-sound : goal.returns-clause-sound
returns-clause-sound c = c.over.ensures.sound c.in_ok-drives.ensures.plans c.in_ok-nvram.ensures.plans

pub returns-clause-input : goal.returns-clause-input
returns-clause-input c = (c.over.ensures.input, c.over.ensures.faults.0)

pub returns-clause-output : goal.returns-clause-output
returns-clause-output c = (ap (λ (v : View). v.now.output) c.over.ensures.view, c.over.ensures.faults.1)

pub returns-clause-starts : goal.returns-clause-starts
returns-clause-starts c = let view = c.over.ensures.view in (ap (λ (v : View). v.now.taken) view, ap (λ (v : View). v.calls) view, ap (λ (v : View). v.starved) view)
