use Rattle.world_mem.proofs.Prelude.{◌≡◌, false, refl, rules, fuse, passes}
use Rattle.world_mem.proofs.Blowing.{unblown}
use Rattle.world_mem.proofs.fused.FusedShelf.write.Goals as goal

pub returns-clause-time : goal.returns-clause-time
returns-clause-time g c =
    let f = c.args.self.now in
    let some : f.left ≡ 0 → ⊥ = search rules in
    let sound : f.blown ≡ false = unblown f.blown f.left f.blown_out some in
    let it = fuse f.blown f.drives f.nvram in
    passes (g.W.Shelf.shelf f.inner) (g.W.Shelf.shelf c.write.new.self) it it (g.met.W.Shelf.is_shelf f.inner) (g.met.W.Shelf.is_shelf c.write.new.self) f.whole f.whole sound sound c.write.ensures.time

pub returns-clause-rest : goal.returns-clause-rest
returns-clause-rest g c =
    let f = c.args.self.now in
    let some : f.left ≡ 0 → ⊥ = search rules in
    let sound : f.blown ≡ false = unblown f.blown f.left f.blown_out some in
    (c.write.ensures.rest, record { stays = λ blown. blown; within = λ blown. absurd (cc (blown, sound)) }, refl, refl)

pub returns-clause-cut_off : goal.returns-clause-cut_off
returns-clause-cut_off g c blown =
    let f = c.args.self.now in
    let some : f.left ≡ 0 → ⊥ = search rules in
    absurd (some (f.blown_out blown))
