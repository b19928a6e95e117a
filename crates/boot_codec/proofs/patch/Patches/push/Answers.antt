use Rattle.boot_codec.proofs.Prelude.{◌≡◌, length, refl, ap, arith, patches_of}
use Rattle.boot_codec.proofs.PatchLemmas.{parts_kept, patch_pushed, within_pushed, on_err}
use Rattle.boot_codec.proofs.patch.Patches.push.Goals as goal

pub returns-in_err-push-clause-err : goal.returns-in_err-push-clause-err
returns-in_err-push-clause-err c =
    let same : patches_of c.extend_from_slice.new.self.items c.push.new.self.items ≡ c.args.self.now = rw (c.in_err-push.ensures.items, c.in_ok-extend_from_slice.ensures.items, ← c.self.view_is) (parts_kept _ _ _ c.self.invariant) in
    on_err _ same

pub invariant_of-self-2 : goal.invariant_of-self-2
invariant_of-self-2 c =
    rw (c.in_ok-push.ensures.items, c.in_ok-extend_from_slice.ensures.items, c.as_slice.ensures)
    (within_pushed _ _ c.args.patch.now _ c.self.invariant (refl, refl, omega arith, omega (arith, c.in_ok-extend_from_slice.ensures.len, ap length c.as_slice.ensures)))

pub returns-clause-ok : goal.returns-clause-ok
returns-clause-ok c =
    rw (c.in_ok-push.ensures.items, c.in_ok-extend_from_slice.ensures.items, c.as_slice.ensures, ← c.self.view_is)
    (patch_pushed _ _ c.args.patch.now _ c.self.invariant (refl, refl, omega arith, omega (arith, c.in_ok-extend_from_slice.ensures.len, ap length c.as_slice.ensures)))
