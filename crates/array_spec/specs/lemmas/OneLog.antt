-- A view has one log over a base.
use Rattle.std.proofs.Common.{◌≡◌, ℕ, suc, ◌+◌, List, [], ◌∷◌, refl, sym, subst, inl, inr}
use Rattle.std.specs.Prelude.{Option, Some}
use Rattle.boot_codec.specs.Prelude.{View, nvram, Array, Command}
use Rattle.pur_base.specs.Commands.{after}
use Rattle.log_codec.specs.Prelude.{Shows, Spells, slot_at, IsInSlot, LogFrom}
use Rattle.log_codec.proofs.OneHead.{one_command}
use Rattle.array_spec.specs.lemmas.Mediums.{same_some}

-- a device shows one command in a slot
pub one_shown : (view : View) (device flushed i : ℕ) (c d : Command) → Shows view device flushed i c → Shows view device flushed i d → c ≡ d
one_shown view device flushed i c d s t =
    one_command (slot_at i s.bytes) (flushed + 1 + i) c d s.spelled
    (subst (λ (b : List ℕ). Spells (slot_at i b) (flushed + 1 + i) d) (same_some (view (nvram device)) t.shown s.shown) t.spelled)

pub one_in_slot : (view : View) (flushed i : ℕ) (c d : Command) → IsInSlot view flushed i c → IsInSlot view flushed i d → c ≡ d
one_in_slot view flushed i c d (inl s) (inl t) = one_shown view 0 flushed i c d s t
one_in_slot view flushed i c d (inl s) (inr (none, t)) = absurd (none c s)
one_in_slot view flushed i c d (inr (none, s)) (inl t) = absurd (none d t)
one_in_slot view flushed i c d (inr (none, s)) (inr (none2, t)) = one_shown view 1 flushed i c d s t

pub one_log : (view : View) (flushed i : ℕ) (base : Array) (cs ds : List Command) → LogFrom view flushed i base cs → LogFrom view flushed i base ds → cs ≡ ds
one_log view flushed i base [] [] s t = refl
one_log view flushed i base [] (d ∷ ds) s t = absurd (s d t.0 t.1)
one_log view flushed i base (c ∷ cs) [] s t = absurd (t c s.0 s.1)
one_log view flushed i base (c ∷ cs) (d ∷ ds) s t =
    let same : c ≡ d = one_in_slot view flushed i c d s.0 t.0 in
    let rest : cs ≡ ds = one_log view flushed (suc i) (after base c) cs ds s.2 (subst (λ (x : Command). LogFrom view flushed (suc i) (after base x) ds) (sym same) t.2) in
    λ k. same k ∷ rest k
