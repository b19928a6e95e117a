-- A call behind a fuse.
use Rattle.world_mem.proofs.Prelude.{◌≡◌, ◌≢◌, inl, inr, ⊎_elim, Bool, true, false, ℕ, zero, suc, replicate, slice_index_or, ◌+◌, ◌-◌, ◌≤◌, ◌^◌, List, refl, sym, ap, subst, arith, Result, Ok, Err, Device, Drive, Nv, same_device, Rises, capped, Disk, Shelved, Elapses, WasWritten, front_refl, Failed, Fuse, fused, fused_disk, extra_of, none, tick, from_now, capped_more}
use Rattle.world_mem.specs.declared.extra.Extra.{Extra}

tick_one : (b : Bool) → tick b ≤ 1
tick_one true = omega arith
tick_one false = omega arith

-- a write that went through
pub written : (answer : Result (Unit {0}) Failed) {lapsed more : Type 0} (start : ℕ) (from : List ℕ) {old new : Disk} → (lapsed → more) → WasWritten answer lapsed start from old new → WasWritten answer more start from old new
written (Ok x) {lapsed} {more} start from {old} {new} to was = record { bytes = was.bytes; dirty = was.dirty }
written (Err x) {lapsed} {more} start from {old} {new} to was = record { bytes = was.bytes; dirty = ⊎_elim (λ marked. inl marked) (λ gap. inr (to gap.0, gap.1)) was.dirty }

no_less : (a b : ℕ) → Rises a b → a ≤ b
no_less a b (inl lt) = omega arith
no_less a b (inr end) = omega (arith, end.1)

-- a call that fails behind the fuse
module _ (s : Shelved) (f g : Fuse) (device : Device) (blown : g.blown ≡ true)
    (faults : Rises (extra_of f.drives f.nvram device).faults (extra_of g.drives g.nvram device).faults)
    (write_faults : (extra_of f.drives f.nvram device).write_faults ≤ (extra_of g.drives g.nvram device).write_faults)
    (others : (d : Device) → d ≢ device → extra_of g.drives g.nvram d ≡ extra_of f.drives f.nvram d) where
  more_faults : (d : Device) → (extra_of f.drives f.nvram d).faults ≤ (extra_of g.drives g.nvram d).faults
  more_faults d = elim (same_device d device) [
    | inl e ↦ subst (λ (x : Device). (extra_of f.drives f.nvram x).faults ≤ (extra_of g.drives g.nvram x).faults) (sym e) (no_less _ _ faults)
    | inr ne ↦ omega (arith, ap (λ (x : Extra). x.faults) (others d ne))
  ]

  more_write_faults : (d : Device) → (extra_of f.drives f.nvram d).write_faults ≤ (extra_of g.drives g.nvram d).write_faults
  more_write_faults d = elim (same_device d device) [
    | inl e ↦ subst (λ (x : Device). (extra_of f.drives f.nvram x).write_faults ≤ (extra_of g.drives g.nvram x).write_faults) (sym e) write_faults
    | inr ne ↦ omega (arith, ap (λ (x : Extra). x.write_faults) (others d ne))
  ]

  pub blows : Elapses (fused s f) (fused s g)
  blows = record {
    continues = record {
      drives = refl;
      units = refl;
      honest = λ h. h;
      honest_before = λ h. h;
      lapsed = λ l. inr blown;
      output = front_refl s.output;
      taken = omega arith;
      later = omega (arith, tick_one f.blown, ap tick blown);
      faults = λ d. capped_more _ _ (omega (arith, more_faults d));
      write_faults = λ d. capped_more _ _ (omega (arith, more_write_faults d));
      keeps = λ whole time stop le left. absurd (whole (inr blown));
    };
    quiet = record { output = refl; taken = refl };
    nothing_else = λ time stop le left. ⊎_elim (λ was. inl (inl was)) (λ now. inr (from_now s g stop now)) left;
  }

  pub others_stay : (d : Device) → d ≢ device → fused_disk s g d ≡ fused_disk s f d
  others_stay d ne = λ i. record {
    bytes = (s.disk d).bytes;
    dirty = (s.disk d).dirty;
    faults = capped ((s.disk d).faults + (others d ne i).faults);
    write_faults = capped ((s.disk d).write_faults + (others d ne i).write_faults);
  }

nothing_at : (n k : ℕ) → slice_index_or (replicate n none) k none ≡ none
nothing_at zero k = refl
nothing_at (suc n) zero = refl
nothing_at (suc n) (suc k) = nothing_at n k

-- a fuse has no failures of its own yet
pub unused : (m n : ℕ) (d : Device) → extra_of (replicate m none) (replicate n none) d ≡ none
unused m n (Drive d) = nothing_at m d.0
unused m n (Nv v) = nothing_at n v.0

-- while something is left, it hasn't blown
pub unblown : (blown : Bool) (left : ℕ) → (blown ≡ true → left ≡ 0) → (left ≡ 0 → ⊥) → blown ≡ false
unblown true left out some = absurd (some (out refl))
unblown false left out some = refl
