-- The log depends on what the NVRAM devices show alone.
use Rattle.std.proofs.Common.{◌≡◌, ℕ, suc, List, [], ◌∷◌, refl, sym, inl, inr, ◌∙◌}
use Rattle.boot_codec.specs.Prelude.{Command, View, nvram, Conditions, without_missing, Array}
use Rattle.log_codec.specs.Prelude.{Shows, IsInSlot, LogFrom}
use Rattle.array_spec.specs.Standing.{LeadsInto}

pub shows_move : (m n : View) → ((j : ℕ) → m (nvram j) ≡ n (nvram j)) → (which flushed i : ℕ) (c : Command) → Shows m which flushed i c → Shows n which flushed i c
shows_move m n same which flushed i c s = record { slot = s.slot; bytes = s.bytes; shown = sym (same which) ∙ s.shown; gate = s.gate; spelled = s.spelled }

pub slot_moves : (m n : View) → ((j : ℕ) → m (nvram j) ≡ n (nvram j)) → (flushed i : ℕ) (c : Command) → IsInSlot m flushed i c → IsInSlot n flushed i c
slot_moves m n same flushed i c (inl s) = inl (shows_move m n same 0 flushed i c s)
slot_moves m n same flushed i c (inr (nobody, s)) = inr (λ d t. nobody d (shows_move n m (λ j. sym (same j)) 0 flushed i d t), shows_move m n same 1 flushed i c s)

pub log_moves : (m n : View) → ((j : ℕ) → m (nvram j) ≡ n (nvram j)) → (flushed i : ℕ) (array : Array) (cs : List Command) → LogFrom m flushed i array cs → LogFrom n flushed i array cs
log_moves m n same flushed i array [] s = λ c t. s c (slot_moves n m (λ j. sym (same j)) flushed i c t)
log_moves m n same flushed i array (c ∷ cs) s = (slot_moves m n same flushed i c s.0, s.1, log_moves m n same flushed (suc i) _ cs s.2)

pub leads_move : (missing : Conditions) (m n : View) → ((j : ℕ) → m (nvram j) ≡ n (nvram j)) → (flushed : ℕ) (base : Array) (arrays : List Array)
    → LeadsInto missing m flushed base arrays → LeadsInto missing n flushed base arrays
leads_move missing m n same flushed base arrays s = record {
  log = s.log;
  log_stands = log_moves m n same flushed 0 base s.log s.log_stands;
  devices_agree = λ i c d t u. s.devices_agree i c d (shows_move n m (λ j. sym (same j)) 0 flushed i c t) (shows_move n m (λ j. sym (same j)) 1 flushed i d u);
  least = s.least;
  least_stands = log_moves (without_missing missing m) (without_missing missing n) fewer flushed 0 base s.least s.least_stands;
  enough = s.enough;
  fronts = s.fronts;
}
  where
    fewer : (j : ℕ) → without_missing missing m (nvram j) ≡ without_missing missing n (nvram j)
    fewer j = rw (same j) refl
