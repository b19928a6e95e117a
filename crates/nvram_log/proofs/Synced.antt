-- Devices are synced.
use Rattle.nvram_log.proofs.Prelude.{arith, ◌≡◌, [], Result, Ok, Err, OnOk, refl, ◌∙◌, nat_tests, Device, same_device, Shelved, Disk, WasSynced, OthersStay, Failed}

-- what was clean is clean
pub one_clean : (answer : Result (Unit {0}) Failed) (old new : Disk) → WasSynced answer old new → old.dirty ≡ [] → new.dirty ≡ []
one_clean (Ok x) old new was clean = was.dirty
one_clean (Err x) old new was clean = was.dirty ∙ clean

-- what is true of the synced device before and after, and of one that stays, is true of each
pub on_each : (P : Disk → Disk → Type 0) (a b : Shelved) (device : Device) → OthersStay device a b → P (a.disk device) (b.disk device) → ((d : Disk) → P d d) → (d : Device) → P (a.disk d) (b.disk d)
on_each P a b device others here stays d = grind (arith, nat_tests, same_device)

pub same_bytes : (a b : Shelved) (device : Device) → OthersStay device a b → (b.disk device).bytes ≡ (a.disk device).bytes → (d : Device) → (b.disk d).bytes ≡ (a.disk d).bytes
same_bytes a b device others here = on_each (λ (old new : Disk). new.bytes ≡ old.bytes) a b device others here (λ d. refl)

pub all_clean : (a b : Shelved) (device : Device) → OthersStay device a b → ((a.disk device).dirty ≡ [] → (b.disk device).dirty ≡ []) → (d : Device) → (a.disk d).dirty ≡ [] → (b.disk d).dirty ≡ []
all_clean a b device others here = on_each (λ (old new : Disk). old.dirty ≡ [] → new.dirty ≡ []) a b device others here (λ d clean. clean)

-- an answer of Ok leaves nothing dirty
pub clean_now : (answer : Result (Unit {0}) Failed) (old new : Disk) → WasSynced answer old new → OnOk answer (new.dirty ≡ [])
clean_now (Ok x) old new was = was.dirty
clean_now (Err x) old new was = tt
