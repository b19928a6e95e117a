-- Which devices an opening runs on, and which bytes it writes.
use Rattle.takeover.proofs.Prelude.{nat_tests, ◌≡◌, ℕ, ap, arith, Bool, List, Device, Drive, Nv, nvram, BootSlot, gate_place, Shelved, Disk, Continues, IsSame, WritesOnly, Ran, Runs, IsDrive, OnClosed, IsNvram, IsOnMember, OnMembers, OnSlots, OnGates, OffSegments}
use Rattle.register.proofs.Splice.{in_boot}

pub nvram_of : (members : List Bool) (d : Device) → IsOnMember members d → IsNvram d
nvram_of members (Drive k) is = is
nvram_of members (Nv n) is = tt

pub on_gates : (flags : List Bool) (shelf : Shelved) (slot : BootSlot) (d : Device) (i : ℕ) → OnClosed flags shelf (gate_place slot) d i → OnGates d i
on_gates flags shelf slot d i h = grind (arith, nat_tests)

-- none of these are of segments
pub gates_off : (d : Device) (i : ℕ) → OnGates d i → OffSegments d i
gates_off d i h = grind (arith, nat_tests)

pub log_off : (members : List Bool) (d : Device) (i : ℕ) → OnMembers members d i → OffSegments d i
log_off members (Drive k) i w = absurd w
log_off members (Nv n) i w = tt

pub slots_off : (members : List Bool) (d : Device) (i : ℕ) → OnSlots members d i → OffSegments d i
slots_off members d i h = grind (arith, nat_tests, in_boot)

-- what runs on drives leaves NVRAM devices as they were
pub nvrams_still : {W : Device → ℕ → Type 0} {a b : Shelved} → Runs IsDrive W a b → (n : ℕ) → IsSame (a.disk (nvram n)) (b.disk (nvram n))
nvrams_still run n = let same = run.others (nvram n) (λ none. none) in record { bytes = ap (λ (k : Disk). k.bytes) same; dirty = ap (λ (k : Disk). k.dirty) same }

pub ran_on_drives : {X : Type 0} {shelf : X → Shelved} {same_rest : X → X → Type 0} {W : Device → ℕ → Type 0} {a b : X} → Continues (shelf a) (shelf b) → ((n : ℕ) → (shelf b).disk (nvram n) ≡ (shelf a).disk (nvram n))
    → ((shelf a).honest → WritesOnly W (shelf a) (shelf b)) → same_rest a b → Ran shelf same_rest IsDrive W a b
ran_on_drives {shelf = shelf} {a = a} {b = b} on nvrams writes rest = grind (arith, nat_tests)
