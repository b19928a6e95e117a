-- Counts of failed writes over more than one run, and what is lost with them.
use Rattle.array_core.proofs.Prelude.{nat_tests, ◌≡◌, inl, inr, ℕ, ◌+◌, ◌^◌, ◌≤◌, ◌<◌, List, arith, Bool, cases_lt, drive, nvram, set_count, Rises, Shelved, Continues, continues_refl, DroppedFailed, LostWrites, StoreFault, Register, IsFaultOf, drives_of, fewer_count, in_cut, LostDrives, LostLog}
use Rattle.register.specs.declared.next.StoreFault.TheVariants.{Spent, TooFew}

-- ---- counts

pub rises_on : (a b c d : ℕ) → a ≤ b → Rises b c → c ≤ d → Rises a d
rises_on a b c d le (inl lt) ge = inl (omega (arith, le, lt, ge))
rises_on a b c d le (inr (top, same)) ge = elim (cases_lt a d) [
  | inl lt ↦ inl lt
  | inr back ↦ inr (omega (arith, le, top, same, ge, back), omega (arith, le, top, same, ge, back))
]

pub rises_since : (a b c d : Shelved) → Continues a b → Continues c d → (i : ℕ) → LostWrites (b.disk (drive i)) (c.disk (drive i)) → LostWrites (a.disk (drive i)) (d.disk (drive i))
rises_since a b c d first last i lost = grind (arith, nat_tests, rises_on, drive)

-- ---- drives

pub dropped_then : (a b c : Shelved) → Continues a b → Continues b c → (was mid now : List Bool) → DroppedFailed a b was mid → DroppedFailed b c mid now → DroppedFailed a c was now
dropped_then a b c ab bc was mid now first next i m = grind (arith, nat_tests, rises_since, continues_refl)

-- ---- too much

-- where no record was stored, more than two drives aren't left
pub drives_lost : (start now : Shelved) (was r : Register) → r.record.slots ≡ was.record.slots → DroppedFailed start now (drives_of was) (drives_of r) → r.record.generation + 1 < 2 ^ 48
    → (e : StoreFault) → IsFaultOf r e → LostDrives start now was
drives_lost start now was r slots dropped low (TooFew left) fault = record {
  left = drives_of r;
  dropped = dropped;
  too_few =
      let fewer : set_count (drives_of r) ≤ set_count r.drives = fewer_count (drives_of r) r.drives (λ i mem. in_cut r.drives r.record.slots i mem) in
      omega (arith, slots, fewer, fault.1);
}
drives_lost start now was r slots dropped low Spent fault = absurd (omega (arith, low, fault.1))

pub log_lost_since : (a b c : Shelved) → Continues a b → (members : List Bool) → LostLog b c members → LostLog a c members
log_lost_since a b c ab members lost n lt m =
    rises_on (a.disk (nvram n)).write_faults (b.disk (nvram n)).write_faults (c.disk (nvram n)).write_faults (c.disk (nvram n)).write_faults (ab.write_faults (nvram n)) (lost n lt m) (omega arith)
