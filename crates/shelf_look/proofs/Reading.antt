-- One read, and one call of a shelf that tells no contents.
use Rattle.shelf_look.proofs.Prelude.{◌≡◌, ◌≢◌, ◌≤◌, ℕ, [], inl, inr, refl, sym, subst, ap, arith, Result, same_device, Device, Failed, Rises, Shelved, Disk, Elapses, IsSame, IsShelf, OthersStay, ReadCounts, read_writes, capped, faults_of, tally_of, write_faults_of, no_bytes, untold, untold_elapses, Tallies, Tally}
use Rattle.shelf_look.specs.Reads.{AreOnlyRead, NoByte}

pub one_read : {answer : Result (Unit {0}) Failed} (a b : Shelved) (device : Device) → IsShelf a → Elapses a b → OthersStay device a b → (a.honest → IsSame (a.disk device) (b.disk device))
    → ReadCounts answer (a.disk device) (b.disk device) → AreOnlyRead a b
one_read {answer} a b device is time others same counts = record {
  continues = time.continues;
  same = λ h d. elim (same_device d device) [
    | inl e ↦ subst (λ (x : Device). IsSame (a.disk x) (b.disk x)) (sym e) (same h)
    | inr ne ↦ subst (λ (x : Disk). IsSame (a.disk d) x) (sym (others d ne)) (record { bytes = refl; dirty = refl })
  ];
  writes = λ h. read_writes NoByte device is time others (same h);
  write_faults = λ d. elim (same_device d device) [
    | inl e ↦ subst (λ (x : Device). (b.disk x).write_faults ≡ (a.disk x).write_faults) (sym e) counts.write_faults
    | inr ne ↦ ap (λ (x : Disk). x.write_faults) (others d ne)
  ];
}

-- a count that rises is no less
pub risen : (before now : ℕ) → Rises before now → before ≤ now
risen before now (inl lt) = omega (arith, lt)
risen before now (inr end) = omega (arith, end.1)

module _ (drives units : ℕ) (a b : Tallies) (device : Device) (others : (d : Device) → d ≢ device → tally_of b d ≡ tally_of a d) where
  stays : (read : Tally → ℕ) → read (tally_of a device) ≤ read (tally_of b device) → (d : Device) → read (tally_of a d) ≤ read (tally_of b d)
  stays read here d = elim (same_device d device) [
    | inl e ↦ subst (λ (x : Device). read (tally_of a x) ≤ read (tally_of b x)) (sym e) here
    | inr ne ↦ let same = ap read (others d ne) in omega (arith, same)
  ]

  -- a call that failed was counted
  pub counted_elapses : Rises (faults_of a device) (faults_of b device) → write_faults_of a device ≤ write_faults_of b device → Elapses (untold drives units a) (untold drives units b)
  counted_elapses up writes = untold_elapses drives units a b (stays (λ t. capped t.faults) (risen _ _ up)) (stays (λ t. capped t.write_faults) writes)

  pub counted_others : OthersStay device (untold drives units a) (untold drives units b)
  counted_others d ne = ap (λ (t : Tally). record { bytes = no_bytes; dirty = []; faults = capped t.faults; write_faults = capped t.write_faults }) (others d ne)
