-- Calls for a target.
use Rattle.segment_io.proofs.Prelude.{nat_tests, ◌≡◌, ◌≢◌, ◌⊎◌, inl, inr, ℕ, ◌+◌, ◌*◌, ◌<◌, Bool, true, false, List, length, refl, sym, ◌∙◌, ap, subst, arith, below_more, Result, slice_set, ◌==◌, get_or-set_same, get_or-set_other, cases_eq, bytes_at, Device, Place, Rises, Shelved, Disk, IsShelf, IsSame, Continues, OthersStay, Elapses, WasWritten, OneRange, WritesOnly, continues_refl, continues_trans, writes_then, writes_more, nothing_written, write_writes, View, shard_of, Failed, ArePlaces, place_of, drive_of, write_unit_at, OthersStayOf, NoByte, bytes_of, unit_in, is_unknown, is_missing_in, Tried, IsOn, AreLost, ShowsPresent, StripeStands, OthersAreSame, Rebuilds, AreRebuilt, IsFaultOf, is_wanted, rises_then, part_stays}
use Rattle.segment_io.proofs.InTurn.{nothing}
use Rattle.segment_io.specs.declared.rebuilding.RebuildFault.{RebuildFault}
use Rattle.segment_io.specs.declared.rebuilding.RebuildFault.TheVariants.{Lost, Target}
use Rattle.segment_io.proofs.Gathers.{same_then}
use Rattle.segment_io.proofs.Progress.{apart}
use Rattle.segment_io.proofs.Tried.{tried_none, tried_then, lost_in_all, agrees_at}

same_disk : (a b : Disk) → b ≡ a → IsSame a b
same_disk a b e = record { bytes = ap (λ (d : Disk). d.bytes) e; dirty = ap (λ (d : Disk). d.dirty) e }

-- a call on the target alone
pub tried_target : (a b c : Shelved) (places : List Place) (said : ℕ → Bool) (flags : List Bool) (target : ℕ) → ArePlaces a places → target < 9 → Tried a b places said flags → is_unknown flags target ≡ true → said target ≡ true → OthersStay (drive_of places target) b c → Tried a c places said flags
tried_target a b c places said flags target are within tried wanted was others = record {
  cause = λ k lt is. elim (cases_eq k target) [
    | inl e ↦ inl (ap said e ∙ was)
    | inr ne ↦ subst (λ (d : Disk). (said k ≡ true) ⊎ Rises (a.disk (drive_of places k)).faults d.faults) (sym (others (drive_of places k) (apart a places k target are ne lt within))) (tried.cause k lt is)
  ];
  counts = λ k lt clear. elim (cases_eq k target) [
    | inl e ↦ absurd (cc (ap (is_unknown flags) e, wanted, clear))
    | inr ne ↦ subst (λ (d : Disk). (said k ≡ false) × (d.faults ≡ (a.disk (drive_of places k)).faults)) (sym (others (drive_of places k) (apart a places k target are ne lt within))) (tried.counts k lt clear)
  ];
}

-- a codeword that is on the drives after it was so before
pub on_before : (a b c : Shelved) (places : List Place) (flags : List Bool) (target stripe : ℕ) (whole : List (List ℕ)) → ArePlaces a places → target < 9 → is_unknown flags target ≡ true → OthersStay (drive_of places target) b c → IsOn a c places flags stripe whole → IsOn a b places flags stripe whole
on_before a b c places flags target stripe whole are within wanted others on = record {
  codeword = on.codeword;
  agrees = λ k lt known counts. elim (cases_eq k target) [
    | inl e ↦ absurd (cc (ap (is_unknown flags) e, wanted, known))
    | inr ne ↦ on.agrees k lt known (ap (λ (d : Disk). d.faults) (others (drive_of places k) (apart a places k target are ne lt within)) ∙ counts)
  ];
}

pub same_but : (a b c : Shelved) (device : Device) → ((d : Device) → IsSame (a.disk d) (b.disk d)) → OthersStay device b c → OthersAreSame device a c
same_but a b c device same others d ne = same_then (same d) (same_disk (b.disk d) (c.disk d) (others d ne))

pub rebuilds_none : (a : Shelved) (places : List Place) (target stripes : ℕ) (flags : List Bool) → IsShelf a → is_unknown flags target ≡ true → Rebuilds a a places target 1 stripes (is_unknown flags) flags
rebuilds_none a places target stripes flags is wanted = record {
  continues = continues_refl a;
  tried = tried_none a places (is_unknown flags) flags (λ k lt. refl);
  wanted = wanted;
  same = λ h d ne. record { bytes = refl; dirty = refl };
  writes = λ h. nothing_written a is;
  others = λ d none. refl;
}

in_all : (places : List Place) (target stripe stripes : ℕ) → stripe < stripes → (d : Device) (i : ℕ) → OneRange (drive_of places target) (write_unit_at (place_of places target) (stripe + 1)) (4096 * 1) d i
    → OneRange (drive_of places target) (write_unit_at (place_of places target) 1) (4096 * stripes) d i
in_all places target stripe stripes lt d i w = (w.0, (omega (arith, w.1.0), omega (arith, w.1.1, lt)))

-- one stripe more
pub rebuilds_more : (a b c : Shelved) (places : List Place) (target stripe stripes : ℕ) (said : ℕ → Bool) (mid now : List Bool) → IsShelf c → stripe < stripes → Rebuilds a b places target 1 stripes said mid
    → Rebuilds b c places target (stripe + 1) 1 (is_unknown mid) now → Rebuilds a c places target 1 stripes said now
rebuilds_more a b c places target stripe stripes said mid now is_c lt so_far one = record {
  continues = continues_trans so_far.continues one.continues;
  tried = tried_then a b c places said mid now is_c so_far.continues one.continues so_far.tried one.tried;
  wanted = one.wanted;
  same = λ h d ne. same_then (so_far.same h d ne) (one.same (so_far.continues.honest h) d ne);
  writes = λ h. writes_then so_far.continues (so_far.writes h) (writes_more (in_all places target stripe stripes lt) (one.writes (so_far.continues.honest h)));
  others = λ d none. one.others d none ∙ so_far.others d none;
}

pub rebuilt_none : (a : Shelved) (places : List Place) (target : ℕ) (said : ℕ → Bool) → AreRebuilt a a places target said 0
rebuilt_none a places target said stripe whole lt = absurd (omega (arith, lt))

pub rebuilt_more : (a b c : Shelved) (places : List Place) (target stripe stripes : ℕ) (said : ℕ → Bool) (mid now : List Bool) → ArePlaces a places → target < 9 → a.honest → said target ≡ true → Rebuilds a b places target 1 stripes said mid
    → Rebuilds b c places target (stripe + 1) 1 (is_unknown mid) now
    → ((whole : List (List ℕ)) → IsOn b c places mid stripe whole → unit_in (bytes_of c) places (stripe + 1) target ≡ shard_of whole target)
    → AreRebuilt a b places target said stripe → AreRebuilt a c places target said (stripe + 1)
rebuilt_more a b c places target stripe stripes said mid now are within h was so_far one new done k whole lt codeword agrees =
    below_more (λ k. ((shard : ℕ) → shard < 9 → said shard ≡ false → unit_in (bytes_of a) places (k + 1) shard ≡ shard_of whole shard) → unit_in (bytes_of c) places (k + 1) target ≡ shard_of whole target) stripe
    (λ k lt agrees. stays k lt ∙ done k whole lt codeword agrees)
    (λ agrees. new whole (record {
      codeword = codeword;
      agrees = λ shard lt known counts. let t = so_far.tried.counts shard lt known in
          ap (bytes_at (write_unit_at (place_of places shard) (stripe + 1)) 4096) (so_far.same h (drive_of places shard) (other shard lt t.0)).bytes ∙ agrees shard lt t.0;
    }))
    k lt agrees
  where
    other : (shard : ℕ) → shard < 9 → said shard ≡ false → drive_of places shard ≢ drive_of places target
    other shard lt clear = elim (cases_eq shard target) [
      | inl e ↦ absurd (cc (ap said e, was, clear))
      | inr ne ↦ apart a places shard target are ne lt within
    ]

    stays : (k : ℕ) → k < stripe → unit_in (bytes_of c) places (k + 1) target ≡ unit_in (bytes_of b) places (k + 1) target
    stays k lt =
        let d = drive_of places target in
        part_stays (OneRange d (write_unit_at (place_of places target) (stripe + 1)) (4096 * 1) d) (b.disk d) (c.disk d) (write_unit_at (place_of places target) (k + 1)) 4096 ((one.writes (so_far.continues.honest h)).device d)
        (λ i from to w. omega (arith, lt, to, w.1.0))

pub wanted_still : (a b : Shelved) (places : List Place) (said : ℕ → Bool) (now : List Bool) (target : ℕ) → target < 9 → Tried a b places said now → said target ≡ true → is_unknown now target ≡ true
wanted_still a b places said now target within tried was = grind (arith, nat_tests)

-- a fault of a part is one of the whole
pub fault_in_all : (a b c : Shelved) (places : List Place) (said : ℕ → Bool) (flags : List Bool) (target : ℕ) (fault : RebuildFault) → IsShelf c → Continues a b → Continues b c → Tried a b places said flags → IsFaultOf b c places (is_unknown flags) target fault → IsFaultOf a c places said target fault
fault_in_all a b c places said flags target (Lost lost) is_c ab bc tried is = lost_in_all a b c places said flags lost.drives is_c ab bc tried is
fault_in_all a b c places said flags target Target is_c ab bc tried is =
    let d = drive_of places target in
    (rises_then (a.disk d).faults (b.disk d).faults (c.disk d).faults (ab.faults d) is.0, rises_then (a.disk d).write_faults (b.disk d).write_faults (c.disk d).write_faults (ab.write_faults d) is.1)

-- of which the same was said
pub lost_as : (a c : Shelved) (places : List Place) (said other : ℕ → Bool) (drives : List Bool) → ((k : ℕ) → k < 9 → said k ≡ other k) → AreLost a c places said drives → AreLost a c places other drives
lost_as a c places said other drives as_said lost = grind (arith, nat_tests)

pub fault_as : (a c : Shelved) (places : List Place) (said other : ℕ → Bool) (target : ℕ) (fault : RebuildFault) → ((k : ℕ) → k < 9 → said k ≡ other k) → IsFaultOf a c places said target fault → IsFaultOf a c places other target fault
fault_as a c places said other target (Lost lost) as_said is = lost_as a c places said other lost.drives as_said is
fault_as a c places said other target Target as_said is = is

eqb_false : (k target : ℕ) → k ≢ target → (k == target) ≡ false
eqb_false k target ne = grind (arith, nat_tests)

-- the shards that are wanted: those on missing drives, and the target
pub wanted_flags : (missing flags : List Bool) (places : List Place) (target : ℕ) → length flags ≡ 9 → target < 9 → ((k : ℕ) → k < 9 → is_unknown flags k ≡ is_missing_in missing places k) → (k : ℕ) → k < 9 → is_unknown (slice_set flags target true) k ≡ is_wanted target missing places k
wanted_flags missing flags places target nine within are k lt = grind (arith, nat_tests, slice_set, get_or-set_same, get_or-set_other, eqb_false)

-- the stripe is read, and one write unit of the target written
pub written_run : (a b c : Shelved) (places : List Place) (target stripe : ℕ) (said : ℕ → Bool) (now : List Bool) {answer : Result (Unit {0}) Failed} {from : List ℕ} → ArePlaces a places → target < 9 → IsShelf b → Continues a b → Tried a b places said now → said target ≡ true
    → (a.honest → (d : Device) → IsSame (a.disk d) (b.disk d)) → (a.honest → WritesOnly NoByte a b) → OthersStayOf places a b
    → Elapses b c → length from ≡ 4096
    → (b.honest → WasWritten answer c.lapsed (write_unit_at (place_of places target) (stripe + 1)) from (b.disk (drive_of places target)) (c.disk (drive_of places target)))
    → OthersStay (drive_of places target) b c → Rebuilds a c places target (stripe + 1) 1 said now
written_run a b c places target stripe said now {answer} {from} are within is_b ab tried was same writes others time size written alone = record {
  continues = continues_trans ab time.continues;
  tried = tried_target a b c places said now target are within tried wanted was alone;
  wanted = wanted;
  same = λ h. same_but a b c (drive_of places target) (same h) alone;
  writes = λ h. writes_then ab (nothing (OneRange (drive_of places target) (write_unit_at (place_of places target) (stripe + 1)) (4096 * 1)) (writes h))
      (write_writes (OneRange (drive_of places target) (write_unit_at (place_of places target) (stripe + 1)) (4096 * 1)) (drive_of places target) is_b time alone (written (ab.honest h)) (λ i is. (refl, (is.0, omega (arith, is.1, size)))));
  others = λ d none. alone d (λ e. none (target, within, e)) ∙ others d none;
}
  where
    wanted : is_unknown now target ≡ true
    wanted = wanted_still a b places said now target within tried was

-- of which nothing was said, the drives are shown
said_none : (target : ℕ) (missing : List Bool) (places : List Place) (k : ℕ) → is_wanted target missing places k ≡ false → is_missing_in missing places k ≡ false
said_none target missing places k clear = grind (arith, nat_tests)

-- what is rebuilt is what the view shows
pub shown_rebuilt : (a b : Shelved) (places : List Place) (missing : List Bool) (target stripes : ℕ) (said : ℕ → Bool) (view : View) (stripe : ℕ) (whole : List (List ℕ)) → ArePlaces a places → ((k : ℕ) → k < 9 → said k ≡ is_wanted target missing places k)
    → AreRebuilt a b places target said stripes → stripe < stripes → ShowsPresent a places missing view → StripeStands view places stripe whole → unit_in (bytes_of b) places (stripe + 1) target ≡ shard_of whole target
shown_rebuilt a b places missing target stripes said view stripe whole are as_said done lt shows stands =
    done stripe whole lt stands.codeword
    (λ k within clear. agrees_at view (stripe + 1) whole places k (bytes_of a (drive_of places k)) stands.agrees (omega (arith, within, are.nine)) (shows k within (said_none target missing places k (sym (as_said k within) ∙ clear))))
