-- One drive after another is synced.
use Rattle.segment_io.proofs.Prelude.{nat_tests, ◌≡◌, ◌≢◌, ℕ, ◌+◌, ◌<◌, ◌≤◌, Bool, true, false, List, [], length, refl, ◌∙◌, ap, arith, below_more, get_or_past, Device, drive, drives_apart, Shelved, Disk, IsShelf, OthersStay, Continues, WritesOnly, continues_refl, continues_trans, writes_then, nothing_written, is_in, LosesOnly, NoByte, OthersStayBut, loses_none, loses_then, not_before}

pub record Syncs (a b : Shelved) (drives was now : List Bool) (upto : ℕ) : Type 0 where
  pub continues : Continues a b
  pub lost : LosesOnly a b was now
  pub bytes : a.honest → (d : Device) → (b.disk d).bytes ≡ (a.disk d).bytes
  pub clean : a.honest → (slot : ℕ) → slot < upto → is_in drives slot ≡ true → is_in now slot ≡ false → (b.disk (drive slot)).dirty ≡ []
  pub writes : a.honest → WritesOnly NoByte a b
  pub others : OthersStayBut drives a b

pub sync_starts : (a : Shelved) (drives was : List Bool) → IsShelf a → Syncs a a drives was was 0
sync_starts a drives was is = record {
  continues = continues_refl a;
  lost = loses_none a was;
  bytes = λ h d. refl;
  clean = λ h slot lt. absurd (omega (arith, lt));
  writes = λ h. nothing_written a is;
  others = λ d none. refl;
}

-- a drive that isn't of the set is passed over
pub passed_over : (a b : Shelved) (drives was now : List Bool) (slot : ℕ) → is_in drives slot ≡ false → Syncs a b drives was now slot → Syncs a b drives was now (slot + 1)
passed_over a b drives was now slot out syncs = grind (arith, nat_tests, below_more, drive)

pub one_synced : (a b c : Shelved) (drives was mid now : List Bool) (slot : ℕ) → is_in drives slot ≡ true → IsShelf c → Syncs a b drives was mid slot
    → Continues b c → LosesOnly b c mid now
    → (b.honest → is_in now slot ≡ false → (c.disk (drive slot)).dirty ≡ [])
    → (b.honest → (d : Device) → (c.disk d).bytes ≡ (b.disk d).bytes)
    → (b.honest → WritesOnly NoByte b c) → OthersStay (drive slot) b c
    → Syncs a c drives was now (slot + 1)
one_synced a b c drives was mid now slot within is_c so_far continues loses clean bytes writes others = record {
  continues = continues_trans so_far.continues continues;
  lost = loses_then a b c was mid now is_c so_far.continues continues so_far.lost loses;
  bytes = λ h d. bytes (so_far.continues.honest h) d ∙ so_far.bytes h d;
  clean = λ h. below_more (λ k. is_in drives k ≡ true → is_in now k ≡ false → (c.disk (drive k)).dirty ≡ []) slot (earlier h) (λ is none. clean (so_far.continues.honest h) none);
  writes = λ h. writes_then so_far.continues (so_far.writes h) (writes (so_far.continues.honest h));
  others = λ d none. others d (λ e. none (slot, within, e)) ∙ so_far.others d none;
}
  where
    earlier : a.honest → (k : ℕ) → k < slot → is_in drives k ≡ true → is_in now k ≡ false → (c.disk (drive k)).dirty ≡ []
    earlier h k lt is none =
        let ne : k ≢ slot = omega (arith, lt) in
        ap (λ (d : Disk). d.dirty) (others (drive k) (drives_apart k slot ne)) ∙ so_far.clean h k lt is (not_before b c mid now k loses none)

-- the set is as long as its list
pub all_synced : (a b : Shelved) (drives was now : List Bool) (upto : ℕ) → length drives ≤ upto → Syncs a b drives was now upto → a.honest → (slot : ℕ) → is_in drives slot ≡ true → is_in now slot ≡ false → (b.disk (drive slot)).dirty ≡ []
all_synced a b drives was now upto long syncs h slot is none = grind (arith, nat_tests, get_or_past)
