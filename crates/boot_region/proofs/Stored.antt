-- A whole store, from what its phases say.
use Rattle.boot_region.proofs.Prelude.{nat_tests, ◌≡◌, ◌⊎◌, inl, inr, ℕ, zero, suc, ◌+◌, ◌*◌, ◌≤◌, ◌<◌, List, [], length, refl, sym, ◌∙◌, ap, subst, arith, Bool, false, cond, Result, Ok, Err, OnOk, Some, ◌∷◌, true, count_by, slice_index_or, if◌then◌else◌, range_with_len, bytes_eq, same_text, cases_Bool, Device, SECTOR_BYTES, UNIT_BYTES, Condition, Conditions, Sound, Missing, LeftOut, IsBearable, IsWithin, MayBecome, is_sound, is_missing, drive, Array, RECORD_BYTES, BootRecord, set_count, spelling, BootSlot, IsRecordOf, other_slot, gate_place, body_place, body_in, shown_by, Yields, generation_in, Stands, MayBeGiven, MayAppear, is_sound_vote, counted, held_is_given, sound_before, twice_other, Rises, Shelved, Stop, MayStop, IsShelf, IsIn, Continues, Written, IsCountedBy, LeavesOnly, ChangesOnly, LeavesBut, geometry_of, IsLater, continues_trans, continues_refl, as_read, risen_on_way, IsMember, IsOneOf, OnSlot, OnMembers, OnNotShut, Outcome, Closed, LostWrites, DroppedFailed, LosesOnlyFailed, AreClean, AreClosed, AreOlder, SoundAreMembers, ComesOf, Closes, Writes, Opens, IsInForceOn, MayFollow, AccountsFor, IsInStore, GivesNoMore, HeldStill, IsOpening, StandsBut, StandsNow, IsNewer, IsStored, IsStoredOn, IsFirmOn, AreEnough, StandsAgain, gate_same, member_below, body_low, body_is, bodies_same, other_same, other_body_same, other_shown_same, shown_body}
use Rattle.array_spec.specs.Prelude.{IsHeld}
use Rattle.pur_base.specs.declared.device.Device.TheVariants as dev
use Rattle.boot_region.proofs.Composing.{borne, votes_not, IsBorneOn, differs_then, still_while_closing, still_while_writing, gives_while_closing, gives_while_writing, gives_while_opening, while_closing, while_writing, while_writing_over, while_opening, as_it_is, is_sound_is}
use Rattle.boot_region.proofs.Phases.{closes_gates, writes_bodies, opens_gates}

-- a count that rose on the way rose
pub rises_between : (a b c d : ℕ) → a ≤ b → Rises b c → c ≤ d → Rises a d
rises_between a b c d ab (inl lt) cd = inl (omega (arith, ab, lt, cd))
rises_between a b c d ab (inr full) cd = grind (arith, nat_tests)

pub count_none : (p : ℕ → Bool) (a n : ℕ) → ((i : ℕ) → a ≤ i → i < a + n → p i ≡ false) → count_by p (range_with_len a n) ≡ 0
count_none p a zero all = refl
count_none p a (suc n) all = grind (arith, nat_tests, counted p a (range_with_len (a + 1) n), count_none p (a + 1) n (λ i low lt. all i (omega (arith, low)) (omega (arith, lt))))

-- a stop that comes of one at the beginning has as many failures, or more
pub counted_by : {old : Shelved} {R : Stop → Stop → Type 0} {stop : Stop} → ComesOf old R stop → IsCountedBy old stop
counted_by {old} {R} {stop} l = grind (arith, nat_tests)

later_then : {a b c : Stop} → IsLater a b → IsLater b c → IsLater a c
later_then {a} {b} {c} ab bc = record { faults = λ k. omega (arith, ab.faults k, bc.faults k); write_faults = λ k. omega (arith, ab.write_faults k, bc.write_faults k) }

-- one that was dropped in either of two steps lost a write
pub dropped_then : (a b c : Shelved) (m0 m1 m2 : List Bool) → Continues a b → Continues b c → DroppedFailed a b m0 m1 → DroppedFailed b c m1 m2 → DroppedFailed a c m0 m2
dropped_then a b c m0 m1 m2 ab bc first next i m = elim (first i m) [
  | inr lost ↦ grind (arith, nat_tests, rises_between)
  | inl is ↦ elim (next i is) [
    | inl still ↦ inl still
    | inr lost ↦ grind (arith, nat_tests, rises_between)
  ]
]

pub loses_then : (a b c : Shelved) (m0 m1 m2 : List Bool) → Continues a b → Continues b c → LosesOnlyFailed a b m0 m1 → LosesOnlyFailed b c m1 m2 → LosesOnlyFailed a c m0 m2
loses_then a b c m0 m1 m2 ab bc first next = grind (arith, nat_tests, dropped_then)

-- from what a phase left of each drive
pub loses_closed : {honest : Type 0} {at : ℕ} (m0 m1 : List Bool) (a b : Shelved) → length m1 ≡ length m0 → ((i : ℕ) → i < length m0 → Closed honest (IsMember m0 i) (IsMember m1 i) at (a.disk (drive i)) (b.disk (drive i))) → LosesOnlyFailed a b m0 m1
loses_closed {honest} {at} m0 m1 a b as_many outcome = grind (arith, nat_tests, member_below)

pub loses_written : {honest : Type 0} {at : ℕ} {body : List ℕ} (m0 m1 : List Bool) (a b : Shelved) → length m1 ≡ length m0 → ((i : ℕ) → i < length m0 → Outcome honest (IsMember m0 i) (IsMember m1 i) at body (a.disk (drive i)) (b.disk (drive i))) → LosesOnlyFailed a b m0 m1
loses_written {honest} {at} {body} m0 m1 a b as_many outcome = grind (arith, nat_tests, member_below)

-- members of fewer are members of more
pub on_fewer : (m0 m1 : List Bool) → ((i : ℕ) → IsMember m1 i → IsMember m0 i) → (k : Device) → IsOneOf m1 k → IsOneOf m0 k
on_fewer m0 m1 fewer (dev.Drive k) is = fewer k.0 is
on_fewer m0 m1 fewer (dev.Nv k) is = is

-- the phases write in the slot
pub on_gates : (m : List Bool) (slot : BootSlot) (a : Shelved) (faults : Device → ℕ) (k : Device) (i : ℕ) → OnNotShut m a faults (gate_place slot) k i → OnSlot m slot k i
on_gates m slot a faults (dev.Drive k) i w = inl (w.0, w.1)
on_gates m slot a faults (dev.Nv k) i w = absurd w

pub on_bodies : (m0 m1 : List Bool) (slot : BootSlot) → ((i : ℕ) → IsMember m1 i → IsMember m0 i) → (k : Device) (i : ℕ) → OnMembers m1 (body_place slot) RECORD_BYTES k i → OnSlot m0 slot k i
on_bodies m0 m1 slot before (dev.Drive k) i w = inr (before k.0 w.0, w.1)
on_bodies m0 m1 slot before (dev.Nv k) i w = absurd w

pub on_opened : (m0 m2 : List Bool) (slot : BootSlot) → ((i : ℕ) → IsMember m2 i → IsMember m0 i) → (k : Device) (i : ℕ) → OnMembers m2 (gate_place slot) SECTOR_BYTES k i → OnSlot m0 slot k i
on_opened m0 m2 slot before (dev.Drive k) i w = inl (before k.0 w.0, w.1)
on_opened m0 m2 slot before (dev.Nv k) i w = absurd w

-- ---- who is left

-- what a device becomes that no longer holds what it should
pub lost : Condition → Condition
lost Sound = Missing
lost Missing = Missing
lost LeftOut = LeftOut

-- of drives the others than these are missing
abbrev pub others_lost : Conditions → List Bool → Conditions
others_lost missing members (dev.Drive d) = if slice_index_or members d.0 false then missing (dev.Drive d) else lost (missing (dev.Drive d))
others_lost missing members (dev.Nv n) = missing (dev.Nv n)

pub lost_within : (c : Condition) → MayBecome c (lost c)
unfolding lost
lost_within Sound = inr refl
lost_within Missing = refl
lost_within LeftOut = refl

pub never_sound : (c : Condition) → lost c ≡ Sound → ⊥
unfolding lost
never_sound Sound e = cc e
never_sound Missing e = cc e
never_sound LeftOut e = cc e

pub others_within : (missing : Conditions) (members : List Bool) → IsWithin missing (others_lost missing members)
others_within missing members (dev.Drive d) = grind (arith, nat_tests, cases_Bool, as_it_is, lost_within)
others_within missing members (dev.Nv n) = as_it_is missing (dev.Nv n)

-- one that is sound still is one of them
pub others_not_sound : (missing : Conditions) (members : List Bool) (i : ℕ) → others_lost missing members (drive i) ≡ Sound → IsMember members i
others_not_sound missing members i s = grind (arith, nat_tests, slice_index_or, never_sound, drive, cond, lost)

-- one of them is as it was
pub others_sound : (missing : Conditions) (members : List Bool) (i : ℕ) → IsMember members i → missing (drive i) ≡ Sound → others_lost missing members (drive i) ≡ Sound
others_sound missing members i m s = rw m s

count_most : (f : ℕ → Bool) (a n : ℕ) → count_by f (range_with_len a n) ≤ n
count_most f a zero = omega arith
count_most f a (suc n) = grind (arith, nat_tests, counted f a (range_with_len (a + 1) n), count_most f (a + 1) n)

-- of n numbers those that pass a test that no set flag passes, with the set flags, are n at most
pub flags_and_others : (flags : List Bool) (f : ℕ → Bool) (a n : ℕ) → length flags ≤ n → ((i : ℕ) → f (a + i) ≡ true → IsMember flags i → ⊥) → count_by f (range_with_len a n) + set_count flags ≤ n
flags_and_others [] f a n few apart = let most = count_most f a n in omega (arith, most)
flags_and_others (x ∷ xs) f a zero few apart = absurd (omega (arith, few))
flags_and_others (x ∷ xs) f a (suc n) few apart =
    let rest : count_by f (range_with_len (a + 1) n) + set_count xs ≤ n =
    flags_and_others xs f (a + 1) n (omega (arith, few)) (λ i passes m. apart (suc i) (let e : a + suc i ≡ a + 1 + i = omega arith in ap f e ∙ passes) m) in
    let first : f a ≡ true → x ≡ true → ⊥ = λ passes set. apart 0 (let e : a + 0 ≡ a = omega arith in ap f e ∙ passes) set in
    rw (counted f a (range_with_len (a + 1) n), counted (λ (b : Bool). b) x xs) (one (f a) x first rest)
  where
    one : (p q : Bool) → (p ≡ true → q ≡ true → ⊥) → count_by f (range_with_len (a + 1) n) + set_count xs ≤ n
        → (cond p 1 0 + count_by f (range_with_len (a + 1) n)) + (cond q 1 0 + set_count xs) ≤ suc n
    one true true differ rest = absurd (differ refl refl)
    one true false differ rest = omega (arith, rest)
    one false true differ rest = omega (arith, rest)
    one false false differ rest = omega (arith, rest)

-- where enough are left that are sound, the others are borne
pub enough_left : (shelf : Shelved) (missing : Conditions) (members : List Bool) → length members ≡ shelf.drives → AreEnough members → ((i : ℕ) → IsMember members i → missing (drive i) ≡ Sound)
    → IsBearable (geometry_of shelf) missing → IsBearable (geometry_of shelf) (others_lost missing members)
enough_left shelf missing members as_many enough sound b = grind (arith, nat_tests, count_by, is_missing, drive, set_count, flags_and_others, cond, lost)

-- what holds anyway holds of an answer
pub for_ok : {T E P : Type 0} (r : Result T E) → P → OnOk r P
for_ok (Ok x) p = p
for_ok (Err e) p = tt

-- A stop in a store before a gate is opened, whatever the conditions of the devices: they stand for the arrays for which they stood, and what may be given might have been before.
pub record IsUnopened (old : Shelved) (members : List Bool) (slot : BootSlot) (stop : Stop) : Type 0 where
  pub stands : (missing : Conditions) (held : BootRecord) (arrays : List Array) → IsInForceOn old members missing slot held → StandsNow old missing arrays → StandsBut old members missing slot held arrays stop
  pub gives : (missing : Conditions) (held : BootRecord) → IsInForceOn old members missing slot held → (later : Conditions) → AccountsFor old members missing slot (spelling held) stop.faults stop.write_faults later
      → GivesNoMore old missing later stop
  pub still : HeldStill old members slot stop

-- a stop before a gate is opened is one in the store
pub in_store : {old : Shelved} {members : List Bool} {slot : BootSlot} {stop : Stop} (body : List ℕ) → IsUnopened old members slot stop → IsInStore old members slot body stop
in_store {old} {members} {slot} {stop} body u = record {
  stands = λ missing held boot arrays spells force follow. u.stands missing held arrays force follow.stands;
  gives = λ missing held boot arrays spells force follow later account t k given. inr (u.gives missing held force later account t k given);
  phase = inl u.still;
}

-- ---- the first phase

module _ (a : Shelved) (m0 : List Bool) (slot : BootSlot) (body : List ℕ) (is_a : IsShelf a) (h : a.honest) where
  closing : (missing : Conditions) (held : List ℕ) → AreClean a missing m0 → (stop : Stop) → LeavesBut (OnNotShut m0 a stop.faults (gate_place slot)) a stop → ComesOf a (Closes a m0 missing slot held) stop
  closing missing held clean stop left = closes_gates m0 a stop missing slot held is_a h left clean

  -- at a stop in it
  pub unopened_first : (stop : Stop) → LeavesBut (OnNotShut m0 a stop.faults (gate_place slot)) a stop → IsUnopened a m0 slot stop
  unopened_first stop left = record {
    stands = λ missing held arrays force stand later account.
        let l = closing missing (spelling held) force.clean stop left in
        while_closing a m0 missing slot held is_a force l.start stop l.may later (borne account) arrays stand l.by;
    gives = λ missing held force later account t k given.
        let l = closing missing (spelling held) force.clean stop left in
        record { start = l.start; may = l.may; given = gives_while_closing a m0 missing slot held is_a force l.start stop l.may later (borne account) l.by t k given };
    still = λ missing held force later account given.
        let l = closing missing (spelling held) force.clean stop left in
        still_while_closing a m0 missing slot held is_a force l.start stop l.may later (borne account) l.by (given l.start l.may);
  }

  -- where the slot holds what is older, nothing has to be told of failures
  firm_borne : (missing : Conditions) (held : BootRecord) (arrays : List Array) → IsFirmOn a m0 missing slot held → StandsNow a missing arrays
      → (start : Stop) → MayStop a start → (faults : Device → ℕ) → IsBorneOn a m0 missing slot (spelling held) faults missing
  firm_borne missing held arrays firm stand start may faults = grind (arith, nat_tests, as_it_is)

  pub again_first : (missing : Conditions) (held : BootRecord) (arrays : List Array) → IsFirmOn a m0 missing slot held → StandsNow a missing arrays
      → (stop : Stop) → LeavesBut (OnNotShut m0 a stop.faults (gate_place slot)) a stop → StandsAgain a missing arrays stop
  again_first missing held arrays firm stand stop left =
      let l = closing missing (spelling held) firm.in_force.clean stop left in
      record {
        later = missing;
        within = as_it_is missing;
        logs = λ n. refl;
        stands = while_closing a m0 missing slot held is_a firm.in_force l.start stop l.may missing (firm_borne missing held arrays firm stand l.start l.may stop.faults) arrays stand l.by;
      }

  -- ---- the second phase

  module _ (b : Shelved) (m1 : List Bool) (is_b : IsShelf b) (ab : Continues a b) (as_many : length m1 ≡ length m0)
      (closed_on : (i : ℕ) → i < length m0 → Closed a.honest (IsMember m0 i) (IsMember m1 i) (gate_place slot) (a.disk (drive i)) (b.disk (drive i)))
      (v1 : LeavesOnly a b (λ stop. LeavesBut (OnNotShut m0 a stop.faults (gate_place slot)) a stop)) where
    -- members after a phase were members before it
    at_first : (i : ℕ) → IsMember m1 i → i < length m0
    at_first i m = omega (arith, member_below m1 i m, as_many)

    pub before1 : (i : ℕ) → IsMember m1 i → IsMember m0 i
    before1 i m = (closed_on i (at_first i m)).before m

    clean1 : (missing : Conditions) → AreClean a missing m0 → AreClean b missing m1
    clean1 missing clean i m s = (closed_on i (at_first i m)).clean h m (clean i (before1 i m) s)

    closed1 : (missing : Conditions) → AreClosed b missing m1 slot
    closed1 missing i m s = (closed_on i (at_first i m)).closed h m

    -- one that is no longer a member lost a write
    dropped1 : DroppedFailed a b m0 m1
    dropped1 i m = (closed_on i (member_below m0 i m)).dropped m

    -- what a stop at the end of a phase may leave comes from one at its beginning
    left_first : (stop : Stop) → MayStop b stop → LeavesBut (OnNotShut m0 a stop.faults (gate_place slot)) a stop
    left_first stop may = (v1.each stop (is_b.counts_now a.moment stop ab.later may)).1

    from_first : (missing : Conditions) (held : List ℕ) → AreClean a missing m0 → (stop : Stop) → MayStop b stop → ComesOf a (Closes a m0 missing slot held) stop
    from_first missing held clean stop may = closing missing held clean stop (left_first stop may)

    writing : (missing : Conditions) → AreClean a missing m0 → (stop : Stop) → LeavesBut (OnMembers m1 (body_place slot) RECORD_BYTES) b stop → ComesOf b (Writes missing m1 slot) stop
    writing missing clean stop left = writes_bodies m1 b stop missing slot is_b (ab.honest h) left (clean1 missing clean) (closed1 missing)

    -- a member that is sound lost no write by then
    lost_none : (missing : Conditions) (held : BootRecord) (stop : Stop) (later : Conditions) → AccountsFor a m0 missing slot (spelling held) stop.faults stop.write_faults later → (i : ℕ) → IsMember m0 i → later (drive i) ≡ Sound
        → (x y : Shelved) → Continues a x → LostWrites (x.disk (drive i)) (y.disk (drive i)) → IsCountedBy y stop → ⊥
    lost_none missing held stop later account i m s x y ax gone counts = grind (arith, nat_tests, risen_on_way)

    -- so sound drives are members still, of those who were dropped for lost writes
    sound_still : (missing : Conditions) (held : BootRecord) → IsInForceOn a m0 missing slot held → (stop : Stop) (later : Conditions) → AccountsFor a m0 missing slot (spelling held) stop.faults stop.write_faults later
        → (x : Shelved) (m : List Bool) → DroppedFailed a x m0 m → IsCountedBy x stop → SoundAreMembers a later m
    sound_still missing held force stop later account x m dropped counts i lt s = grind (arith, nat_tests, sound_before, lost_none, continues_refl)

    -- at a stop in it
    pub unopened_second : (stop : Stop) → LeavesBut (OnMembers m1 (body_place slot) RECORD_BYTES) b stop → IsUnopened a m0 slot stop
    unopened_second stop left = record {
      stands = λ missing held arrays force stand later account.
          let l = writing missing force.clean stop left in
          let f = from_first missing (spelling held) force.clean l.start l.may in
          while_writing a m0 missing slot held is_a force f.start stop f.may later (borne account) arrays stand l.start m1 l.later (sound_still missing held force stop later account b m1 dropped1 (counted_by l)) f.by l.by;
      gives = λ missing held force later account t k given.
          let l = writing missing force.clean stop left in
          let f = from_first missing (spelling held) force.clean l.start l.may in
          record {
            start = f.start;
            may = f.may;
            given = gives_while_writing a m0 missing slot held is_a force f.start stop f.may later (borne account) l.start m1 l.later f.by l.by t k given;
          };
      still = λ missing held force later account given.
          let l = writing missing force.clean stop left in
          let f = from_first missing (spelling held) force.clean l.start l.may in
          still_while_writing a m0 missing slot held is_a force f.start stop f.may later (borne account) l.start m1 l.later f.by l.by (given f.start f.may);
    }

    pub again_second : (missing : Conditions) (held : BootRecord) (arrays : List Array) → IsFirmOn a m0 missing slot held → StandsNow a missing arrays
        → (stop : Stop) → LeavesBut (OnMembers m1 (body_place slot) RECORD_BYTES) b stop → StandsAgain a missing arrays stop
    again_second missing held arrays firm stand stop left =
        let l = writing missing firm.in_force.clean stop left in
        let f = from_first missing (spelling held) firm.in_force.clean l.start l.may in
        record {
          later = missing;
          within = as_it_is missing;
          logs = λ n. refl;
          stands = while_writing_over a m0 missing slot held is_a firm.in_force f.start stop f.may missing (firm_borne missing held arrays firm stand f.start f.may stop.faults) arrays stand l.start m1 l.later refl firm.older f.by l.by;
        }

    -- ---- the third phase

    module _ (c : Shelved) (m2 : List Bool) (is_c : IsShelf c) (bc : Continues b c) (few : length m0 ≤ a.drives) (size : length body ≡ RECORD_BYTES) (shorter : length m2 ≡ length m1)
        (written_on : (i : ℕ) → i < length m1 → Outcome b.honest (IsMember m1 i) (IsMember m2 i) (body_place slot) body (b.disk (drive i)) (c.disk (drive i)))
        (v2 : LeavesOnly b c (LeavesBut (OnMembers m1 (body_place slot) RECORD_BYTES) b)) where
      below1 : (i : ℕ) → IsMember m2 i → i < length m1
      below1 i m = omega (arith, member_below m2 i m, shorter)

      pub before2 : (i : ℕ) → IsMember m2 i → IsMember m1 i
      before2 i m = (written_on i (below1 i m)).before m

      clean2 : (missing : Conditions) → AreClean c missing m2
      clean2 missing i m s = (written_on i (below1 i m)).clean (ab.honest h) m

      written_to : (i : ℕ) → IsMember m2 i → Written (body_place slot) body (b.disk (drive i)).bytes (c.disk (drive i)).bytes
      written_to i m = (written_on i (below1 i m)).written (ab.honest h) m

      closed2 : (missing : Conditions) → AreClosed c missing m2 slot
      closed2 missing i m s =
          let w = written_to i m in
          gate_same slot (b.disk (drive i)).bytes (c.disk (drive i)).bytes w.size (λ k out. w.outside k (λ r. out (subst (λ (n : ℕ). IsIn (record { start = body_place slot; size = n }) k) size r)))
          ∙ closed1 missing i (before2 i m) s

      on_c : (i : ℕ) → IsMember m2 i → length (c.disk (drive i)).bytes ≡ UNIT_BYTES * c.units
      on_c i m = is_c.sizes (bc.honest (ab.honest h)) (drive i) (omega (arith, at_first i (before2 i m), few, ab.drives, bc.drives))

      -- the body stands on each member that is left
      pub body_stands : (i : ℕ) → IsMember m2 i → body_in slot (c.disk (drive i)).bytes ≡ body
      body_stands i m = body_is (body_place slot) body (b.disk (drive i)).bytes (c.disk (drive i)).bytes size (omega (arith, on_c i m, body_low slot, is_c.units.0)) (written_to i m)

      pub dropped2 : DroppedFailed a c m0 m2
      dropped2 = dropped_then a b c m0 m1 m2 ab bc dropped1 (λ i m. (written_on i (member_below m1 i m)).dropped m)

      left_second : (stop : Stop) → MayStop c stop → LeavesBut (OnMembers m1 (body_place slot) RECORD_BYTES) b stop
      left_second stop may = (v2.each stop (is_c.counts_now b.moment stop bc.later may)).1

      opening : (missing : Conditions) (spelled : List ℕ) → body ≡ spelled → (stop : Stop) → LeavesBut (OnMembers m2 (gate_place slot) SECTOR_BYTES) c stop → ComesOf c (Opens missing m2 slot spelled) stop
      opening missing spelled spells stop left = opens_gates m2 c stop missing slot spelled is_c (bc.honest (ab.honest h)) left (clean2 missing) (closed2 missing) (λ i m s. body_stands i m ∙ spells)

      sound : Conditions
      sound device = Sound

      none : Conditions
      none device = Missing

      -- once the body is written the other slot of a member is as reads gave it
      others_kept : ((i : ℕ) → ChangesOnly (OnNotShut m0 a (λ k. (b.disk k).faults) (gate_place slot) (drive i)) (a.disk (drive i)) (b.disk (drive i))) → (i : ℕ) → IsMember m2 i → shown_by (other_slot slot) (c.disk (drive i)).bytes ≡ shown_by (other_slot slot) (a.disk (drive i)).bytes
      others_kept changed i m =
          let w = written_to i m in
          other_shown_same slot (b.disk (drive i)).bytes (c.disk (drive i)).bytes w.size (λ k out. w.outside k (λ r. out (subst (λ (n : ℕ). IsIn (record { start = body_place slot; size = n }) k) size r)))
          ∙ other_same slot (a.disk (drive i)).bytes (b.disk (drive i)).bytes (changed i).size (λ k out. (changed i).bytes k (λ x. out x.1))

      opens_at : ((i : ℕ) → ChangesOnly (OnNotShut m0 a (λ k. (b.disk k).faults) (gate_place slot) (drive i)) (a.disk (drive i)) (b.disk (drive i))) → (stop : Stop) → LeavesBut (OnMembers m2 (gate_place slot) SECTOR_BYTES) c stop → IsOpening a m0 slot body stop
      unfolding sound none
      opens_at changed stop left =
          let o = opening sound body refl stop left in
          let w = writing none (λ i m s. absurd (cc s)) o.start (left_second o.start o.may) in
          let f = closing none [] (λ i m s. absurd (cc s)) w.start (left_first w.start w.may) in
          record {
            start = f.start;
            may = f.may;
            only_boot = differs_then (differs_then f.by.only_boot w.by.only_boot) o.by.only_boot;
            others = λ i. o.by.others i ∙ w.by.others i ∙ f.by.others i;
            written = λ i m still. elim (dropped2 i m) [
              | inl is ↦ grind (arith, nat_tests)
              | inr lost ↦ absurd (risen_on_way _ _ _ _ (let same : (a.disk (drive i)).faults ≤ (a.disk (drive i)).faults = omega arith in same) lost.faults (left.counts.faults (drive i)) still)
            ];
            kept = λ i m still. elim (dropped2 i m) [
              | inl is ↦ o.by.others i ∙ ap (shown_by (other_slot slot)) (as_read (c.disk (drive i)) (o.start.image (drive i)) (clean2 sound i is refl) (o.may.device (drive i))) ∙ others_kept changed i is
              | inr lost ↦ absurd (risen_on_way _ _ _ _ (let same : (a.disk (drive i)).faults ≤ (a.disk (drive i)).faults = omega arith in same) lost.faults (left.counts.faults (drive i)) still)
            ];
          }

      -- at a stop in it
      pub in_third : ((i : ℕ) → ChangesOnly (OnNotShut m0 a (λ k. (b.disk k).faults) (gate_place slot) (drive i)) (a.disk (drive i)) (b.disk (drive i)))
          → (stop : Stop) → LeavesBut (OnMembers m2 (gate_place slot) SECTOR_BYTES) c stop → IsInStore a m0 slot body stop
      in_third changed stop left = record {
        stands = λ missing held boot arrays spells force follow later account.
            let l = opening missing (spelling boot) spells stop left in
            let w = writing missing force.clean l.start (left_second l.start l.may) in
            let f = from_first missing (spelling held) force.clean w.start w.may in
            while_opening a m0 missing slot held is_a force f.start stop f.may later (borne account) boot arrays follow w.start l.start m1 m2 (later_then w.later l.later) (sound_still missing held force stop later account c m2 dropped2 (counted_by l)) f.by w.by l.by;
        gives = λ missing held boot arrays spells force follow later account t k given.
            let l = opening missing (spelling boot) spells stop left in
            let w = writing missing force.clean l.start (left_second l.start l.may) in
            let f = from_first missing (spelling held) force.clean w.start w.may in
            elim (gives_while_opening a m0 missing slot held is_a force f.start stop f.may later (borne account) boot arrays follow w.start l.start m1 m2 (later_then w.later l.later) f.by w.by l.by t k given) [
              | inl new_one ↦ inl new_one
              | inr was ↦ inr (record { start = f.start; may = f.may; given = was })
            ];
        phase = inr (opens_at changed stop left);
      }

      -- whoever fails: in borne conditions in which each drive that isn't missing holds the body
      pub stands_third : (missing : Conditions) (held boot : BootRecord) (arrays : List Array) → body ≡ spelling boot → IsFirmOn a m0 missing slot held → MayFollow a missing slot boot arrays
          → (later : Conditions) → IsWithin missing later → IsBearable (geometry_of a) later → SoundAreMembers a later m2
          → (stop : Stop) → LeavesBut (OnMembers m2 (gate_place slot) SECTOR_BYTES) c stop → Stands (geometry_of a) stop.image later arrays
      stands_third missing held boot arrays spells firm follow later within bearable sound_are stop left =
          let force = firm.in_force in
          let l = opening missing (spelling boot) spells stop left in
          let w = writing missing force.clean l.start (left_second l.start l.may) in
          let f = from_first missing (spelling held) force.clean w.start w.may in
          let borne_later : IsBorneOn a m0 missing slot (spelling held) stop.faults later = record {
            within = within;
            bearable = bearable;
            reads = λ i m s. inl (firm.older i m (sound_before (missing (drive i)) (later (drive i)) (within (drive i)) s));
          } in
          while_opening a m0 missing slot held is_a force f.start stop f.may later borne_later boot arrays follow w.start l.start m1 m2 (later_then w.later l.later) sound_are f.by w.by l.by

      -- those that hold it are enough
      pub again_third : (missing : Conditions) (held boot : BootRecord) (arrays : List Array) → body ≡ spelling boot → AreEnough m2 → IsFirmOn a m0 missing slot held → MayFollow a missing slot boot arrays
          → (stop : Stop) → LeavesBut (OnMembers m2 (gate_place slot) SECTOR_BYTES) c stop → StandsAgain a missing arrays stop
      again_third missing held boot arrays spells enough firm follow stop left =
          let l = opening missing (spelling boot) spells stop left in
          let w = writing missing firm.in_force.clean l.start (left_second l.start l.may) in
          let f = from_first missing (spelling held) firm.in_force.clean w.start w.may in
          record {
            later = others_lost missing m2;
            within = others_within missing m2;
            logs = λ n. refl;
            stands = stands_third missing held boot arrays spells firm follow (others_lost missing m2) (others_within missing m2)
                (enough_left a missing m2 (shorter ∙ as_many ∙ firm.as_many) enough (λ i m. firm.sound i (before1 i (before2 i m))) ((follow.stands f.start f.may).bearable))
                (λ i lt s. others_not_sound missing m2 i s) stop left;
          }

      -- ---- after the store
      module _ (d : Shelved) (missing : Conditions) (held boot : BootRecord) (arrays : List Array) (spells : body ≡ spelling boot) (force : IsInForceOn a m0 missing slot held) (follow : MayFollow a missing slot boot arrays)
          (m3 : List Bool) (is_d : IsShelf d) (cd : Continues c d) (newer : IsNewer slot held boot)
          (fewer : (i : ℕ) → IsMember m3 i → IsMember m2 i) (dropped : DroppedFailed c d m2 m3) (clean3 : (i : ℕ) → IsMember m3 i → (d.disk (drive i)).dirty ≡ [])
          (shown3 : (i : ℕ) → IsMember m3 i → shown_by slot (d.disk (drive i)).bytes ≡ Some (body_in slot (c.disk (drive i)).bytes))
          (w1 : (k : Device) → ChangesOnly (OnNotShut m0 a (λ x. (b.disk x).faults) (gate_place slot) k) (a.disk k) (b.disk k))
          (w2 : (k : Device) → ChangesOnly (OnMembers m1 (body_place slot) RECORD_BYTES k) (b.disk k) (c.disk k))
          (w3 : (k : Device) → ChangesOnly (OnMembers m2 (gate_place slot) SECTOR_BYTES k) (c.disk k) (d.disk k)) where
        ad : Continues a d
        ad = continues_trans (continues_trans ab bc) cd

        in_m0 : (i : ℕ) → IsMember m3 i → IsMember m0 i
        in_m0 i m = before1 i (before2 i (fewer i m))

        shows : (i : ℕ) → IsMember m3 i → shown_by slot (d.disk (drive i)).bytes ≡ Some (spelling boot)
        shows i m = shown3 i m ∙ ap (λ (x : List ℕ). Some x) (body_stands i (fewer i m) ∙ spells)

        -- the other slot stays
        other_body : (i : ℕ) → body_in (other_slot slot) (d.disk (drive i)).bytes ≡ body_in (other_slot slot) (a.disk (drive i)).bytes
        other_body i =
            bodies_same slot (c.disk (drive i)).bytes (d.disk (drive i)).bytes (w3 (drive i)).size (λ k out. (w3 (drive i)).bytes k (λ w. out w.1)) (other_slot slot)
            ∙ other_body_same slot (b.disk (drive i)).bytes (c.disk (drive i)).bytes (w2 (drive i)).size (λ k out. (w2 (drive i)).bytes k (λ w. out w.1))
            ∙ bodies_same slot (a.disk (drive i)).bytes (b.disk (drive i)).bytes (w1 (drive i)).size (λ k out. (w1 (drive i)).bytes k (λ w. out w.1)) (other_slot slot)

        same_shelf : geometry_of d ≡ geometry_of a
        same_shelf = grind (arith, nat_tests, ad)

        -- in later conditions in which each drive that isn't missing is a member still
        module _ (later : Conditions) (within : IsWithin missing later) (bearable : IsBearable (geometry_of a) later) (sound3 : SoundAreMembers d later m3) (stands3 : StandsNow d later arrays) where
          was : (i : ℕ) → later (drive i) ≡ Sound → missing (drive i) ≡ Sound
          was i s = sound_before (missing (drive i)) (later (drive i)) (within (drive i)) s

          held_body : (i : ℕ) → IsMember m3 i → later (drive i) ≡ Sound → body_in (other_slot slot) (d.disk (drive i)).bytes ≡ spelling held
          held_body i m s = other_body i ∙ shown_body (other_slot slot) (a.disk (drive i)).bytes (spelling held) (force.shown i (in_m0 i m) (was i s))

          older3 : AreOlder d later m3 (other_slot slot) (spelling boot)
          older3 i m s = grind (arith, nat_tests, twice_other, held_body)

          -- the record is held in each image that a stop now may leave
          module _ (start : Stop) (may : MayStop d start) where
            as_now : (i : ℕ) → IsMember m3 i → start.image (drive i) ≡ (d.disk (drive i)).bytes
            as_now i m = as_read (d.disk (drive i)) (start.image (drive i)) (clean3 i m) (may.device (drive i))

            no_vote : (other : List ℕ) → bytes_eq (spelling held) other ≡ false → (i : ℕ) → i < d.drives → is_sound_vote start.image later (other_slot slot) other i ≡ false
            no_vote other differs i lt = elim (cases_Bool (is_sound (later (drive i)))) [
              | inr unsound ↦ rw unsound refl
              | inl s ↦
                  let sound = is_sound_is (later (drive i)) s in
                  let m = sound3 i lt sound in
                  rw s (votes_not (shown_by (other_slot slot) (start.image (drive i))) other
                  (λ x e. let same : x ≡ spelling held = sym (shown_body (other_slot slot) (start.image (drive i)) x e) ∙ ap (body_in (other_slot slot)) (as_now i m) ∙ held_body i m sound in
                  subst (λ (y : List ℕ). bytes_eq y other ≡ false) (sym same) differs))
            ]

            few_others : (other : List ℕ) → Yields slot (generation_in other) (generation_in (spelling boot))
                ⊎ (2 * (count_by (is_sound_vote start.image later (other_slot slot) other) (range_with_len 0 d.drives) + 2) ≤ d.drives)
            few_others other = elim (cases_Bool (bytes_eq (spelling held) other)) [
              | inl same ↦ inl (subst (λ (x : List ℕ). Yields slot (generation_in x) (generation_in (spelling boot))) (same_text (spelling held) other (sym same)) newer)
              | inr differs ↦
                  let none = count_none (is_sound_vote start.image later (other_slot slot) other) 0 d.drives (λ i low lt. no_vote other differs i (omega (arith, lt))) in
                  inr (omega (arith, none, is_d.drives.0))
            ]

            held3 : IsHeld (geometry_of d) start.image later slot (spelling boot)
            held3 = record {
              shown = λ i lt s. let m = sound3 i lt s in ap (shown_by slot) (as_now i m) ∙ shows i m;
              few = few_others;
            }

            given3 : MayBeGiven (geometry_of d) start.image later slot boot
            given3 =
                let bears : IsBearable (geometry_of d) later = subst (λ x. IsBearable x later) (sym same_shelf) bearable in
                let a2 : MayAppear (geometry_of d) start.image later later (λ k. Some (start.image k)) = record { within = as_it_is later; bearable = bears; shown = λ k s. refl } in
                record {
                  more = later;
                  view = λ k. Some (start.image k);
                  appears = a2;
                  lawful = subst (λ x. IsRecordOf x boot) (sym same_shelf) follow.lawful;
                  effective = held_is_given (geometry_of d) start.image later later (λ k. Some (start.image k)) slot (spelling boot) is_d.drives.0 held3 a2;
                }

          pub stored_so : IsStored d m3 slot boot arrays later
          stored_so = grind (arith, nat_tests, same_shelf, sound, twice_other, shows, given3, older3)

        abbrev exact_stop : (start : Stop) → MayStop d start → Stop
        exact_stop start may = record { image = start.image; faults = λ k. (d.disk k).faults; write_faults = λ k. (d.disk k).write_faults; output = d.output; taken = d.taken }

        may_exact : (start : Stop) (may : MayStop d start) → MayStop d (exact_stop start may)
        may_exact start may = record { counts = record { faults = λ k. omega arith; write_faults = λ k. omega arith }; output = refl; taken = refl; device = may.device }

        -- in conditions that tell what failed in the call
        pub is_stored : LeavesOnly a d (StandsBut a m0 missing slot held arrays) → (later : Conditions) → AccountsFor a m0 missing slot (spelling held) (λ k. (d.disk k).faults) (λ k. (d.disk k).write_faults) later → IsStored d m3 slot boot arrays later
        is_stored moments later account = stored_so later account.within account.bearable sound_then stands_then
          where
            sound_then : SoundAreMembers d later m3
            sound_then i lt s = grind (arith, nat_tests, sound_before, sound_still, dropped2, lost_none, continues_trans)

            stands_then : StandsNow d later arrays
            stands_then start may =
                let left = is_d.counts_now a.moment (exact_stop start may) ad.later (may_exact start may) in
                subst (λ x. Stands x start.image later arrays) (sym same_shelf) ((moments.each (exact_stop start may) left).1 later account)

        -- in all borne conditions of the members that are left
        pub is_stored_on : IsFirmOn a m0 missing slot held → LeavesOnly c d (LeavesBut (OnMembers m2 (gate_place slot) SECTOR_BYTES) c) → IsStoredOn a d m3 missing slot boot arrays
        is_stored_on firm v3 later within bearable sound_are = stored_so later within bearable sound_are stands_then
          where
            stands_then : StandsNow d later arrays
            stands_then start may =
                let left = is_d.counts_now c.moment (exact_stop start may) cd.later (may_exact start may) in
                subst (λ x. Stands x start.image later arrays) (sym same_shelf)
                (stands_third missing held boot arrays spells firm follow later within bearable (λ i lt s. fewer i (sound_are i (omega (arith, lt, ad.drives)) s)) (exact_stop start may) ((v3.each (exact_stop start may) left).1))
