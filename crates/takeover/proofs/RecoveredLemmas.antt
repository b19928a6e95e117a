-- From the log that was opened to the record that is stored.
use Rattle.takeover.proofs.Prelude.{nat_tests, ◌≡◌, ◌⊎◌, ℕ, ◌<◌, ◌≤◌, Bool, List, take, sym, ◌∙◌, ap, subst, arith, Command, Array, AnyFact, Conditions, Sound, drive, BootRecord, BootSlot, other_slot, body_in, names, spelling, geometry_of, has_risen, Shelved, Stop, MayStop, Continues, failed_since, not_risen_before, risen_on_way, Loaded, IsMember, DroppedFailed, LostWrites, slot_in, IsInForceOn, Register, IsRegisterOf, drives_of, own_slot, next_slot, Content, StandsInLog, MayStore, in_cut, cut_in, IsLogOpen, OpenedLog, sound_since}

-- the record that was found is in force on the drives of the shelf
cut_force : (n : ℕ) (flags : List Bool) (shelf : Shelved) (missing : Conditions) (slot : BootSlot) (boot : BootRecord) → shelf.drives ≤ n → IsInForceOn shelf flags missing slot boot → IsInForceOn shelf (take n flags) missing slot boot
cut_force n flags shelf missing slot boot all is = grind (arith, nat_tests, cut_in, in_cut)

-- what the devices hold of an array of these tables
abbrev pub content : List (List AnyFact) → Array → List Command → Content
content ps base commands = record { patches = ps; base = base; log = commands }

module _ (shelf : Shelved) (x : Loaded) (missing : Conditions) (arrays : List Array) (ps : List (List AnyFact)) (base : Array) (o : OpenedLog) (r : Register) (opened : IsLogOpen shelf x missing arrays ps base o)
    (is_of : IsRegisterOf (geometry_of shelf) r) (record_is : r.record ≡ x.record) (drives_are : r.drives ≡ x.drives) where
  its_slot : slot_in x.slot ≡ own_slot x.record
  its_slot = opened.found.in_its_slot.in_its_slot

  slots : x.record.slots ≡ shelf.drives
  slots = sym (ap (λ (b : BootRecord). b.slots) record_is) ∙ is_of.lawful.slots

  bodies : (i : ℕ) → IsMember (take x.record.slots x.drives) i → body_in (own_slot x.record) (shelf.disk (drive i)).bytes ≡ spelling x.record
  bodies i m = subst (λ (t : BootSlot). body_in t (shelf.disk (drive i)).bytes ≡ spelling x.record) its_slot (opened.found.bodies i (in_cut x.drives x.record.slots i m))

  pub in_log : StandsInLog shelf r o.log.members (content ps base opened.commands)
  in_log = grind (arith, nat_tests, geometry_of, own_slot, its_slot, bodies, body_in, drive, spelling, slots)

  force : IsInForceOn shelf (take x.record.slots x.drives) missing (next_slot x.record) x.record
  force = subst (λ (t : BootSlot). IsInForceOn shelf (take x.record.slots x.drives) missing (other_slot t) x.record) its_slot
      (cut_force x.record.slots x.drives shelf missing (other_slot (slot_in x.slot)) x.record (omega (arith, slots)) opened.found.in_force)

  pub may_store : (here : Stop) → MayStop shelf here → MayStore shelf r o.log.members missing (content ps base opened.commands) arrays
  may_store here may_here = record {
    logged = in_log;
    in_force = subst (λ (b : BootRecord). IsInForceOn shelf (take b.slots r.drives) missing (next_slot b) b) (sym record_is)
        (subst (λ (l : List Bool). IsInForceOn shelf (take x.record.slots l) missing (next_slot x.record) x.record) (sym drives_are) force);
    stands = opened.found.stands;
    one_of = opened.one_of;
    sound = opened.sound;
    left_out = opened.left_out;
    unnamed = λ i out. ap (λ (b : BootRecord). names b (drive i)) record_is ∙ opened.found.left_out here may_here (drive i) out _ x.record (opened.found.in_force.given here may_here);
  }

-- a drive of the shelf on which the record was in force is left, or lost a write
pub left_or_lost : (old new : Shelved) (was now : Register) → was.record.slots ≡ old.drives → DroppedFailed old new (drives_of was) (drives_of now) → (i : ℕ) → i < old.drives → IsMember was.drives i
    → IsMember now.drives i ⊎ LostWrites (old.disk (drive i)) (new.disk (drive i))
left_or_lost old new was now slots dropped i lt m = grind (arith, nat_tests, cut_in, in_cut)

-- after the store: a drive that isn't missing is one of those that are left
module _ (old mid new : Shelved) (missing : Conditions) (drives left : List Bool) (on : Continues old mid) (after : Continues mid new)
    (sound : (i : ℕ) → i < mid.drives → failed_since old mid missing (drive i) ≡ Sound → IsMember drives i) (dropped : (i : ℕ) → i < mid.drives → IsMember drives i → IsMember left i ⊎ LostWrites (mid.disk (drive i)) (new.disk (drive i))) where
  pub still_left : (i : ℕ) → i < mid.drives → failed_since old new missing (drive i) ≡ Sound → IsMember left i
  still_left i lt is = grind (arith, nat_tests, sound_since, has_risen, drive, risen_on_way, failed_since, not_risen_before)
