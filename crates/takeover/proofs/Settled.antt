-- The record is loaded, and then settled on the drives that hold it: for what the devices stand, and that it is found.
use Rattle.takeover.proofs.Prelude.{◌≡◌, ◌⊎◌, ◌∙◌, ℕ, ◌<◌, List, [], Ok, Conditions, IsBearable, IsWithin, Array, Device, gate_place, other_slot, Rises, geometry_of, Shelved, IsShelf, IsSame, Continues, WritesOnly, Enters, failed_since, Loaded, IsLoadBy, MayBeSettled, IsMember, OnClosed, slot_in, IsFound, IsInForceOn, IsLoaded, TellsFailed, IsFoundOn, StandsWhileFinding}
use Rattle.takeover.proofs.FirmlyFound.{again_while_reading, again_found}
use Rattle.takeover.proofs.FoundLemmas.{while_reading, through_moments, both, below_slots, found_on}
use Rattle.takeover.proofs.LogReplayed.{clean_read}
use Rattle.takeover.proofs.Showing.{clean_settled}

module _ (a b : Shelved) (is_a : IsShelf a) (h : a.honest) (same : (d : Device) → IsSame (a.disk d) (b.disk d)) (reading : WritesOnly (λ d i. ⊥) a b) where
  pub while_loading : StandsWhileFinding a b
  while_loading = record {
    any_moment = λ missing arrays enters. while_reading a missing arrays enters b reading;
    clean = λ missing clean. clean_read a b missing clean (λ d is. (same d).dirty ∙ is);
    again = λ missing next boot arrays enters entry. again_while_reading a missing arrays enters b reading;
  }

  module _ (is_b : IsShelf b) (on : Continues a b) (x : Loaded) (by : IsLoadBy a b (Ok x)) (may : MayBeSettled b x) (n : Shelved) (writes : WritesOnly (OnClosed x.drives b (gate_place (slot_in x.slot))) b n) where
    pub while_settling : ((d : Device) → (b.disk d).dirty ≡ [] → ((n.disk d).dirty ≡ []) ⊎ Rises (b.disk d).faults (n.disk d).faults) → StandsWhileFinding a n
    while_settling stays = record {
      any_moment = λ missing arrays enters. through_moments a b missing arrays x enters on is_a is_b h same by may n reading writes;
      clean = λ missing clean. clean_settled a b n missing clean same on stays;
      again = λ missing next boot arrays enters entry. again_found a b missing arrays x enters on is_a is_b h same by may next boot entry n reading writes;
    }

    -- it is in force on the drives that are left, wherever what failed is borne
    pub found_settled : IsShelf n → Continues b n → (y : Loaded) → y.record ≡ x.record → y.slot ≡ x.slot → ((i : ℕ) → IsMember y.drives i → IsMember x.drives i)
        → ((missing : Conditions) (arrays : List Array) → IsLoaded b x.drives missing (slot_in x.slot) x.record arrays → IsFound b x.drives missing (slot_in x.slot) x.record → ((i : ℕ) → IsMember y.drives i → i < b.drives)
        → (later : Conditions) → TellsFailed b x.drives missing (λ d. (n.disk d).faults) later → IsInForceOn n y.drives later (other_slot (slot_in y.slot)) y.record)
        → (missing : Conditions) (arrays : List Array) → Enters a missing arrays → (later : Conditions) → IsWithin (failed_since a n missing) later → IsBearable (geometry_of a) later → IsFoundOn n y later arrays
    found_settled is_n after y record_is slot_is fewer settled missing arrays enters later since bears =
        found_on a b missing arrays x enters on is_a is_b h same by may n y after is_n record_is slot_is fewer writes
        (λ told bears_mid tells.
        let two = both a b missing arrays x enters on is_a is_b h same by may bears_mid in
        settled (failed_since a b missing) arrays two.0 two.1 (λ i m. below_slots a b missing arrays x enters on is_a is_b h same by may bears_mid i (fewer i m)) told tells)
        later since bears
