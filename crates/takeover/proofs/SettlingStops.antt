-- A stop while the record that was loaded is settled, in conditions in which it was loaded.
use Rattle.takeover.proofs.Prelude.{◌≡◌, List, sym, subst, Array, Geometry, Conditions, LeftOut, IsWithin, Device, SECTOR_BYTES, BootRecord, BootSlot, gate_place, IsNamedByNone, Stands, MayBeGiven, given_with_fewer, geometry_of, Shelved, Stop, IsShelf, IsSame, Continues, MayStop, LeavesBut, Enters, Loaded, OnClosed, slot_in, IsLoaded}
use Rattle.boot_region.proofs.Began.{began}
use Rattle.boot_region.proofs.Settled.{stands_while_settling, no_more_given, settling_began}
use Rattle.takeover.proofs.Loading.{at_time, may_at_time, same_leaves}
use Rattle.register.proofs.Rounds.{same_shelf}

module _ (old mid : Shelved) (missing now : Conditions) (arrays : List Array) (x : Loaded) (enters : Enters old missing arrays) (on : Continues old mid) (is_mid : IsShelf mid) (h_mid : mid.honest)
    (same : (d : Device) → IsSame (old.disk d) (mid.disk d)) (more_now : IsWithin missing now) (loaded : IsLoaded mid x.drives now (slot_in x.slot) x.record arrays)
    (stop : Stop) (left : LeavesBut (OnClosed x.drives mid (gate_place (slot_in x.slot))) mid stop) where
  abbrev slot : BootSlot
  slot = slot_in x.slot

  pub stands_at : Stands (geometry_of mid) stop.image now arrays
  stands_at = stands_while_settling x.drives mid stop slot x.record now arrays is_mid h_mid left loaded

  abbrev pub start : Stop
  start = began x.drives mid (gate_place slot) SECTOR_BYTES stop

  pub begins : MayStop old (at_time old start.image)
  begins =
      let b = settling_began x.drives mid stop slot x.record now arrays is_mid h_mid left loaded in
      may_at_time old start.image (λ d. same_leaves (old.disk d) (mid.disk d) (start.image d) (same d) (b.device d))

  -- what may be given then might have been given when it began
  pub given_then : (more : Conditions) → IsWithin now more → (t : BootSlot) (boot : BootRecord) → MayBeGiven (geometry_of mid) stop.image more t boot → MayBeGiven (geometry_of old) start.image missing t boot
  given_then more within t boot g =
      let g_now = given_with_fewer {shelf = geometry_of mid} {image = stop.image} {missing = now} {more = more} {slot = t} {boot = boot} within g in
      let before = no_more_given x.drives mid stop slot x.record now arrays is_mid h_mid left loaded t boot g_now in
      let g_old = given_with_fewer {shelf = geometry_of mid} {image = start.image} {missing = missing} {more = now} {slot = t} {boot = boot} more_now before in
      subst (λ (s : Geometry). MayBeGiven s start.image missing t boot) (sym (same_shelf on)) g_old

  pub left_out_at : (more : Conditions) → IsWithin now more → (d : Device) → missing d ≡ LeftOut → IsNamedByNone (geometry_of mid) stop.image more d
  left_out_at more within d out t boot g = enters.left_out (at_time old start.image) begins d out t boot (given_then more within t boot g)
