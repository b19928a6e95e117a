-- What the devices stand for while the drives stay as they are: others may have failed, and NVRAM devices may show more of a log.
use Rattle.takeover.proofs.Prelude.{same_over, nat_tests, ◌≡◌, ℕ, ◌<◌, List, refl, arith, Bool, true, false, Option, Some, nat_lt, if◌then◌else◌, ltb-false, ltb-true, Command, Geometry, Image, View, Conditions, Sound, IsBearable, IsWithin, drive, Array, Device, Drive, Nv, BootRecord, BootSlot, votes, spelling, SettlesLog, MayBeGiven, effective_moves, given_with_fewer, more_may_go_missing, within_twice, was_left_out, sound_before, IsStanding, LeftOutAreNamedByNone}

picks : (b : Bool) (o : Option (List ℕ)) (l : List ℕ) → (b ≡ true → o ≡ Some l) → (if b then o else Some l) ≡ Some l
picks true o l h = h refl
picks false o l h = refl

picked : (b : Bool) (o p : Option (List ℕ)) → b ≡ true → o ≡ (if b then o else p)
picked true o p e = refl
picked false o p e = absurd (cc e)

-- where the drives of the shelf that aren't missing show the same, what may be given might have been given with fewer missing, whatever NVRAM devices show
module _ (shelf : Geometry) (from to : Image) (missing now : Conditions) (slot : BootSlot) (boot : BootRecord) (within : IsWithin missing now)
    (same : (i : ℕ) → i < shelf.slots → missing (drive i) ≡ Sound → from (drive i) ≡ to (drive i)) (g : MayBeGiven shelf from now slot boot) where
  abbrev view_there : View
  view_there (Drive d) = if nat_lt d.0 shelf.slots then g.view (Drive d) else Some (to (Drive d))
  view_there (Nv n) = Some (to (Nv n))

  goes_on : IsWithin missing g.more
  goes_on = within_twice missing now g.more within g.appears.within

  shown_there : (d : Device) → g.more d ≡ Sound → view_there d ≡ Some (to d)
  shown_there d h = grind (arith, nat_tests, picks, nat_lt, ltb-true, sound_before, goes_on)

  inside : (k : ℕ) → k < shelf.slots → g.view (drive k) ≡ view_there (drive k)
  inside k lt = grind (arith, nat_tests, nat_lt, picked, drive, ltb-false)

  same_votes : (s : BootSlot) → votes shelf g.view s ≡ votes shelf view_there s
  same_votes s = grind (arith, nat_tests, same_over, inside)

  pub given_over : MayBeGiven shelf to missing slot boot
  given_over = record {
    more = g.more;
    view = view_there;
    appears = record { within = goes_on; bearable = g.appears.bearable; shown = shown_there };
    lawful = g.lawful;
    effective = effective_moves shelf g.view view_there slot (spelling boot) same_votes g.effective;
  }

-- others may have gone missing
pub standing_with_fewer : (shelf : Geometry) (image : Image) (missing now : Conditions) (arrays : List Array) → IsWithin missing now → IsBearable shelf now
    → IsStanding shelf image missing arrays → IsStanding shelf image now arrays
standing_with_fewer shelf image missing now arrays within borne s = record {
  stands = more_may_go_missing shelf image missing now arrays within borne s.stands;
  left_out = λ d out slot boot g. s.left_out d (was_left_out (missing d) (now d) (within d) out) slot boot (given_with_fewer within g);
}

-- NVRAM devices show more of a log
module _ (shelf : Geometry) (was new : Image) (missing now : Conditions) (members : List Bool) (flushed : ℕ) (log : List Command) (within : IsWithin missing now)
    (settles : SettlesLog members flushed log was new) where
  given_then : (slot : BootSlot) (boot : BootRecord) → MayBeGiven shelf new now slot boot → MayBeGiven shelf was missing slot boot
  given_then slot boot g = given_over shelf new was missing now slot boot within (λ i lt s. settles.only_nvram.drive i) g

  pub left_out_settled : LeftOutAreNamedByNone shelf was missing → LeftOutAreNamedByNone shelf new now
  left_out_settled none d out slot boot g = none d (was_left_out (missing d) (now d) (within d) out) slot boot (given_then slot boot g)
