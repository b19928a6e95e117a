-- What the devices stand for at a stop: told by the point of the last reply that was whole.
use Rattle.array_server.proofs.Prelude.{nat_tests, ◌≡◌, inl, inr, ℕ, List, [], ◌∷◌, refl, sym, ◌∙◌, subst, arith, false, get_or, Bool, true, Contains, ap, if◌then◌else◌, ◌≤◌, Device, Geometry, Conditions, Sound, LeftOut, IsBearable, BootRecord, names, Item, Asked, AcceptsNext, geometry_of, Shelved, Stop, MayStop, MayLeave, IsStanding, Point, now_missing, StandsAmong, IsAfter, IsNext, MayDoNext, has_risen, missing_if, losing, named_sound, DropsOnlyLost, Answer, IsCountedBy, IsLeft, read_now, Answers, IsLeftAfter, not_risen_before, Content, array_of, Array, IsReady, lost_by, Engine, IsAt, MayBeDone, MayDoItem, IsKeptBy, StandsAt, point_after, failed_in, lost_in, cases_Bool, members_kept}
use Rattle.pur_base.specs.Plain as plain
use Rattle.array_core.proofs.ReadyStands.{ready_stands, ready_is_clean}
use Rattle.array_engine.proofs.Rooms.{may_do_at}
use Rattle.array_core.proofs.Agreeing.{standing_in, unnamed_is}
use Rattle.array_server.proofs.Came.{answered_after}
use Rattle.array_core.proofs.Standing.{are_sound}

-- ---- at a point

sound_named : (lost named : Bool) → missing_if lost (if named then Sound else LeftOut) ≡ Sound → (named ≡ true) × (lost ≡ false)
sound_named lost named h = grind (arith, nat_tests)

left_out_unnamed : (lost named : Bool) → missing_if lost (if named then Sound else LeftOut) ≡ LeftOut → named ≡ false
left_out_unnamed lost named h = grind (arith, nat_tests)

-- a device that isn't missing is named by the record, and no write on it failed since
pub named_still : (p : Point) (stop : Stop) (d : Device) → now_missing p stop d ≡ Sound → (names p.boot d ≡ true) × (has_risen (p.stop.write_faults d) (stop.write_faults d) ≡ false)
named_still p stop d e = sound_named (has_risen (p.stop.write_faults d) (stop.write_faults d)) (names p.boot d) e

pub unnamed_still : (p : Point) (stop : Stop) (d : Device) → now_missing p stop d ≡ LeftOut → names p.boot d ≡ false
unnamed_still p stop d e = left_out_unnamed (has_risen (p.stop.write_faults d) (stop.write_faults d)) (names p.boot d) e

-- the same are missing by the array's own record, where nothing was lost since the point
pub lost_alike : (told : Bool) (old : Shelved) (e : Engine) (p : Point) → IsAt told old e p → e.halted ≡ false → (stop : Stop) → ((d : Device) → p.stop.write_faults d ≡ (old.disk d).write_faults)
    → now_missing p stop ≡ lost_by old stop (named_sound e.array.register.record)
lost_alike told old e p at awake stop same = λ k d. each d k
  where
    each : (d : Device) → now_missing p stop d ≡ lost_by old stop (named_sound e.array.register.record) d
    each d = ap (λ (n : ℕ). losing (λ x. has_risen n (stop.write_faults d)) (named_sound p.boot) d) (same d)
        ∙ ap (λ (b : BootRecord). losing (λ x. has_risen (old.disk d).write_faults (stop.write_faults d)) (named_sound b) d) (at.stands awake).boot

-- ---- the next item

next_too : (a : plain.Array) (item : Item) (more : List Item) (b : plain.Array) → AcceptsNext a (item ∷ []) b → AcceptsNext a (item ∷ more) b
next_too a (Asked r sectors) more b h = h
next_too a _ more b h = h

room_too : {told : Bool} {there : Shelved} {a : Array} {p : Point} → StandsAt told there a p → (item : Item) (more : List Item) → MayDoItem item a → MayDoNext (item ∷ more) p
room_too s (Asked r sectors) more m = may_do_at s r m
room_too s _ more m = m

may_be_next : (told : Bool) (there : Shelved) (e : Engine) (p : Point) (was : plain.Array) (item : Item) (more : List Item) (array : plain.Array) → IsAt told there e p → e.halted ≡ false → p.array ≡ was → MayBeDone e.array was item array → IsNext p (item ∷ more) array
may_be_next told there e p was item more array at awake is_held may = grind (arith, nat_tests, next_too, room_too)

-- ---- while an item is answered

-- At a stop in the answering of an item, by the point of the reply before it.
module _ (told : Bool) (shelf : Geometry) (mid : Shelved) (is : geometry_of mid ≡ shelf) (e : Engine) (p : Point) (at : IsAt told mid e p) (awake : e.halted ≡ false) (same : (d : Device) → p.stop.write_faults d ≡ (mid.disk d).write_faults)
    (held : Content) (is_held : p.array ≡ array_of held) where
  pub kept_stands : (item : Item) (more : List Item) (stop : Stop) → IsKeptBy mid e.array (array_of held) item stop → IsBearable shelf (now_missing p stop) → StandsAmong shelf stop.image (now_missing p stop) (IsAfter p (item ∷ more))
  kept_stands item more stop kept = subst (λ (g : Geometry). IsBearable g (now_missing p stop) → StandsAmong g stop.image (now_missing p stop) (IsAfter p (item ∷ more))) is here
    where
      here : IsBearable (geometry_of mid) (now_missing p stop) → StandsAmong (geometry_of mid) stop.image (now_missing p stop) (IsAfter p (item ∷ more))
      here bears =
          let alike = lost_alike told mid e p at awake stop same in
          let k = kept (subst (λ (c : Conditions). IsBearable (geometry_of mid) c) alike bears) in
          record {
            arrays = k.0;
            each = λ array has. elim (k.1 array has) [
              | inl e2 ↦ inl (e2 ∙ sym is_held)
              | inr may ↦ inr (may_be_next told mid e p (array_of held) item more array at awake is_held may)
            ];
            standing = subst (λ (c : Conditions). IsStanding (geometry_of mid) stop.image c k.0) (sym alike) k.2;
          }

-- ---- between two calls

pub only_one : (x a : plain.Array) → Contains (x ∷ []) a → a ≡ x
only_one x a is = let first : is.0 ≡ 0 = omega (arith, is.1) in sym (subst (λ (i : ℕ). get_or (x ∷ []) i a ≡ a) first is.2)

module _ (told : Bool) (there now : Shelved) (e : Engine) (p : Point) (held : Content) (ready : IsReady now e.array held) (at : IsAt told there e p) (awake : e.halted ≡ false) (is_held : p.array ≡ array_of held) (stop : Stop)
    (device : (d : Device) → MayLeave (now.disk d) (stop.image d)) where
  abbrev as_now : Stop
  as_now = record { image = stop.image; faults = λ d. (now.disk d).faults; write_faults = λ d. (now.disk d).write_faults; output = now.output; taken = now.taken }

  may : MayStop now as_now
  may = record { device = device; counts = record { faults = λ d. omega arith; write_faults = λ d. omega arith }; output = refl; taken = refl }

  -- in conditions in which what is sound is named by the record, and what is left out isn't
  pub stands_in : (c : Conditions) → ((d : Device) → c d ≡ Sound → names p.boot d ≡ true) → ((d : Device) → c d ≡ LeftOut → names p.boot d ≡ false)
      → IsBearable (geometry_of now) c → IsStanding (geometry_of now) stop.image c (p.array ∷ [])
  stands_in c sound left_out bears =
      subst (λ (a : plain.Array). IsStanding (geometry_of now) stop.image c (a ∷ [])) (sym is_held)
      (standing_in (geometry_of now) stop.image (named_sound e.array.register.record) c (λ d s. are_sound (names e.array.register.record d) (by_record d true (sound d s)))
      (λ d out. unnamed_is (names e.array.register.record d) (by_record d false (left_out d out))) bears (λ d. (device d).is_byte) (array_of held ∷ []) (ready_stands now e.array held ready as_now may))
    where
      by_record : (d : Device) (b : Bool) → names p.boot d ≡ b → names e.array.register.record d ≡ b
      by_record d b is = subst (λ (boot : BootRecord). names boot d ≡ b) (at.stands awake).boot is

-- At a stop while input is taken or output given, by the point of the last reply.
module _ (told : Bool) (shelf : Geometry) (there now : Shelved) (is : geometry_of now ≡ shelf) (e : Engine) (p : Point) (at : IsAt told there e p) (awake : e.halted ≡ false) (held : Content) (ready : IsReady now e.array held) (is_held : p.array ≡ array_of held) where
  pub ready_stands_on : (rest : List Item) (stop : Stop) → ((d : Device) → MayLeave (now.disk d) (stop.image d)) → IsBearable shelf (now_missing p stop) → StandsAmong shelf stop.image (now_missing p stop) (IsAfter p rest)
  ready_stands_on rest stop device = subst (λ (g : Geometry). IsBearable g (now_missing p stop) → StandsAmong g stop.image (now_missing p stop) (IsAfter p rest)) is here
    where
      here : IsBearable (geometry_of now) (now_missing p stop) → StandsAmong (geometry_of now) stop.image (now_missing p stop) (IsAfter p rest)
      here bears = record {
        arrays = p.array ∷ [];
        each = λ array has. inl (only_one p.array array has);
        standing = stands_in told there now e p held ready at awake is_held stop device (now_missing p stop) (λ d s. (named_still p stop d s).0) (λ d out. unnamed_still p stop d out) bears;
      }

-- ---- while the reply is given, and at the end

-- ---- at the end

module _ (told : Bool) (there new : Shelved) (e : Engine) (p : Point) (held : Content) (ready : IsReady new e.array held) (at : IsAt told there e p) (awake : e.halted ≡ false) (is_held : p.array ≡ array_of held) where
  -- in conditions in which what is sound is named by the record, and what is left out isn't
  pub left_in : (c : Conditions) → ((d : Device) → c d ≡ Sound → names p.boot d ≡ true) → ((d : Device) → c d ≡ LeftOut → names p.boot d ≡ false)
      → IsBearable (geometry_of new) c → IsLeft new c (p.array ∷ [])
  left_in c sound left_out bears = record {
    standing = λ stop may. stands_in told there new e p held ready at awake is_held stop may.device c sound left_out bears;
    clean = λ d s. ready_is_clean new e.array held ready d (are_sound (names e.array.register.record d) (subst (λ (b : BootRecord). names b d ≡ true) (at.stands awake).boot (sound d s)));
  }

-- where the last reply was whole
pub left_after : (told : Bool) (shelf : Geometry) (there new : Shelved) → geometry_of new ≡ shelf → (e : Engine) (p : Point) → IsAt told there e p → e.halted ≡ false → (held : Content) → IsReady new e.array held → p.array ≡ array_of held
    → (rest : List Item) → IsBearable shelf (now_missing p (read_now new)) → IsLeftAfter new p rest
left_after told shelf there new is e p at awake held ready is_held rest bears = record {
  arrays = p.array ∷ [];
  each = λ array has. inl (only_one p.array array has);
  left = left_in told there new e p held ready at awake is_held (now_missing p (read_now new)) (λ d s. (named_still p (read_now new) d s).0) (λ d out. unnamed_still p (read_now new) d out)
      (subst (λ (g : Geometry). IsBearable g (now_missing p (read_now new))) (sym is) bears);
}

-- ---- the reply is given

-- The engine has gone on from the point, and the reply isn't whole yet. `after` is the shelf when it was answered.
module _ (told : Bool) (shelf : Geometry) (mid after now : Shelved) (is : geometry_of now ≡ shelf) (e : Engine) (behind : plain.Array) (from : Point) (there : Stop) (at : IsAt told after e (point_after e behind there from)) (awake : e.halted ≡ false)
    (same : (d : Device) → from.stop.write_faults d ≡ (mid.disk d).write_faults) (later : (d : Device) → (after.disk d).write_faults ≤ (now.disk d).write_faults) (before : from.halted ≡ false)
    (held : Content) (ready : IsReady now e.array held) (is_held : behind ≡ array_of held) where
  abbrev to : Point
  to = point_after e behind there from

  module _ (item : Item) (more : List Item) (reply : Answer) (answers : Answers told shelf (failed_in mid after) (lost_in mid after) from item reply to) where
    members : DropsOnlyLost (lost_in mid after) from.boot to.boot
    members = members_kept told shelf (failed_in mid after) (lost_in mid after) from to item reply answers

    module _ (stop : Stop) (counts : (d : Device) → (now.disk d).write_faults ≤ stop.write_faults d) where
      still_named : (d : Device) → now_missing from stop d ≡ Sound → names to.boot d ≡ true
      still_named d s =
          let was = named_still from stop d s in
          let none : has_risen (mid.disk d).write_faults (stop.write_faults d) ≡ false = subst (λ (n : ℕ). has_risen n (stop.write_faults d) ≡ false) (same d) was.1 in
          elim (members.leaves d was.0) [
            | inl named ↦ named
            | inr lost ↦ absurd (cc (lost, not_risen_before (mid.disk d).write_faults (after.disk d).write_faults (stop.write_faults d) (omega (arith, later d, counts d)) none))
          ]

      still_out : (d : Device) → now_missing from stop d ≡ LeftOut → names to.boot d ≡ false
      still_out d out = elim (cases_Bool (names to.boot d)) [
        | inl named ↦ absurd (cc (members.joins d named, unnamed_still from stop d out))
        | inr unnamed ↦ unnamed
      ]

    after_it : (array : plain.Array) → Contains (to.array ∷ []) array → IsAfter from (item ∷ more) array
    after_it array has = subst (λ (a : plain.Array). IsAfter from (item ∷ more) a) (sym (only_one to.array array has)) (answered_after told shelf (failed_in mid after) (lost_in mid after) from to item reply more before answers)

    pub in_hand_stands : (stop : Stop) → ((d : Device) → MayLeave (now.disk d) (stop.image d)) → IsCountedBy now stop → IsBearable shelf (now_missing from stop)
        → StandsAmong shelf stop.image (now_missing from stop) (IsAfter from (item ∷ more))
    in_hand_stands stop device counts = subst (λ (g : Geometry). IsBearable g (now_missing from stop) → StandsAmong g stop.image (now_missing from stop) (IsAfter from (item ∷ more))) is here
      where
        here : IsBearable (geometry_of now) (now_missing from stop) → StandsAmong (geometry_of now) stop.image (now_missing from stop) (IsAfter from (item ∷ more))
        here bears = record {
          arrays = to.array ∷ [];
          each = after_it;
          standing = stands_in told after now e to held ready at awake is_held stop device (now_missing from stop) (still_named stop counts.write_faults) (still_out stop counts.write_faults) bears;
        }

    pub in_hand_left : IsBearable shelf (now_missing from (read_now now)) → IsLeftAfter now from (item ∷ more)
    in_hand_left bears = record {
      arrays = to.array ∷ [];
      each = after_it;
      left = left_in told after now e to held ready at awake is_held (now_missing from (read_now now)) (still_named (read_now now) (λ d. omega arith)) (still_out (read_now now) (λ d. omega arith))
          (subst (λ (g : Geometry). IsBearable g (now_missing from (read_now now))) (sym is) bears);
    }
