-- What one session leaves is what the next one asks for.
use Rattle.session_spec.proofs.Prelude.{◌≡◌, ◌⊎◌, inl, inr, ℕ, List, [], refl, sym, ◌∙◌, ap, subst, Bool, ◌≤◌, Option, Some, None, count_by, Device, Geometry, Image, Condition, Conditions, Sound, Missing, LeftOut, MayBecome, MayShowAs, IsWithin, IsBearable, is_missing, slots_of, nvrams, drive, nvram, Array, BootRecord, BootSlot, IsNamedByNone, Stands, MayBeGiven, more_may_go_missing, within_twice, Streamed, quiet_refl, quiet_now, IsShelf, Shelved, Stop, MayStop, losing, geometry_of, has_failed, as_read, IsStanding, HasRoom, LeftOutAreNamedByNone, Enters, read_now, failed_by, Finds, StopsChain, EndsChain, GoesOnAtOnce, NothingDone, MayWantMemory, loses, left_out_once, sound_once}
use Rattle.array_spec.proofs.Marks.{marks_are_free}
use Rattle.array_spec.proofs.Shown.{shown_stands}

-- ---- conditions before devices were marked and went missing

-- a device is sound only where it was
relieved : Condition → Condition → Condition
relieved Sound m = m
relieved Missing m = Missing
relieved LeftOut m = LeftOut

Marked : Type 0 → Condition → Condition → Type 0
Marked X n k = (k ≡ n) ⊎ ((n ≡ Missing) × (k ≡ LeftOut) × X)

not_marked : (X : Type 0) (k : Condition) → Marked X Sound k → k ≡ Sound
unfolding Marked
not_marked X k (inl e) = e
not_marked X k (inr m) = absurd (cc m.0)

marked_missing : (X : Type 0) (k : Condition) → Marked X Missing k → (k ≡ Missing) ⊎ (k ≡ LeftOut)
unfolding Marked
marked_missing X k (inl e) = inl e
marked_missing X k (inr m) = inr m.1

marked_out : (X : Type 0) (k : Condition) → Marked X LeftOut k → k ≡ LeftOut
unfolding Marked
marked_out X k (inl e) = e
marked_out X k (inr m) = absurd (cc m.0)

becomes_relieved : (X : Type 0) (n k m : Condition) → Marked X n k → MayBecome k m → MayBecome n (relieved n m)
unfolding relieved
becomes_relieved X Sound k m marks w = subst (λ (c : Condition). MayBecome c m) (not_marked X k marks) w
becomes_relieved X _ k m marks w = refl

as_missing : (X : Type 0) (n k m : Condition) → Marked X n k → MayBecome k m → is_missing (relieved n m) ≡ is_missing m
unfolding relieved
as_missing X Sound k m marks w = refl
as_missing X Missing k m marks w = elim (marked_missing X k marks) [
  | inl e ↦ let is : m ≡ Missing = subst (λ (c : Condition). MayBecome c m) e w in rw is refl
  | inr e ↦ let is : m ≡ LeftOut = subst (λ (c : Condition). MayBecome c m) e w in rw is refl
]
as_missing X LeftOut k m marks w = let is : m ≡ LeftOut = subst (λ (c : Condition). MayBecome c m) (marked_out X k marks) w in rw is refl

sound_still : (n m : Condition) → relieved n m ≡ Sound → m ≡ Sound
unfolding relieved
sound_still Sound m e = e
sound_still _ m e = absurd (cc e)

was_sound : (c d : Condition) → MayBecome c d → d ≡ Sound → c ≡ Sound
was_sound Sound d w e = refl
was_sound _ d w e = absurd (cc (w, e))

was_out : (c d : Condition) → MayBecome c d → d ≡ LeftOut → c ≡ LeftOut
was_out Sound d (inl w) e = absurd (cc (w, e))
was_out Sound d (inr w) e = absurd (cc (w, e))
was_out Missing d w e = absurd (cc (w, e))
was_out LeftOut d w e = refl

sound_bytes : (c : Condition) (old new : List ℕ) → c ≡ Sound → MayShowAs c old (Some new) → new ≡ old
sound_bytes Sound old new e h = cc h
sound_bytes _ old new e h = absurd (cc e)

-- ---- what is found

module _ (shelf : Geometry) (was : Image) (now : Conditions) (image : Image) (missing : Conditions) (f : Finds shelf was now image missing) where
  -- with as many missing as in a view now
  module _ (more : Conditions) (within : IsWithin missing more) where
    less : Conditions
    less d = relieved (now d) (more d)

    goes_on : IsWithin f.marked more
    goes_on = within_twice f.marked missing more f.within within

    marks : (d : Device) → Marked (IsNamedByNone shelf was now d) (now d) (f.marked d)
    unfolding Marked
    marks d = f.marks d

    less_within : IsWithin now less
    unfolding less
    less_within d = becomes_relieved (IsNamedByNone shelf was now d) (now d) (f.marked d) (more d) (marks d) (goes_on d)

    less_missing : (d : Device) → is_missing (less d) ≡ is_missing (more d)
    unfolding less
    less_missing d = as_missing (IsNamedByNone shelf was now d) (now d) (f.marked d) (more d) (marks d) (goes_on d)

    bearable : IsBearable shelf more → IsBearable shelf less
    bearable b = record {
      drives = subst (λ (n : ℕ). n ≤ 2) (λ k. count_by (λ i. sym (less_missing (drive i)) k) (slots_of shelf)) b.drives;
      nvrams = subst (λ (n : ℕ). n ≤ 1) (λ k. count_by (λ i. sym (less_missing (nvram i)) k) nvrams) b.nvrams;
    }

    sound_shows : (d : Device) (o : Option (List ℕ)) → less d ≡ Sound → (more d ≡ Sound → o ≡ Some (image d)) → o ≡ Some (was d)
    unfolding less
    sound_shows d o e h =
        let is : more d ≡ Sound = sound_still (now d) (more d) e in
        h is ∙ ap (λ (l : List ℕ). Some l) (sound_bytes (missing d) (was d) (image d) (was_sound (missing d) (more d) (within d) is) (f.shows d))

  -- what may be given now might have been given before
  given : {slot : BootSlot} {boot : BootRecord} → MayBeGiven shelf image missing slot boot → MayBeGiven shelf was now slot boot
  given g = record {
    more = less g.more g.appears.within;
    view = g.view;
    appears = record {
      within = less_within g.more g.appears.within;
      bearable = bearable g.more g.appears.within g.appears.bearable;
      shown = λ d sound. sound_shows g.more g.appears.within d (g.view d) sound (g.appears.shown d);
    };
    lawful = g.lawful;
    effective = g.effective;
  }

  stands : (arrays : List Array) → IsBearable shelf missing → Stands shelf was now arrays → Stands shelf image missing arrays
  stands arrays borne s = shown_stands shelf was image missing arrays f.shows
      (more_may_go_missing shelf was f.marked missing arrays f.within borne (marks_are_free shelf was now f.marked arrays f.marks s))

  left_out : LeftOutAreNamedByNone shelf was now → LeftOutAreNamedByNone shelf image missing
  left_out none d e slot boot g =
      let out : f.marked d ≡ LeftOut = was_out (f.marked d) (missing d) (f.within d) e in
      elim (f.marks d) [
        | inl same ↦ none d (sym same ∙ out) slot boot (given g)
        | inr (m, l, unnamed) ↦ unnamed slot boot (given g)
      ]

  pub standing : (arrays : List Array) → IsBearable shelf missing → IsStanding shelf was now arrays → IsStanding shelf image missing arrays
  standing arrays borne s = record { stands = stands arrays borne s.stands; left_out = left_out s.left_out }

-- ---- the next session

enters : (next : Shelved) (missing : Conditions) (arrays : List Array) (shelf : Geometry) → geometry_of next ≡ shelf → IsBearable shelf missing
    → ((d : Device) → missing d ≡ Sound → (next.disk d).dirty ≡ [])
    → ((later : Stop) → MayStop next later → IsStanding shelf later.image missing arrays)
    → ((later : Stop) → MayStop next later → HasRoom (geometry_of next) later.image missing) → Enters next missing arrays
enters next missing arrays shelf same borne clean each room =
    let here : (later : Stop) → MayStop next later → IsStanding (geometry_of next) later.image missing arrays = λ later may. subst (λ (g : Geometry). IsStanding g later.image missing arrays) (sym same) (each later may) in
    record {
      bearable = subst (λ (g : Geometry). IsBearable g missing) (sym same) borne;
      stands = λ later may. (here later may).stands;
      clean = clean;
      left_out = λ later may. (here later may).left_out;
      room = room;
    }

pub stops_chain : (next : Shelved) → StopsChain next
stops_chain next shelf stop now missing arrays s r = enters next missing arrays shelf r.same r.bearable r.clean
    (λ later may. let (was, is, f) = r.finds later may in standing shelf was now later.image missing f arrays r.bearable (subst (λ (i : Image). IsStanding shelf i now arrays) (sym is) s))
    r.room

pub ends_chain : (ended next : Shelved) → EndsChain ended next
ends_chain ended next now missing arrays s r =
    let shelf = geometry_of ended in
    enters next missing arrays shelf r.same r.bearable r.clean
    (λ later may. let (was, (stop, then_may, is), f) = r.finds later may in standing shelf was now later.image missing f arrays r.bearable (subst (λ (i : Image). IsStanding shelf i now arrays) (sym is) (s.standing stop then_may)))
    r.room

pub goes_on_at_once : (shelf : Shelved) → GoesOnAtOnce shelf
goes_on_at_once shelf now arrays s bearable room = enters shelf now arrays (geometry_of shelf) refl bearable s.clean s.standing room

-- ---- nothing done

given_with_fewer : {shelf : Geometry} {image : Image} {missing more : Conditions} {slot : BootSlot} {boot : BootRecord} → IsWithin missing more → MayBeGiven shelf image more slot boot → MayBeGiven shelf image missing slot boot
given_with_fewer {missing = missing} {more = more} w g = record {
  more = g.more;
  view = g.view;
  appears = record { within = within_twice missing more g.more w g.appears.within; bearable = g.appears.bearable; shown = g.appears.shown };
  lawful = g.lawful;
  effective = g.effective;
}

-- others may have gone missing
standing_with_fewer : (shelf : Shelved) (missing : Conditions) (arrays : List Array) → Enters shelf missing arrays → (stop : Stop) → MayStop shelf stop
    → (failed : Device → Bool) → IsBearable (geometry_of shelf) (losing failed missing) → IsStanding (geometry_of shelf) stop.image (losing failed missing) arrays
standing_with_fewer shelf missing arrays e stop may failed borne =
    let within : IsWithin missing (losing failed missing) = loses failed missing in
    record {
      stands = more_may_go_missing (geometry_of shelf) stop.image missing (losing failed missing) arrays within borne (e.stands stop may);
      left_out = λ d out slot boot given. e.left_out stop may d (left_out_once (failed d) (missing d) out) slot boot (given_with_fewer within given);
    }

pub nothing_done : (shelf : Shelved) → NothingDone shelf
nothing_done shelf missing arrays e stop may =
    let now : Conditions = failed_by shelf stop missing in
    let within : IsWithin missing now = loses (has_failed (read_now shelf) stop) missing in
    record {
      standing = standing_with_fewer shelf missing arrays e stop may (has_failed (read_now shelf) stop);
      stored = λ slot boot given. record {
        more = given.more;
        view = given.view;
        appears = record {
          within = within_twice missing now given.more within given.appears.within;
          bearable = given.appears.bearable;
          shown = λ d sound.
              let was : missing d ≡ Sound = was_sound (missing d) (given.more d) (within_twice missing now given.more within given.appears.within d) sound in
              given.appears.shown d sound ∙ ap (λ (l : List ℕ). Some l) (as_read (shelf.disk d) (stop.image d) (e.clean d was) (may.device d));
        };
        lawful = given.lawful;
        effective = given.effective;
      };
    }

pub may_want_memory : (shelf : Shelved) (source sink : Streamed) → IsShelf shelf → MayWantMemory shelf source sink
may_want_memory shelf source sink is = record {
  source_counts = refl;
  sink_counts = refl;
  session = λ whole. inl (record {
    by = tt;
    untaken = refl;
    quiet = quiet_refl shelf;
    each = λ stop since. quiet_now (is.only_now stop since);
    found = None;
    silent = tt;
    shut = λ missing arrays e. record {
      cause = λ borne. refl;
      each = λ stop since. nothing_done shelf missing arrays e stop (is.only_now stop since);
      at_end = λ borne. record {
        standing = λ stop may. standing_with_fewer shelf missing arrays e stop may (has_failed (read_now shelf) (read_now shelf)) borne;
        clean = λ d sound. e.clean d (sound_once (has_failed (read_now shelf) (read_now shelf) d) (missing d) sound);
      };
    };
  });
}
