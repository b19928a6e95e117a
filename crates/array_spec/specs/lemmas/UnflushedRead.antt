-- A record without patches is read into what its log leads to.
use Rattle.std.proofs.lemmas.Bool.Decides.{nat_tests}
use Rattle.std.proofs.Common.{◌≡◌, ◌⊎◌, inl, inr, ℕ, zero, suc, ◌+◌, ◌<◌, ◌≤◌, List, [], ◌∷◌, length, refl, ap, subst, ◌∙◌, arith, Bool, true, false, cond, eqb}
use Rattle.std.specs.Prelude.{Option, Some, None, IsTrue, filter_map, slice_get, slice_index}
use Rattle.std.specs.List.{AllZip, range_with_len}
use Rattle.std.proofs.lemmas.Bool.{cases_lt}
use Rattle.std.proofs.lemmas.List.{length-replicate, get_or-replicate, get_or_past}
use Rattle.std.proofs.lemmas.Slice.Eq.{bytes_eq-Decides}
use Rattle.std.specs.Str.{bytes_eq}
use Rattle.boot_codec.specs.Prelude.{zeros, is_open, Geometry, Image, View, Condition, Conditions, Sound, Missing, LeftOut, MayShowAs, MayBecome, nvram, is_missing, Array, Command, Facts, by_table, object, objects, segment, segments, Device, Drive, Nv, ObjectFact, AnyFact, spelling, BootSlot, IsRecordOf, body_in, names, of_members}
use Rattle.boot_codec.specs.declared.patch.Patch.{Patch}
use Rattle.boot_codec.specs.declared.record.BootRecord.{BootRecord}
use Rattle.log_codec.specs.Prelude.{Shows, ShowsIn}
use Rattle.array_spec.specs.Stored.{PatchStands, all_facts}
use Rattle.array_spec.specs.Sound.{AreSound, used_places, named_segments}
use Rattle.array_spec.specs.Base.{EntryStands}
use Rattle.array_spec.specs.Meaning.{HoldsBase, AllHold}
use Rattle.array_spec.specs.Standing.{IsViewOf}
use Rattle.array_spec.specs.Laws.{ShowsBetween}
use Rattle.array_spec.specs.Unflushed.{LogLies, NamesSound, UnflushedIsRead, UnflushedHoldsNothing}
use Rattle.array_spec.specs.lemmas.Votes.{sound_before}
use Rattle.array_spec.specs.lemmas.Standings.{sound_shows}
use Rattle.array_spec.specs.lemmas.LogBetween.{log_is_between}

-- ---- no facts

no_facts : Facts
no_facts = by_table []

given_none : {A : Type 0} (get : ℕ → Option A) → ((i : ℕ) → get i ≡ None) → (a n : ℕ) → filter_map get (range_with_len a n) ≡ []
given_none get none a zero = refl
given_none get none a (suc n) = rw (none a) (given_none get none (a + 1) n)

no_objects : (next : ℕ) → objects no_facts next ≡ []
unfolding no_facts
no_objects next = given_none (object no_facts) (λ i. refl) 0 next

no_segments : (next : ℕ) → segments no_facts next ≡ []
unfolding no_facts
no_segments next = given_none (segment no_facts) (λ i. refl) 0 next

none_named : (boot : BootRecord) → boot.patches ≡ [] → named_segments boot ≡ []
none_named boot none = rw none refl

none_used : (boot : BootRecord) → boot.patches ≡ [] → used_places boot (all_facts []) ≡ []
unfolding no_facts
none_used boot none = rw (none_named boot none) (rw (no_segments boot.next.segment) refl)

nothing_is_sound : (shelf : Geometry) (boot : BootRecord) → boot.patches ≡ [] → AreSound shelf boot []
unfolding no_facts
nothing_is_sound shelf boot none = record {
  ids = record { objects = tt; mediums = tt; addresses = tt; segments = tt; elisions = tt };
  objects = record {
    names = rw (no_objects boot.next.object) (λ i j d below past. absurd (omega (arith, past)));
    mediums = rw (no_objects boot.next.object) (λ i j d below past. absurd (omega (arith, past)));
    range_kept = rw (no_objects boot.next.object) tt;
    address_kept = rw (no_objects boot.next.object) tt;
    most = rw (no_objects boot.next.object) (omega arith);
  };
  mediums = record {
    disjoint = λ medium sector r s over over2. absurd (cc over.there);
    within = λ id start x r is. absurd (cc is);
    frozen = λ id medium start x r is. absurd (cc is);
  };
  addresses = record { there = λ medium sector at is. absurd (cc is); within = λ id sector x is. absurd (cc is) };
  segments = record {
    places = λ id d is. absurd (cc is);
    patch_ids = rw (none_named boot none) tt;
    distinct = rw (none_named boot none) (λ i j d below past. absurd (omega (arith, past)));
    apart = rw (none_used boot none) (λ i j d below past. absurd (omega (arith, past)));
  };
  elisions = record { grow = λ i j d below past. absurd (omega (arith, past)); fit = λ i j d below past. absurd (omega (arith, past)) };
  sequences = record {
    below = tt;
    distinct = λ i j d below past. absurd (omega (arith, past));
    rising = rw none (λ i j d below past. absurd (omega (arith, past)));
  };
}

-- the tables hold the array of nothing, whatever the devices show
holds_nothing : (shelf : Geometry) (members : View) (boot : BootRecord) → boot.patches ≡ [] → HoldsBase shelf members boot []
unfolding no_facts
holds_nothing shelf members boot none = record {
  patches = [];
  tables = record {
    patches_stand = rw none tt;
    sound = nothing_is_sound shelf boot none;
    data_stands = λ id d is. absurd (cc is);
  };
  base_stands = rw (no_objects boot.next.object) tt;
}

-- ---- members

pub kept_some : (b : Bool) (o : Option (List ℕ)) (bytes : List ℕ) → b ≡ true → o ≡ Some bytes → cond b o None ≡ Some bytes
kept_some true o bytes e f = f
kept_some false o bytes e f = cc

pub kept_is : (b : Bool) (o : Option (List ℕ)) (bytes : List ℕ) → cond b o None ≡ Some bytes → (b ≡ true) × (o ≡ Some bytes)
kept_is true o bytes e = (refl, e)
kept_is false o bytes e = cc

-- a byte of zeros is no open gate
pub no_gate : (i n : ℕ) → IsTrue (is_open i (zeros n)) → ⊥
no_gate i n e = grind (arith, nat_tests, slice_index, zeros, get_or-replicate, get_or_past, length-replicate, eqb)

-- one of two devices isn't missing
pub one_left : (a b : Condition) → 0 + cond (is_missing a) 1 0 + cond (is_missing b) 1 0 ≤ 1 → (a ≡ Sound) ⊎ (b ≡ Sound)
one_left Sound b few = inl refl
one_left Missing Sound few = inr refl
one_left LeftOut Sound few = inr refl
one_left Missing Missing few = absurd (omega (arith, few))
one_left Missing LeftOut few = absurd (omega (arith, few))
one_left LeftOut Missing few = absurd (omega (arith, few))
one_left LeftOut LeftOut few = absurd (omega (arith, few))

pub was_left_out : (a b : Condition) → MayBecome a b → b ≡ LeftOut → a ≡ LeftOut
was_left_out Sound b (inl e) f = absurd (cc (e, f))
was_left_out Sound b (inr e) f = absurd (cc (e, f))
was_left_out Missing b e f = absurd (cc (e, f))
was_left_out LeftOut b e f = refl

module _ (shelf : Geometry) (image : Image) (missing : Conditions) (slot : BootSlot) (boot : BootRecord) (least most : List Command)
    (lawful : IsRecordOf shelf boot) (names_sound : NamesSound shelf image missing slot boot) (lies : LogLies image missing boot least most)
    (more : Conditions) (view : View) (v : IsViewOf shelf image missing more view) where
  abbrev members : View
  members = of_members slot boot view

  was_sound : (d : Device) → more d ≡ Sound → missing d ≡ Sound
  was_sound d e = sound_before (missing d) (more d) (v.within d) e

  shows : (d : Device) → more d ≡ Sound → view d ≡ Some (image d)
  shows d e = sound_shows (more d) (image d) (view d) e (v.shown d)

  pub all_hold : AllHold shelf more members
  all_hold (Drive d) on sound =
      let named : names boot (Drive d) ≡ true = names_sound.named (Drive d) on (was_sound (Drive d) sound) in
      let there : body_in slot (image (Drive d)) ≡ spelling boot = names_sound.written d.0 on (was_sound (Drive d) sound) in
      let same : bytes_eq (body_in slot (image (Drive d))) (spelling boot) ≡ true = (bytes_eq-Decides _ _).1 there in
      rw (named, shows (Drive d) sound, same) refl
  all_hold (Nv n) on sound =
      let named : names boot (Nv n) ≡ true = names_sound.named (Nv n) on (was_sound (Nv n) sound) in
      rw (named, shows (Nv n) sound) refl

  one_sound : (n : ℕ) × (n < 2) × (more (nvram n) ≡ Sound)
  one_sound = grind (arith, nat_tests, one_left, nvram)

  all_shown : (n i : ℕ) (c : Command) → n < 2 → more (nvram n) ≡ Sound → slice_get least i ≡ Some c → Shows members n boot.flushed i c
  all_shown n i c below sound is =
      let there = lies.all n i c below (was_sound (nvram n) sound) is in
      record {
        slot = there.slot;
        bytes = image (nvram n);
        shown = kept_some (names boot (nvram n)) (view (nvram n)) (image (nvram n)) (names_sound.named (nvram n) below (was_sound (nvram n) sound)) (shows (nvram n) sound);
        gate = there.gate;
        spelled = there.spelled;
      }

  shown_in : (n i : ℕ) (c : Command) (bytes : List ℕ) → n < 2 → names boot (nvram n) ≡ true → ShowsIn bytes boot.flushed i c → (k : Condition) → MayBecome (missing (nvram n)) k
      → (o : Option (List ℕ)) → MayShowAs k (image (nvram n)) o → o ≡ Some bytes → slice_get most i ≡ Some c
  shown_in n i c bytes below named s Sound w o shown is =
      lies.no_other n i c below named (subst (λ (b : List ℕ). ShowsIn b boot.flushed i c) (same_some bytes (image (nvram n)) o is shown) s)
    where
      same_some : (a b : List ℕ) (o : Option (List ℕ)) → o ≡ Some a → o ≡ Some b → a ≡ b
      same_some a b o e f = cc
  shown_in n i c bytes below named s Missing w o shown is = of_missing shown
    where
      same_some : (a b : List ℕ) (o : Option (List ℕ)) → o ≡ Some a → o ≡ Some b → a ≡ b
      same_some a b o e f = cc

      of_missing : (o ≡ Some (image (nvram n))) ⊎ (o ≡ Some (zeros (length (image (nvram n))))) ⊎ (o ≡ None) → slice_get most i ≡ Some c
      of_missing (inl e) = lies.no_other n i c below named (subst (λ (b : List ℕ). ShowsIn b boot.flushed i c) (same_some bytes (image (nvram n)) o is e) s)
      of_missing (inr (inl e)) = absurd (no_gate i (length (image (nvram n))) (subst (λ (b : List ℕ). IsTrue (is_open i b)) (same_some bytes (zeros (length (image (nvram n)))) o is e) s.gate))
      of_missing (inr (inr e)) = absurd (cc (is, e))
  shown_in n i c bytes below named s LeftOut w o shown is =
      let none : names boot (nvram n) ≡ false = lies.left_out n below (was_left_out (missing (nvram n)) LeftOut w refl) in absurd (cc (named, none))

  no_other : (n i : ℕ) (c : Command) → Shows members n boot.flushed i c → slice_get most i ≡ Some c
  no_other n i c s =
      let k = kept_is (names boot (nvram n)) (view (nvram n)) s.bytes s.shown in
      elim (cases_lt n 2) [
        | inl below ↦ shown_in n i c s.bytes below k.0 (record { slot = s.slot; gate = s.gate; spelled = s.spelled }) (more (nvram n)) (v.within (nvram n)) (view (nvram n)) (v.shown (nvram n)) k.1
        | inr past ↦
            let none : names boot (nvram n) ≡ false = get_or_past boot.members.nvrams n false (omega (arith, past, lawful.lawful.members.nvram_flags)) in
            absurd (cc (k.0, none))
      ]

  pub between : ShowsBetween more members boot.flushed least most
  between = record { front = lies.front; room = lies.room; lawful = lies.lawful; one_sound = one_sound; all = all_shown; no_other = no_other }

pub unflushed_is_read : UnflushedIsRead
unflushed_is_read shelf image missing slot boot least most arrays lawful none in_force names_sound accepted lies arrays_are = (
  record {
    base = [];
    each = λ more view v. record {
      in_force = in_force;
      all_hold = all_hold shelf image missing slot boot least most lawful names_sound lies more view v;
      holds = holds_nothing shelf (of_members slot boot view) boot none;
      leads = log_is_between more (of_members slot boot view) boot.flushed [] least most arrays accepted (between shelf image missing slot boot least most lawful names_sound lies more view v) arrays_are;
    };
  },
  refl,
)

-- ---- the base is one

no_patches : (members : View) (ps : List Patch) (fs : List (List AnyFact)) → ps ≡ [] → AllZip (PatchStands members) ps fs → fs ≡ []
no_patches members [] [] e s = refl
no_patches members [] (f ∷ fs) e s = absurd s
no_patches members (p ∷ ps) fs e s = absurd (cc e)

no_entries : (members : View) (facts : Facts) (xs : List ObjectFact) (base : Array) → xs ≡ [] → AllZip (EntryStands members facts) xs base → base ≡ []
no_entries members facts [] [] e s = refl
no_entries members facts [] (b ∷ bs) e s = absurd s
no_entries members facts (x ∷ xs) base e s = absurd (cc e)

pub unflushed_holds_nothing : UnflushedHoldsNothing
unfolding no_facts
unflushed_holds_nothing shelf members boot base none h =
    let patches : h.patches ≡ [] = no_patches members boot.patches h.patches none h.tables.patches_stand in
    let objects_none : objects (all_facts h.patches) boot.next.object ≡ [] = ap (λ ps. objects (all_facts ps) boot.next.object) patches ∙ no_objects boot.next.object in
    no_entries members (all_facts h.patches) (objects (all_facts h.patches) boot.next.object) base objects_none h.base_stands
