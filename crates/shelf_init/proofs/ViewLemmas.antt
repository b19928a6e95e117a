-- What a view gives while an array is made.
use Rattle.shelf_init.proofs.Prelude.{◌≡◌, ◌≢◌, ◌⊎◌, inl, inr, ℕ, zero, suc, ◌<◌, List, [], ◌∷◌, length, take, refl, sym, ◌∙◌, ap, subst, arith, Bool, true, false, Some, None, option_and_then, IsTrue, Contains, cases_Bool, Device, Drive, Nv, NVRAM_DEVICES, is_open, Array, after_all, Geometry, Image, View, Condition, Conditions, Sound, Missing, LeftOut, IsOn, IsWithin, MayBecome, MayShow, drive, nvram, BootSlot, A, B, IsRecordOf, IsEffective, is_vote, names, shown_by, body_in, spelling, LOG_SLOTS, IsReadInto, LogLies, unflushed_is_read, geometry_of, Shelved, first_record, IsBlank, view_now, none_missing, NoneLeftOut, IsNoneOrEmpty, HidesOnly}
use Rattle.std.specs.Str.{bytes_eq}
use Rattle.std.specs.Cmp.Lexicographic.{same_text}
use Rattle.std.proofs.Math.Seq.{take-length}
use Rattle.shelf_init.proofs.FirstLemmas.{first_in_force, is_named}
use Rattle.shelf_init.proofs.VoteLemmas.{view_shows, decided_of_fewer, not_decided, none_is_decided}

-- while no more is shown than when no body was in force, none is
pub hidden_gives_none : (old : Shelved) (image : Image) → IsBlank old → HidesOnly old image → IsNoneOrEmpty (geometry_of old) image
hidden_gives_none old image blank hides more view bears named shown slot body e =
    absurd (none_is_decided (geometry_of old) (view_now old) (λ s b x. blank (record { slot = s; body = b; effective = x })) slot body
    (decided_of_fewer (geometry_of old) view (view_now old) slot body less e.decided))
  where
    less : (i : ℕ) → i < old.drives → (option_and_then (shown_by slot) (view (drive i)) ≡ None) ⊎ (option_and_then (shown_by slot) (view (drive i)) ≡ shown_by slot (old.disk (drive i)).bytes)
    less i lt = elim (view_shows image more view named shown slot i) [
      | inl none ↦ inl none
      | inr same ↦ elim (hides slot i lt) [ inl none ↦ inl (same ∙ none) | inr was ↦ inr (same ∙ was) ]
    ]

-- the drives show nothing in a slot, so no body of it is in force
none_of_slot : (shelf : Geometry) (image : Image) (slot : BootSlot) → ((i : ℕ) → i < shelf.slots → shown_by slot (image (drive i)) ≡ None)
    → (more : Conditions) (view : View) → NoneLeftOut more → MayShow image more view → (body : List ℕ) → IsEffective shelf view slot body → ⊥
none_of_slot shelf image slot none more view named shown body e = not_decided shelf view slot body votes e.decided
  where
    votes : (i : ℕ) → i < shelf.slots → is_vote body (option_and_then (shown_by slot) (view (drive i))) ≡ false
    votes i lt = elim (view_shows image more view named shown slot i) [
      | inl nothing ↦ ap (is_vote body) nothing
      | inr same ↦ ap (is_vote body) (same ∙ none i lt)
    ]

-- while all gates are closed, none is
pub shut_gives_none : (shelf : Geometry) (image : Image) → ((slot : BootSlot) (i : ℕ) → i < shelf.slots → shown_by slot (image (drive i)) ≡ None) → IsNoneOrEmpty shelf image
shut_gives_none shelf image none more view bears named shown slot body e = absurd (none_of_slot shelf image slot (none slot) more view named shown body e)

-- the first record's body stands on all drives behind gates open or closed, no other gate is open, and no command is shown
pub record IsOpening (shelf : Geometry) (image : Image) : Type 0 where
  pub shut : (i : ℕ) → i < shelf.slots → shown_by A (image (drive i)) ≡ None
  pub opens : (i : ℕ) → i < shelf.slots → (shown_by B (image (drive i)) ≡ None) ⊎ (shown_by B (image (drive i)) ≡ Some (spelling (first_record shelf)))
  pub written : (i : ℕ) → i < shelf.slots → body_in B (image (drive i)) ≡ spelling (first_record shelf)
  pub no_command : (n i : ℕ) → n < NVRAM_DEVICES → i < LOG_SLOTS → is_open i (image (nvram n)) ≡ false

no_gate : (b : Bool) → b ≡ false → IsTrue b → ⊥
no_gate b shut is = cc (subst (λ (x : Bool). IsTrue x) shut is)

-- no log lies there
no_log : (shelf : Geometry) (image : Image) → IsOpening shelf image → LogLies image none_missing (first_record shelf) [] []
no_log shelf image o = record {
  front = ([], refl);
  room = omega arith;
  lawful = λ i c is. absurd (cc is);
  all = λ n i c lt sound is. absurd (cc is);
  no_other = λ n i c lt named shows. absurd (no_gate (is_open i (image (nvram n))) (o.no_command n i lt shows.slot) shows.gate);
  left_out = λ n lt left. absurd (cc left);
}

-- the device is named
nvram_named : (shelf : Geometry) (n : ℕ) → n < NVRAM_DEVICES → names (first_record shelf) (nvram n) ≡ true
nvram_named shelf (suc (suc n)) lt = absurd (omega (arith, lt))
nvram_named shelf _ lt = refl

all_named : (shelf : Geometry) (d : Device) → IsOn shelf d → names (first_record shelf) d ≡ true
all_named shelf (Drive d) on = is_named shelf.slots d.0 on
all_named shelf (Nv n) on = nvram_named shelf n.0 on

nothing_taken : (n : ℕ) → Contains {X = Array} ([] ∷ []) (after_all [] (take n []))
nothing_taken zero = (0, omega arith, refl)
nothing_taken (suc n) = (0, omega arith, refl)

-- so the record is read into the array of nothing
pub first_is_read : (shelf : Geometry) (image : Image) → IsRecordOf shelf (first_record shelf) → IsOpening shelf image → IsReadInto shelf image none_missing B (first_record shelf) ([] ∷ [])
first_is_read shelf image lawful o =
    (unflushed_is_read shelf image none_missing B (first_record shelf) [] [] ([] ∷ []) lawful refl (first_in_force shelf)
    (record { named = λ d on sound. all_named shelf d on; written = λ i lt sound. o.written i lt }) tt (no_log shelf image o) (λ n low high. nothing_taken n)).0

-- devices go missing with no mark
pub within_sound : (more : Conditions) → NoneLeftOut more → IsWithin none_missing more
within_sound more named d = becomes (more d) (named d)
  where
    becomes : (c : Condition) → c ≢ LeftOut → MayBecome Sound c
    becomes Sound ne = inl refl
    becomes Missing ne = inr refl
    becomes LeftOut ne = absurd (ne refl)

-- the array is that one
only_one : (a : Array) → Contains {X = Array} ([] ∷ []) a → a ≡ []
only_one a (zero, lt, is) = sym is
only_one a (suc k, lt, is) = absurd (omega (arith, lt))

-- while the gates are opened, the first record is given, or none
pub opening_gives_first : (shelf : Geometry) (image : Image) → IsRecordOf shelf (first_record shelf) → IsOpening shelf image → IsNoneOrEmpty shelf image
opening_gives_first shelf image lawful o more view bears named shown A body e = absurd (none_of_slot shelf image A o.shut more view named shown body e)
opening_gives_first shelf image lawful o more view bears named shown B body e =
    let reading = first_is_read shelf image lawful o in
    let r = reading.each more view (record { within = within_sound more named; bearable = bears; shown = shown }) in
    let array : after_all reading.base (take (length r.leads.log) r.leads.log) ≡ [] = only_one _ (r.leads.fronts (length r.leads.log) r.leads.enough (omega arith)) in
    record {
      in_slot = refl;
      spelled = same;
      effective = record { slot = B; boot = first_record shelf; lawful = lawful; effective = subst (λ (b : List ℕ). IsEffective shelf view B b) same e };
      by_slot = refl;
      by_record = refl;
      means = record {
        in_force = r.in_force;
        base = reading.base;
        holds = r.holds;
        log = r.leads.log;
        log_stands = r.leads.log_stands;
        devices_agree = r.leads.devices_agree;
        result = sym array ∙ ap (after_all reading.base) (take-length r.leads.log);
      };
    }
  where
    first : List ℕ
    first = spelling (first_record shelf)

    no_vote : bytes_eq first body ≡ false → (i : ℕ) → i < shelf.slots → is_vote body (option_and_then (shown_by B) (view (drive i))) ≡ false
    no_vote differs i lt = elim (view_shows image more view named shown B i) [
      | inl nothing ↦ ap (is_vote body) nothing
      | inr is ↦ elim (o.opens i lt) [
        | inl nothing ↦ ap (is_vote body) (is ∙ nothing)
        | inr some ↦ ap (is_vote body) (is ∙ some) ∙ differs
      ]
    ]

    same : body ≡ first
    same = elim (cases_Bool (bytes_eq first body)) [
      | inl equal ↦ sym (same_text first body (sym equal))
      | inr differs ↦ absurd (not_decided shelf view B body (no_vote differs) e.decided)
    ]
