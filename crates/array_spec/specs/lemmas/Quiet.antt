-- Writes in units that no record uses change nothing that the devices stand for.
use Rattle.std.proofs.lemmas.Bool.Decides.{nat_tests}
use Rattle.std.proofs.Common.{◌≡◌, ℕ, ◌+◌, ◌*◌, ◌/◌, ◌≤◌, ◌<◌, List, length, map, take, drop, refl, sym, ap, subst, arith, ◌∙◌, inl, inr, Bool, true, false}
use Rattle.std.specs.Prelude.{Option, Some, slice_index, option_map, option_and_then, IfSome, IsSome, ◌⊎◌}
use Rattle.std.specs.Str.{bytes_eq}
use Rattle.std.proofs.lemmas.List.{length-take, length-drop, get_or-take, get_or-drop}
use Rattle.std.proofs.lemmas.Grind.{same_number_lists}
use Rattle.std.proofs.lemmas.Bool.{cases_Bool}
use Rattle.boot_codec.specs.Prelude.{bytes_at, zeros, IsBytesOf, Geometry, drive, nvram, Image, View, Condition, Conditions, Sound, Missing, LeftOut, MayShowAs, slots_of, Array, Device, Drive, Nv, Facts, Place, names, BootSlot, A, B, IsEffective, IsDecided, shown_by, with_body, body_in, votes, other_slot, of_members, gate_place, body_place, spelling}
use Rattle.boot_codec.specs.declared.record.BootRecord.{BootRecord}
use Rattle.array_spec.specs.lemmas.LogMoves.{shows_move, leads_move}
use Rattle.array_spec.specs.lemmas.Moves.{SameUnit, holds_moves}
use Rattle.array_spec.specs.lemmas.Used.{patches_are_used, data_is_used}
use Rattle.array_spec.specs.Counts.{is_used}
use Rattle.array_spec.specs.Laws.{DiffersOnlyIn, IsUnused, QuietWrites}
use Rattle.array_spec.specs.Meaning.{AllHold}
use Rattle.array_spec.specs.Standing.{Stands, MayAppear, IsViewOf, MayBeGiven, IsReadBy}
use Rattle.array_spec.specs.Stored.{all_facts}

pub bytes_same : (xs ys : List ℕ) (a n : ℕ) → length xs ≡ length ys → ((at : ℕ) → a ≤ at → at < a + n → slice_index xs at ≡ slice_index ys at) → bytes_at a n xs ≡ bytes_at a n ys
bytes_same xs ys a n long same =
    same_number_lists (take n (drop a xs)) (take n (drop a ys)) lengths each
  where
    lengths : length (take n (drop a xs)) ≡ length (take n (drop a ys))
    lengths = rw (length-take n (drop a xs)) (rw (length-take n (drop a ys)) (rw (length-drop a xs) (rw (length-drop a ys) (rw long refl))))

    each : (k : ℕ) → k < length (take n (drop a xs)) → slice_index (take n (drop a xs)) k ≡ slice_index (take n (drop a ys)) k
    each k below =
        let e : length (take n (drop a xs)) ≤ n = rw (length-take n (drop a xs)) (omega arith) in
        let low : k < n = omega (arith, below, e) in
        get_or-take n (drop a xs) k 0 low ∙ get_or-drop a xs k 0 ∙ same (a + k) (omega arith) (omega (arith, low))
        ∙ sym (get_or-take n (drop a ys) k 0 low ∙ get_or-drop a ys k 0)

-- both show the same, or the one shows what stood on the device before and the other what stands there now
unfoldable pub Matches : List ℕ → List ℕ → Option (List ℕ) → Option (List ℕ) → Type 0
Matches old new o n = (o ≡ n) ⊎ ((o ≡ Some old) × (n ≡ Some new))

-- what the device would have shown before
pub before : (c : Condition) (old new : List ℕ) (n : Option (List ℕ)) → length old ≡ length new → MayShowAs c new n → (o : Option (List ℕ)) × MayShowAs c old o × Matches old new o n
unfolding Matches
before Sound old new n long h = (Some old, refl, inr (refl, h))
before Missing old new n long (inl e) = (Some old, inl refl, inr (refl, e))
before Missing old new n long (inr (inl z)) = (n, inr (inl (z ∙ ap (λ k. Some (zeros k)) (sym long))), inl refl)
before Missing old new n long (inr (inr none)) = (n, inr (inr none), inl refl)
before LeftOut old new n long h = (n, subst (λ k. IfSome n (λ other. IsBytesOf k other)) (sym long) h, inl refl)

pub before_any : (c : Condition) (old new : List ℕ) (n : Option (List ℕ)) → (c ≡ Sound → n ≡ Some new) → (o : Option (List ℕ)) × (c ≡ Sound → o ≡ Some old) × Matches old new o n
unfolding Matches
before_any Sound old new n h = (Some old, λ e. refl, inr (refl, h refl))
before_any Missing old new n h = (n, λ e. cc, inl refl)
before_any LeftOut old new n h = (n, λ e. cc, inl refl)

-- the boot units are the same
pub record SameBoot (old new : List ℕ) : Type 0 where
  pub gate : (slot : BootSlot) → slice_index new (gate_place slot) ≡ slice_index old (gate_place slot)
  pub body : (slot : BootSlot) → body_in slot new ≡ body_in slot old

same_shown : (old new : List ℕ) (slot : BootSlot) → SameBoot old new → shown_by slot new ≡ shown_by slot old
same_shown old new slot s = rw (s.gate slot) (rw (s.body slot) refl)

same_vote : (old new : List ℕ) (slot : BootSlot) (o n : Option (List ℕ)) → SameBoot old new → Matches old new o n → option_and_then (shown_by slot) n ≡ option_and_then (shown_by slot) o
unfolding Matches
same_vote old new slot o n s (inl e) = ap (option_and_then (shown_by slot)) (sym e)
same_vote old new slot o n s (inr (e, f)) = rw e (rw f (same_shown old new slot s))

pub effective_moves : (shelf : Geometry) (v w : View) (slot : BootSlot) (body : List ℕ) → ((s : BootSlot) → votes shelf v s ≡ votes shelf w s) → IsEffective shelf v slot body → IsEffective shelf w slot body
effective_moves shelf v w slot body same e = record {
  decided = subst (λ vs. IsDecided vs body) (same slot) e.decided;
  highest = λ other d. e.highest other (subst (λ vs. IsDecided vs other) (sym (same (other_slot slot))) d);
}

-- of members: the same, or a member's bytes before and now
MemberMatches : Bool → List ℕ → List ℕ → Option (List ℕ) → Option (List ℕ) → Type 0
MemberMatches named old new o n = (o ≡ n) ⊎ ((named ≡ true) × (o ≡ Some old) × (n ≡ Some new))

-- each device shows in one view what it showed in the other, of its bytes now and before
unfoldable pub AllMatch : Image → Image → View → View → Type 0
AllMatch old new v w = (device : Device) → Matches (old device) (new device) (v device) (w device)

same_body_in : (old new body : List ℕ) (slot : BootSlot) → body_in slot new ≡ body_in slot old → (o n : Option (List ℕ)) → Matches old new o n
    → Matches old new (option_and_then (with_body slot body) o) (option_and_then (with_body slot body) n)
unfolding Matches
same_body_in old new body slot same o n (inl e) = inl (ap (option_and_then (with_body slot body)) e)
same_body_in old new body slot same o n (inr (e, f)) =
    elim (cases_Bool (bytes_eq (body_in slot old) body)) [
      | inl t ↦ inr (rw e (rw t refl), rw f (rw same (rw t refl)))
      | inr t ↦ inl (rw e (rw f (rw same (rw t refl))))
    ]

pub in_unit : (at unit n : ℕ) → n < 16 → 65536 * unit + 4096 * n ≤ at → at < 65536 * unit + 4096 * n + 4096 → at / 65536 ≡ unit
in_unit at unit n below from_there to_there = omega (arith, below, from_there, to_there)

-- a record is read the same where its body, the NVRAM and the units that it uses are the same
module _ (shelf : Geometry) (old new : Image) (slot : BootSlot) (boot : BootRecord)
    (long : (device : Device) → length (old device) ≡ length (new device))
    (nvram_same : (j : ℕ) → new (nvram j) ≡ old (nvram j))
    (bodies : (i : ℕ) → body_in slot (new (drive i)) ≡ body_in slot (old (drive i))) where
  pub same_nvram : (v w : View) → AllMatch old new v w → (j : ℕ) → of_members slot boot v (nvram j) ≡ of_members slot boot w (nvram j)
  unfolding AllMatch Matches
  same_nvram v w match j =
      let e : v (nvram j) ≡ w (nvram j) = elim (match (nvram j)) [ inl h ↦ h | inr h ↦ h.0 ∙ ap (λ x. Some x) (sym (nvram_same j)) ∙ sym h.1 ] in
      rw e refl

  same_members : (v w : View) → AllMatch old new v w → (i : ℕ)
      → MemberMatches (names boot (drive i)) (old (drive i)) (new (drive i)) (of_members slot boot v (drive i)) (of_members slot boot w (drive i))
  unfolding AllMatch Matches MemberMatches
  same_members v w match i =
      elim (cases_Bool (names boot (drive i))) [
        | inl named ↦ rw named (elim (same_body_in (old (drive i)) (new (drive i)) (spelling boot) slot (bodies i) (v (drive i)) (w (drive i)) (match (drive i))) [
          | inl e ↦ inl e
          | inr e ↦ inr (refl, e.0, e.1)
        ])
        | inr other ↦ inl (rw other refl)
      ]

  pub reading_moves : (more : Conditions) (v w : View) (base : Array) (arrays : List Array) → AllMatch old new v w
      → (r : IsReadBy shelf more (of_members slot boot v) slot boot base arrays)
      → ((p : Place) → is_used boot (all_facts r.holds.patches) p.slot p.unit ≡ true → names boot (drive p.slot) ≡ true → (at : ℕ) → at / 65536 ≡ p.unit
      → slice_index (old (drive p.slot)) at ≡ slice_index (new (drive p.slot)) at)
      → IsReadBy shelf more (of_members slot boot w) slot boot base arrays
  unfolding AllMatch Matches MemberMatches SameUnit
  reading_moves more v w base arrays match r units =
      record {
        in_force = r.in_force;
        all_hold = hold;
        holds = holds_moves m n shelf boot base r.holds (patches_are_used boot facts (SameUnit m n) unit_same)
            (data_is_used boot facts (SameUnit m n) r.holds.tables.sound.ids.segments unit_same);
        leads = leads_move more m n (same_nvram v w match) boot.flushed base arrays r.leads;
      }
    where
      m : View
      m = of_members slot boot v

      n : View
      n = of_members slot boot w

      facts : Facts
      facts = all_facts r.holds.patches

      hold : AllHold shelf more n
      hold (Drive d) on sound = elim (same_members v w match d.0) [
        | inl e ↦ subst (λ o. IsSome o) e (r.all_hold (Drive d) on sound)
        | inr e ↦ subst (λ o. IsSome o) (sym e.2) refl
      ]
      hold (Nv side) on sound = subst (λ o. IsSome o) (same_nvram v w match side.0) (r.all_hold (Nv side) on sound)

      unit_same : (p : Place) → is_used boot facts p.slot p.unit ≡ true → SameUnit m n p
      unit_same p used k below = elim (same_members v w match p.slot) [
        | inl e ↦ ap (option_map (bytes_at (65536 * p.unit + 4096 * k) 4096)) e
        | inr e ↦ rw e.1 (rw e.2 (ap (λ x. Some x)
            (bytes_same (old (drive p.slot)) (new (drive p.slot)) (65536 * p.unit + 4096 * k) 4096 (long (drive p.slot))
            (λ at f t. units p used e.0 at (in_unit at p.unit k below f t)))))
      ]

module _ (shelf : Geometry) (old new : Image) (missing : Conditions) (arrays : List Array) (differs : DiffersOnlyIn (IsUnused shelf old missing) old new) (s : Stands shelf old missing arrays) where
  long : (device : Device) → length (old device) ≡ length (new device)
  long (Drive d) = sym (differs.size d.0)
  long (Nv n) = ap length (sym (differs.nvram n.0))

  low : (i at : ℕ) → at < 196608 → slice_index (new (drive i)) at ≡ slice_index (old (drive i)) at
  low i at below = grind (arith, nat_tests, drive)

  gate_low : (slot : BootSlot) → gate_place slot < 196608
  gate_low A = omega arith
  gate_low B = omega arith

  body_low : (slot : BootSlot) → body_place slot + 65536 ≤ 196608
  body_low A = omega arith
  body_low B = omega arith

  same_boot : (i : ℕ) → SameBoot (old (drive i)) (new (drive i))
  same_boot i = record {
    gate = λ slot. low i (gate_place slot) (gate_low slot);
    body = λ slot. bytes_same (new (drive i)) (old (drive i)) (body_place slot) 65536 (sym (long (drive i)))
        (λ at from_there below. low i at (let k : body_place slot + 65536 ≤ 196608 = body_low slot in omega (arith, below, k)));
  }

  same_votes : (v w : View) → AllMatch old new v w → (slot : BootSlot) → votes shelf v slot ≡ votes shelf w slot
  unfolding AllMatch
  same_votes v w match slot =
      let each : (i : ℕ) → option_and_then (shown_by slot) (v (drive i)) ≡ option_and_then (shown_by slot) (w (drive i)) =
      λ i. sym (same_vote (old (drive i)) (new (drive i)) slot (v (drive i)) (w (drive i)) (same_boot i) (match (drive i))) in
      λ k. map (λ i. each i k) (slots_of shelf)

  -- the view that the old image would have appeared as
  loose : (more : Conditions) (w : View) → MayAppear shelf new missing more w → (v : View) × MayAppear shelf old missing more v × AllMatch old new v w
  unfolding AllMatch
  loose more w a =
      let back : (device : Device) → (o : Option (List ℕ)) × (more device ≡ Sound → o ≡ Some (old device)) × Matches (old device) (new device) o (w device) =
      λ device. before_any (more device) (old device) (new device) (w device) (a.shown device) in
      (λ device. (back device).0, record { within = a.within; bearable = a.bearable; shown = λ device. (back device).1 }, λ device. (back device).2)

  strict : (more : Conditions) (w : View) → IsViewOf shelf new missing more w → (v : View) × IsViewOf shelf old missing more v × AllMatch old new v w
  unfolding AllMatch
  strict more w a =
      let back : (device : Device) → (o : Option (List ℕ)) × MayShowAs (more device) (old device) o × Matches (old device) (new device) o (w device) =
      λ device. before (more device) (old device) (new device) (w device) (long device) (a.shown device) in
      (λ device. (back device).0, record { within = a.within; bearable = a.bearable; shown = λ device. (back device).1 }, λ device. (back device).2)

  given_before : (slot : BootSlot) (boot : BootRecord) → MayBeGiven shelf new missing slot boot → MayBeGiven shelf old missing slot boot
  given_before slot boot g =
      let (v, appears, match) = loose g.more g.view g.appears in
      record {
        more = g.more;
        view = v;
        appears = appears;
        lawful = g.lawful;
        effective = effective_moves shelf g.view v slot (spelling boot) (λ t. sym (same_votes v g.view match t)) g.effective;
      }

  bodies : (slot : BootSlot) (i : ℕ) → body_in slot (new (drive i)) ≡ body_in slot (old (drive i))
  bodies slot i = (same_boot i).body slot

  unit_bytes : (slot : BootSlot) (boot : BootRecord) (more : Conditions) (v : View) (base : Array) → MayBeGiven shelf old missing slot boot → IsViewOf shelf old missing more v
      → (r : IsReadBy shelf more (of_members slot boot v) slot boot base arrays)
      → (p : Place) → is_used boot (all_facts r.holds.patches) p.slot p.unit ≡ true → names boot (drive p.slot) ≡ true → (at : ℕ) → at / 65536 ≡ p.unit
      → slice_index (old (drive p.slot)) at ≡ slice_index (new (drive p.slot)) at
  unit_bytes slot boot more v base given view r p used named at in_it = elim (differs.drive p.slot at) [
    | inl e ↦ sym e
    | inr u ↦ absurd (elim (u.unused slot boot more v r.holds.patches given view r.holds.tables) [
      | inl free ↦ both (subst (λ unit. is_used boot (all_facts r.holds.patches) p.slot unit ≡ false) in_it free.unused) used
      | inr other ↦ both other named
    ])
  ]
    where
      both : {b : Bool} → b ≡ false → b ≡ true → ⊥
      both e f = cc

  quiet : Stands shelf new missing arrays
  quiet = record {
    bearable = s.bearable;
    some = s.some;
    gives = λ more w a.
        let (v, appears, match) = loose more w a in
        let e = s.gives more v appears in
        record { slot = e.slot; boot = e.boot; lawful = e.lawful; effective = effective_moves shelf v w e.slot (spelling e.boot) (same_votes v w match) e.effective };
    reads = λ slot boot g.
        let r = s.reads slot boot (given_before slot boot g) in
        record {
          base = r.base;
          each = λ more w a.
              let (v, view, match) = strict more w a in
              let read = r.each more v view in
              reading_moves shelf old new slot boot long differs.nvram (bodies slot) more v w r.base arrays match read (unit_bytes slot boot more v r.base (given_before slot boot g) view read);
        };
    agree = λ slot slot2 boot boot2 g g2.
        let both = s.agree slot slot2 boot boot2 (given_before slot boot g) (given_before slot2 boot2 g2) in
        record {
          in_order = both.in_order;
          same_base = both.same_base;
          no_log = λ less more w a nvram_same i c t.
              let (v, view, match) = strict more w a in
              both.no_log less more v view nvram_same i c (shows_move (of_members slot boot w) (of_members slot boot v) (λ j. sym (same_nvram shelf old new slot boot long differs.nvram (bodies slot) v w match j)) nvram_same boot.flushed i c t);
        };
  }

pub quiet_writes : QuietWrites
quiet_writes shelf old new missing arrays whole differs s = quiet shelf old new missing arrays differs s
