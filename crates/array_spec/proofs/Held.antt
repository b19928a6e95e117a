-- A record that is held, and writes to NVRAM.
use Rattle.array_spec.proofs.Prelude.{nat_tests, ◌≡◌, ℕ, List, length, map, refl, sym, ap, subst, arith, inl, inr, ◌∙◌, Bool, true, false, cond, ◌+◌, ◌*◌, Option, Some, None, IsSome, option_map, option_and_then, bytes_at, Geometry, drive, Image, View, Conditions, Sound, MayShowAs, IsWithin, slots_of, Array, Device, Drive, Nv, Place, BootSlot, of_members, votes, shown_by, spelling, BootRecord, Matches, before, before_any, effective_moves, within_twice, sound_shows, patches_are_used, data_is_used, spells_one, held_is_given, one_is_effective, HeldStands, NvramKeeps, DiffersOnlyInNvram, AllHold, Stands, MayAppear, IsViewOf, MayBeGiven, IsReadBy, LeadsInto, all_facts}
use Rattle.array_spec.specs.lemmas.Moves.{SameUnit, holds_moves}

pub held_stands : HeldStands
held_stands shelf image missing slot boot arrays eleven bearable some lawful held r = record {
  bearable = bearable;
  some = some;
  gives = λ more view a. record { slot = slot; boot = boot; lawful = lawful; effective = held_is_given shelf image missing more view slot (spelling boot) eleven held a };
  reads = λ t b g.
      let e = same t b g in
      record {
        base = r.base;
        each = λ more w v. subst (λ x. IsReadBy shelf more (of_members t x w) t x r.base arrays) (sym e.1)
            (subst (λ x. IsReadBy shelf more (of_members x boot w) x boot r.base arrays) (sym e.0) (r.each more w v));
      };
  agree = λ t t2 b b2 g g2.
      let e = same t b g in
      let e2 = same t2 b2 g2 in
      let k : b.flushed ≡ b2.flushed = ap (λ x. x.flushed) e.1 ∙ sym (ap (λ x. x.flushed) e2.1) in
      record { in_order = λ later. omega (arith, k); same_base = λ f. refl; no_log = λ less. absurd (omega (arith, less, k)) };
}
  where
    same : (t : BootSlot) (b : BootRecord) → MayBeGiven shelf image missing t b → (t ≡ slot) × (b ≡ boot)
    same t b g =
        let one : (t ≡ slot) × (spelling b ≡ spelling boot) =
        one_is_effective shelf g.view t slot (spelling b) (spelling boot) g.effective (held_is_given shelf image missing g.more g.view slot (spelling boot) eleven held g.appears) in
        (one.0, spells_one shelf b boot g.lawful lawful one.1)

module _ (shelf : Geometry) (old new : Image) (missing later : Conditions) (arrays others : List Array) (within : IsWithin missing later) (differs : DiffersOnlyInNvram old new)
    (s : Stands shelf old missing arrays) where
  long : (device : Device) → length (old device) ≡ length (new device)
  long (Drive d) = ap length (sym (differs.drive d.0))
  long (Nv n) = sym (differs.size n.0)

  SameDrives : View → View → Type 0
  SameDrives v w = (i : ℕ) → v (drive i) ≡ w (drive i)

  drive_same : (i : ℕ) (o n : Option (List ℕ)) → Matches (old (drive i)) (new (drive i)) o n → o ≡ n
  unfolding Matches
  drive_same i o n (inl e) = e
  drive_same i o n (inr (e, f)) = e ∙ ap (λ x. Some x) (sym (differs.drive i)) ∙ sym f

  strict : (more : Conditions) (w : View) → IsViewOf shelf new later more w → (v : View) × IsViewOf shelf old missing more v × SameDrives v w
  unfolding SameDrives
  strict more w a =
      let back : (device : Device) → (x : Option (List ℕ)) × MayShowAs (more device) (old device) x × Matches (old device) (new device) x (w device) =
      λ device. before (more device) (old device) (new device) (w device) (long device) (a.shown device) in (
        λ device. (back device).0,
        record { within = within_twice missing later more within a.within; bearable = a.bearable; shown = λ device. (back device).1 },
        λ i. drive_same i ((back (drive i)).0) (w (drive i)) (back (drive i)).2,
      )

  loose : (more : Conditions) (w : View) → MayAppear shelf new later more w → (v : View) × MayAppear shelf old missing more v × SameDrives v w
  unfolding SameDrives
  loose more w a =
      let back : (device : Device) → (x : Option (List ℕ)) × (more device ≡ Sound → x ≡ Some (old device)) × Matches (old device) (new device) x (w device) =
      λ device. before_any (more device) (old device) (new device) (w device) (a.shown device) in (
        λ device. (back device).0,
        record { within = within_twice missing later more within a.within; bearable = a.bearable; shown = λ device. (back device).1 },
        λ i. drive_same i ((back (drive i)).0) (w (drive i)) (back (drive i)).2,
      )

  same_votes : (v w : View) → SameDrives v w → (slot : BootSlot) → votes shelf v slot ≡ votes shelf w slot
  unfolding SameDrives
  same_votes v w same slot = λ k. map (λ i. option_and_then (shown_by slot) (same i k)) (slots_of shelf)

  given_before : (slot : BootSlot) (boot : BootRecord) → MayBeGiven shelf new later slot boot → MayBeGiven shelf old missing slot boot
  given_before slot boot g =
      let (v, appears, same) = loose g.more g.view g.appears in
      record {
        more = g.more;
        view = v;
        appears = appears;
        lawful = g.lawful;
        effective = effective_moves shelf g.view v slot (spelling boot) (λ t. sym (same_votes v g.view same t)) g.effective;
      }

  reading : (slot : BootSlot) (boot : BootRecord) (more : Conditions) (v w : View) (base : Array) → IsViewOf shelf new later more w → SameDrives v w
      → IsReadBy shelf more (of_members slot boot v) slot boot base arrays → LeadsInto more (of_members slot boot w) boot.flushed base others
      → IsReadBy shelf more (of_members slot boot w) slot boot base others
  unfolding SameDrives SameUnit
  reading slot boot more v w base a same r leads = record {
    in_force = r.in_force;
    all_hold = hold;
    holds = holds_moves (of_members slot boot v) (of_members slot boot w) shelf boot base r.holds
        (patches_are_used boot (all_facts r.holds.patches) (SameUnit (of_members slot boot v) (of_members slot boot w)) (λ p used. unit_same p))
        (data_is_used boot (all_facts r.holds.patches) (SameUnit (of_members slot boot v) (of_members slot boot w)) r.holds.tables.sound.ids.segments (λ p used. unit_same p));
    leads = leads;
  }
    where
      member : (i : ℕ) → of_members slot boot v (drive i) ≡ of_members slot boot w (drive i)
      member i = rw (same i) refl

      unit_same : (p : Place) → SameUnit (of_members slot boot v) (of_members slot boot w) p
      unit_same p k below = ap (option_map (bytes_at (65536 * p.unit + 4096 * k) 4096)) (member p.slot)

      is_there : (o : Option (List ℕ)) (bytes : List ℕ) (b : Bool) → o ≡ Some bytes → b ≡ true → IsSome (cond b o None)
      is_there o bytes true e f = rw e refl
      is_there o bytes false e f = cc

      named : (o : Option (List ℕ)) (b : Bool) → IsSome (cond b o None) → b ≡ true
      named o true h = refl
      named o false h = cc

      hold : AllHold shelf more (of_members slot boot w)
      hold (Drive d) on sound = subst (λ o. IsSome o) (member d.0) (r.all_hold (Drive d) on sound)
      hold (Nv n) on sound = grind (arith, nat_tests, is_there, sound_shows)

pub nvram_keeps : NvramKeeps
nvram_keeps shelf old new missing later arrays others within bearable some differs s leads no_log = record {
  bearable = bearable;
  some = some;
  gives = λ more w a.
      let (v, appears, same) = loose shelf old new missing later arrays others within differs s more w a in
      let e = s.gives more v appears in
      record {
        slot = e.slot;
        boot = e.boot;
        lawful = e.lawful;
        effective = effective_moves shelf v w e.slot (spelling e.boot) (same_votes shelf old new missing later arrays others within differs s v w same) e.effective;
      };
  reads = λ slot boot g.
      let given = given_before shelf old new missing later arrays others within differs s slot boot g in
      let r = s.reads slot boot given in
      record {
        base = r.base;
        each = λ more w a.
            let (v, view, same) = strict shelf old new missing later arrays others within differs s more w a in
            reading shelf old new missing later arrays others within differs s slot boot more v w r.base a same (r.each more v view) (leads slot boot given more w a);
      };
  agree = λ slot slot2 boot boot2 g g2.
      let given = given_before shelf old new missing later arrays others within differs s slot boot g in
      let given2 = given_before shelf old new missing later arrays others within differs s slot2 boot2 g2 in
      let both = s.agree slot slot2 boot boot2 given given2 in
      record { in_order = both.in_order; same_base = both.same_base; no_log = λ less. no_log slot slot2 boot boot2 given given2 less };
}
