-- A store loses no array at any of its moments.
use Rattle.array_spec.proofs.Prelude.{◌<◌, ◌≡◌, ℕ, ◌/◌, ◌≤◌, List, length, refl, sym, ap, subst, arith, inl, inr, ◌∙◌, true, Option, ◌⊎◌, slice_index, Geometry, drive, Image, View, Conditions, MayShowAs, IsWithin, Array, Device, Drive, Nv, Place, names, BootSlot, of_members, body_in, BootRecord, shows_move, Matches, AllMatch, before, reading_moves, same_nvram, within_twice, used_is_data, is_used, DiffersOnlyIn, IsOldOrNew, StoreKeeps, BootKeeps, Stands, IsViewOf, MayBeGiven, IsReadBy, IsReadInto, FollowsOn, all_facts}

module _ (shelf : Geometry) (old new : Image) (missing later : Conditions) (arrays : List Array)
    (within : IsWithin missing later) (only_boot : DiffersOnlyIn (λ drive unit. unit < 3) old new) (s : Stands shelf old missing arrays) where
  long : (device : Device) → length (old device) ≡ length (new device)
  long (Drive d) = sym (only_boot.size d.0)
  long (Nv n) = ap length (sym (only_boot.nvram n.0))

  -- the view that the old image would have shown
  strict : (more : Conditions) (w : View) → IsViewOf shelf new later more w → (v : View) × IsViewOf shelf old missing more v × AllMatch old new v w
  unfolding AllMatch Matches
  strict more w a =
      let back : (device : Device) → (x : Option (List ℕ)) × MayShowAs (more device) (old device) x × Matches (old device) (new device) x (w device) =
      λ device. before (more device) (old device) (new device) (w device) (long device) (a.shown device) in (
        λ device. (back device).0,
        record { within = within_twice missing later more within a.within; bearable = a.bearable; shown = λ device. (back device).1 },
        λ device. (back device).2,
      )

  Bodies : BootSlot → Type 0
  Bodies t = (i : ℕ) → body_in t (new (drive i)) ≡ body_in t (old (drive i))

  units : (t : BootSlot) (boot : BootRecord) (more : Conditions) (v : View) (base : Array) → MayBeGiven shelf old missing t boot
      → (read : IsReadBy shelf more (of_members t boot v) t boot base arrays)
      → (p : Place) → is_used boot (all_facts read.holds.patches) p.slot p.unit ≡ true → names boot (drive p.slot) ≡ true → (at : ℕ) → at / 65536 ≡ p.unit
      → slice_index (old (drive p.slot)) at ≡ slice_index (new (drive p.slot)) at
  units t boot more v base given read p used named at in_it = elim (only_boot.drive p.slot at) [
    | inl e ↦ sym e
    | inr low ↦
        let high : 3 ≤ p.unit = used_is_data shelf boot (all_facts read.holds.patches) p.slot p.unit given.lawful read.holds.tables.sound.segments used in
        absurd (omega (arith, low, high, in_it))
  ]

  -- a record that might have been given is read as it was
  read_before : (t : BootSlot) (boot : BootRecord) → MayBeGiven shelf old missing t boot → Bodies t → IsReadInto shelf new later t boot arrays
  unfolding Bodies
  read_before t boot given bodies = record {
    base = (s.reads t boot given).base;
    each = λ more w a.
        let (v, view, match) = strict more w a in
        let read = (s.reads t boot given).each more v view in
        reading_moves shelf old new t boot long only_boot.nvram bodies more v w (s.reads t boot given).base arrays match read
        (units t boot more v (s.reads t boot given).base given read);
  }

  agreed_before : (t t2 : BootSlot) (boot boot2 : BootRecord) (given : MayBeGiven shelf old missing t boot) (given2 : MayBeGiven shelf old missing t2 boot2) → Bodies t
      → FollowsOn shelf new later t boot boot2 (s.reads t boot given).base (s.reads t2 boot2 given2).base
  unfolding Bodies
  agreed_before t t2 boot boot2 given given2 bodies =
      let both = s.agree t t2 boot boot2 given given2 in
      record {
        in_order = both.in_order;
        same_base = both.same_base;
        no_log = λ less more w a nvram_same i c shown.
            let (v, view, match) = strict more w a in
            both.no_log less more v view nvram_same i c
            (shows_move (of_members t boot w) (of_members t boot v) (λ j. sym (same_nvram shelf old new t boot long only_boot.nvram bodies v w match j)) nvram_same boot.flushed i c shown);
      }

pub boot_keeps : BootKeeps
unfolding Bodies read_before
boot_keeps shelf old new missing later arrays within bearable only_boot gives given s = record {
  bearable = bearable;
  some = s.some;
  gives = gives;
  reads = λ t boot g. read_before shelf old new missing later arrays within only_boot s t boot (given t boot g).0 (given t boot g).1;
  agree = λ t t2 boot boot2 g g2. agreed_before shelf old new missing later arrays within only_boot s t t2 boot boot2 (given t boot g).0 (given t2 boot2 g2).0 (given t boot g).1;
}

module _ (shelf : Geometry) (old new : Image) (missing later : Conditions) (slot : BootSlot) (stored : BootRecord) (arrays : List Array)
    (o : IsOldOrNew shelf old new missing later slot stored) (s : Stands shelf old missing arrays) (r : IsReadInto shelf new later slot stored arrays) where
  OldOrNew : BootSlot → BootRecord → Type 0
  OldOrNew t boot = ((t ≡ slot) × (boot ≡ stored)) ⊎ (MayBeGiven shelf old missing t boot × ((i : ℕ) → body_in t (new (drive i)) ≡ body_in t (old (drive i))))

  reading : (t : BootSlot) (boot : BootRecord) → OldOrNew t boot → IsReadInto shelf new later t boot arrays
  unfolding OldOrNew Bodies
  reading t boot (inl (e, f)) = record {
    base = r.base;
    each = λ more w a. subst (λ b. IsReadBy shelf more (of_members t b w) t b r.base arrays) (sym f)
        (subst (λ x. IsReadBy shelf more (of_members x stored w) x stored r.base arrays) (sym e) (r.each more w a));
  }
  reading t boot (inr (given, bodies)) = read_before shelf old new missing later arrays o.within o.only_boot s t boot given bodies

  Follows : Type 0
  Follows = (slot2 : BootSlot) (boot : BootRecord) (g : MayBeGiven shelf old missing slot2 boot)
      → FollowsOn shelf new later slot stored boot r.base (s.reads slot2 boot g).base × FollowsOn shelf new later slot2 boot stored (s.reads slot2 boot g).base r.base

  agreed : (t t2 : BootSlot) (boot boot2 : BootRecord) (x : OldOrNew t boot) (x2 : OldOrNew t2 boot2) → Follows
      → FollowsOn shelf new later t boot boot2 (reading t boot x).base (reading t2 boot2 x2).base
  unfolding OldOrNew Bodies Follows reading read_before
  agreed t t2 boot boot2 (inl (e, f)) (inl (e2, f2)) follows =
      let k : boot.flushed ≡ boot2.flushed = ap (λ b. b.flushed) f ∙ sym (ap (λ b. b.flushed) f2) in
      record { in_order = λ later. omega (arith, k); same_base = λ same. refl; no_log = λ less. absurd (omega (arith, less, k)) }
  agreed t t2 boot boot2 (inl (e, f)) (inr (given2, bodies2)) follows =
      subst (λ b. FollowsOn shelf new later t b boot2 r.base (s.reads t2 boot2 given2).base) (sym f)
      (subst (λ x. FollowsOn shelf new later x stored boot2 r.base (s.reads t2 boot2 given2).base) (sym e) (follows t2 boot2 given2).0)
  agreed t t2 boot boot2 (inr (given, bodies)) (inl (e2, f2)) follows =
      subst (λ b. FollowsOn shelf new later t boot b (s.reads t boot given).base r.base) (sym f2) (follows t boot given).1
  agreed t t2 boot boot2 (inr (given, bodies)) (inr (given2, bodies2)) follows =
      agreed_before shelf old new missing later arrays o.within o.only_boot s t t2 boot boot2 given given2 bodies

  kept : Follows → Stands shelf new later arrays
  unfolding OldOrNew
  kept follows = record {
    bearable = o.bearable;
    some = s.some;
    gives = o.gives;
    reads = λ t boot g. reading t boot (o.old_or_new t boot g);
    agree = λ t t2 boot boot2 g g2. agreed t t2 boot boot2 (o.old_or_new t boot g) (o.old_or_new t2 boot2 g2) follows;
  }

pub store_keeps : StoreKeeps
unfolding Follows
store_keeps shelf old new missing later slot stored arrays o s r follows = kept shelf old new missing later slot stored arrays o s r follows
