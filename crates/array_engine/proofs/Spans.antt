-- Sectors of the array's segments: where they may be read, what is shown of them, and why they can't be had.
use Rattle.array_engine.proofs.Prelude.{◌≡◌, inl, inr, ℕ, ◌<◌, ◌≤◌, List, Some, refl, ◌∙◌, subst, arith, Bool, true, false, not, Contains, cases_Bool, names, Device, SegmentFact, drive, Facts, segment_key, never, key_of, is_elided, segment, says_is, PatchSegment, all_facts, Rises, geometry_of, has_risen, Shelved, facts, all_segments, each_by_recursion, Point, IsGone, patches_at, not_risen, IsMember, is_in, Register, IsRegisterOf, drives_of, cut_in, in_cut, Array, drives_view, IsArrayOf, IsHolder, AreReadable, ShowsDrives, IsLost, LosesThree, failed_in}
use Rattle.pur_base.specs.declared.request.Table.TheVariants as table
use Rattle.pur_base.specs.declared.facts.AnyFact.TheVariants as any
use Rattle.patch_io.proofs.Parts.{segment_places}
use Rattle.session_spec.specs.Faring as faring

-- ---- where they may be read

segment_in : (f : Facts) (id : ℕ) (d : SegmentFact) → segment f id ≡ Some d → Contains f.segments d
segment_in f id d e = (says_is segment_key (λ g. g.seq.0) never (λ g. Contains f.segments g) f.segments (is_elided f.elisions table.Segment) (key_of id 0) d
    (each_by_recursion (λ g. Contains f.segments g) f.segments (λ g c. c)) e).0

pub readable : (shelf : Shelved) (a : Array) → IsArrayOf (geometry_of shelf) a → AreReadable shelf (facts a.memory.memory.tables)
readable shelf a is id d there =
    let p = is.segments.places id d there in
    let s : PatchSegment = record { id = 0; places = d.places } in
    let fits = is.sound.fit (any.Segment d) (all_segments (facts a.memory.memory.tables) d (segment_in (facts a.memory.memory.tables) id d there)) in
    (segment_places shelf s (record { id = omega arith; nine = p.nine; places = p.ascending }), fits.lawful.statement.1)

-- ---- which drives are missing

-- of each slot: the record isn't in force on its drive
abbrev pub AreMissing : Register → List Bool → Type 0
AreMissing r missing = (slot : ℕ) → slot < 24 → is_in missing slot ≡ not (is_in r.drives slot)

module _ (shelf : Shelved) (r : Register) (missing : List Bool) (is : IsRegisterOf (geometry_of shelf) r) (are : AreMissing r missing) where
  few_slots : shelf.drives ≤ 24
  few_slots = omega (arith, is.lawful.slots, is.lawful.lawful.slots.1)

  there_or : (b c : Bool) → c ≡ not b → c ≡ false → b ≡ true
  there_or true c e f = refl
  there_or false c e f = absurd (cc (e, f))

  is_there : (slot : ℕ) → slot < shelf.drives → is_in missing slot ≡ false → IsMember (drives_of r) slot
  is_there slot lt none = cut_in r.drives r.record.slots slot (omega (arith, lt, is.lawful.slots)) (there_or (is_in r.drives slot) (is_in missing slot) (are slot (omega (arith, lt, few_slots))) none)

  pub shows : ShowsDrives shelf missing (drives_view shelf r)
  shows slot lt none = rw (is_there slot lt none) refl

  isn't_there : (b c : Bool) → c ≡ not b → c ≡ true → b ≡ true → ⊥
  isn't_there true c e f g = cc (e, f)
  isn't_there false c e f g = cc g

  -- ---- why they can't be had

  module _ (new : Shelved) (from : Point) (a : Array) (same : a.register ≡ r) (shown : (id : ℕ) → segment (all_facts (patches_at from)) id ≡ segment (facts a.memory.memory.tables) id) (holders : (d : Device) → names from.boot d ≡ true → IsHolder a d) where
    rises : (i : ℕ) → Rises (shelf.disk (drive i)).faults (new.disk (drive i)).faults → failed_in shelf new (drive i) ≡ true
    rises i rose = elim (cases_Bool (has_risen (shelf.disk (drive i)).faults (new.disk (drive i)).faults)) [
      | inl risen ↦ risen
      | inr not ↦ absurd (not_risen (shelf.disk (drive i)).faults (new.disk (drive i)).faults not rose)
    ]

    gone : (i : ℕ) → i < shelf.drives → IsLost shelf new missing i → IsGone (failed_in shelf new) from i
    gone i lt (inl is_missing) = elim (cases_Bool (names from.boot (drive i))) [
      | inl named ↦ absurd (isn't_there (is_in r.drives i) (is_in missing i) (are i (omega (arith, lt, few_slots))) is_missing
          (in_cut r.drives r.record.slots i (subst (λ (x : Register). IsMember (drives_of x) i) same (holders (drive i) named))))
      | inr unnamed ↦ inl unnamed
    ]
    gone i lt (inr rose) = inr (rises i rose)

    pub loses_three : LosesThree shelf new (facts a.memory.memory.tables) missing → faring.LosesThree (geometry_of shelf) (failed_in shelf new) from
    loses_three l = record {
      id = l.id;
      which = l.which;
      there = shown l.id ∙ l.there;
      first = l.first;
      second = l.second;
      third = l.third;
      hold = l.hold;
      in_order = l.in_order;
      are = (gone l.first.slot (omega (arith, l.in_order.0, l.in_order.1, l.in_order.2)) l.are.0, gone l.second.slot (omega (arith, l.in_order.1, l.in_order.2)) l.are.1, gone l.third.slot l.in_order.2 l.are.2);
    }
