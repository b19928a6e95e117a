-- What the plain array accepts is allowed in the memory that reads as it.
use Rattle.command_spec.proofs.Prelude.{nat_tests, ◌≡◌, ◌≢◌, ℕ, zero, suc, ◌+◌, ◌^◌, ◌<◌, ◌≤◌, Bool, true, false, not, List, [], ◌∷◌, length, refl, sym, ap, ◌∙◌, arith, ne_eqb, All, Contains, None, ◌||◌, ◌==◌, nat_lt, leb-false, ltb-false, le-ltb, eq-eqb, lt-leb, false_from_ne_true, All-contains, Accepts, Array, has, is_name, is_full, is_no_size, passes, first_cause, overwrite_causes, OBJECTS, REQUEST_SECTORS, Taken, Limit, Unknown, ReadOnly, Range, Refusal, Request, ObjectKind, Snapshot, all_contained, Contents, ReadsAs, AreEntries, IsEntry, facts, entries_read, of_objects, derive_causes, is_snapshot as is_snapshot_kind, object_fits, command_of, HasCopy, HasObject, HasSpan, IsAllowed, IsDerivable, IsFree, Kept, IsKept}
use Rattle.memory_spec.specs.Prelude.{sectors_of, is_snapshot, objects, OBJECT_SECTORS, Volume, ObjectFact}
use Rattle.pur_base.specs.declared.request.Request.TheVariants as request
use Rattle.command_spec.specs.Lawful.{IsLawful}
use Rattle.command_spec.proofs.KeptLemmas.{visible_are, visible_said}

-- why what has one name isn't refused: a span, or a derivation
no_cause : (x y z : Refusal) (b c d : Bool) → first_cause ((not b, x) ∷ (c, y) ∷ (d, z) ∷ []) ≡ None → (b ≡ true) × (c ≡ false) × (d ≡ false)
no_cause x y z false c d e = cc
no_cause x y z true true d e = cc
no_cause x y z true false true e = cc
no_cause x y z true false false e = (refl, refl, refl)

-- why a copy isn't
no_cause_copy : (a b c d f : Bool) → first_cause ((not a || not b, Unknown) ∷ (c, ReadOnly) ∷ (d || f, Range) ∷ []) ≡ None → (a ≡ true) × (b ≡ true) × (c ≡ false) × (d ≡ false) × (f ≡ false)
no_cause_copy false b c d f e = cc
no_cause_copy true false c d f e = cc
no_cause_copy true true true d f e = cc
no_cause_copy true true false true f e = cc
no_cause_copy true true false false true e = cc
no_cause_copy true true false false false e = (refl, refl, refl, refl, refl)

-- why a removal isn't
no_cause_known : (b : Bool) → first_cause ((not b, Unknown) ∷ []) ≡ None → b ≡ true
no_cause_known false e = cc
no_cause_known true e = refl

-- why a creation isn't
no_cause_new : (b c d f : Bool) → first_cause ((b, Taken) ∷ ((c || d) || f, Limit) ∷ []) ≡ None → (b ≡ false) × (c ≡ false) × (d ≡ false) × (f ≡ false)
no_cause_new true c d f e = cc
no_cause_new false true d f e = cc
no_cause_new false false true f e = cc
no_cause_new false false false true e = cc
no_cause_new false false false false e = (refl, refl, refl, refl)

a_volume : (kind : ObjectKind) → is_snapshot_kind kind ≡ false → kind ≡ Volume
a_volume Volume e = refl
a_volume Snapshot e = cc

not_zero : (n : ℕ) → (n == 0) ≡ false → 1 ≤ n
not_zero zero e = absurd (let is : (0 == 0) ≡ true = eq-eqb 0 0 refl in cc)
not_zero (suc n) e = omega arith

-- causes none of which holds
none_holds : (x y z : Refusal) (b c d : Bool) → b ≡ true → c ≡ false → d ≡ false → first_cause ((not b, x) ∷ (c, y) ∷ (d, z) ∷ []) ≡ None
none_holds x y z b c d e f g = rw (e, f, g) refl

no_copy : (a b c d f : Bool) → a ≡ true → b ≡ true → c ≡ false → d ≡ false → f ≡ false → first_cause ((not a || not b, Unknown) ∷ (c, ReadOnly) ∷ (d || f, Range) ∷ []) ≡ None
no_copy a b c d f e g h i j = rw (e, g, h, i, j) refl

no_removal : (b : Bool) → b ≡ true → first_cause ((not b, Unknown) ∷ []) ≡ None
no_removal b e = rw e refl

no_creation : (b c d f : Bool) → b ≡ false → c ≡ false → d ≡ false → f ≡ false → first_cause ((b, Taken) ∷ ((c || d) || f, Limit) ∷ []) ≡ None
no_creation b c d f e g h i = rw (e, g, h, i) refl

not_none : (n : ℕ) → 1 ≤ n → (n == 0) ≡ false
not_none n some = ne_eqb n 0 (λ e. omega (arith, some, e))

of_a_volume : (kind : ObjectKind) → kind ≡ Volume → is_snapshot_kind kind ≡ false
of_a_volume kind e = rw e refl

module _ (contents : Contents) (k : Kept) (array : Array) (h : IsKept k) (reads : ReadsAs contents k.memory array) where
  entries : AreEntries (objects (facts k.memory.tables) k.memory.next.object) array
  entries = entries_read contents k.memory array reads

  -- an object that the facts say is seen
  is_seen : (x : ObjectFact) → Contains (objects (facts k.memory.tables) k.memory.next.object) x → Contains k.objects x
  is_seen x c =
      let w = of_objects (facts k.memory.tables) k.memory.next.object x c in
      h.objects.all x (omega (arith, w.1, h.next.object.1)) w.0

  -- it is its name's entry
  as_entry : (x : ObjectFact) → Contains k.objects x → IsEntry array x
  as_entry x c = entries.each x (visible_said k h x c)

  named_there : (name : List ℕ) (x : ObjectFact) → Contains k.objects x → x.name ≡ name → has array name ≡ true
  named_there name x c named = ap (has array) (sym named) ∙ (as_entry x c).there

  named_kind : (name : List ℕ) (x : ObjectFact) → Contains k.objects x → x.name ≡ name → is_snapshot array name ≡ is_snapshot_kind x.kind
  named_kind name x c named = ap (is_snapshot array) (sym named) ∙ (as_entry x c).kind

  named_size : (name : List ℕ) (x : ObjectFact) → Contains k.objects x → x.name ≡ name → length (sectors_of array name) ≡ x.sectors
  named_size name x c named = ap (λ n. length (sectors_of array n)) (sym named) ∙ (as_entry x c).size

  -- a name that the array has is that of a visible object
  named : (name : List ℕ) → has array name ≡ true → HasObject k.objects name
  named name e = let x = entries.all name e in (x.0, is_seen x.0 x.1, x.2)

  -- and no visible object has one that it doesn't have
  unnamed : (name : List ℕ) → has array name ≡ false → All (λ (x : ObjectFact). x.name ≢ name) k.objects
  unnamed name e = all_contained (λ (x : ObjectFact). x.name ≢ name) k.objects (λ x c same. let taken = named_there name x c same in cc)

  as_many : length k.objects ≡ length array
  as_many = ap (λ (l : List ObjectFact). length l) (visible_are k h) ∙ entries.count

  not_full : is_full array ≡ false → length k.objects < OBJECTS
  not_full e = grind (arith, nat_tests, length, leb-false, as_many)

  -- a span that doesn't pass the end lies in the object
  in_size : (name : List ℕ) (x : ObjectFact) (lba count : ℕ) → Contains k.objects x → x.name ≡ name → passes array name lba count ≡ false → lba + count ≤ x.sectors
  in_size name x lba count c same e =
      let within : lba + count ≤ length (sectors_of array name) = ltb-false (length (sectors_of array name)) (lba + count) e in
      let size = named_size name x c same in
      omega (arith, within, size)

  volume_of : (name : List ℕ) (x : ObjectFact) → Contains k.objects x → x.name ≡ name → is_snapshot array name ≡ false → x.kind ≡ Volume
  volume_of name x c same e = a_volume x.kind (sym (named_kind name x c same) ∙ e)

  has_span : (name : List ℕ) (lba count : ℕ) → count ≤ REQUEST_SECTORS → first_cause (overwrite_causes array name lba count) ≡ None → HasSpan k.objects name lba count
  has_span name lba count few e =
      let w = no_cause Unknown ReadOnly Range (has array name) (is_snapshot array name) (passes array name lba count) e in
      let x = named name w.0 in
      record {
        volume = x.0;
        there = x.1;
        named = x.2;
        kind = volume_of name x.0 x.1 x.2 w.1;
        within = in_size name x.0 lba count x.1 x.2 w.2;
        few = few;
      }

  is_free : (name : List ℕ) (size : ℕ) (sectors : List (List ℕ)) → IsLawful (request.Create name size) → Accepts array (command_of (request.Create name size) sectors) → IsFree k.objects name size
  is_free name size sectors lawful e = grind (arith, nat_tests, no_cause_new, nat_lt, not_zero, ltb-false, unnamed, not_full)

  is_derivable : (name new : List ℕ) → is_name new ≡ true → first_cause (derive_causes array name new) ≡ None → IsDerivable k.objects name new
  is_derivable name new lawful e = grind (arith, nat_tests, no_cause, named, unnamed, not_full)

  -- no object has so many sectors that a count of them isn't one of 32 bits
  few_of : (x : ObjectFact) (to count : ℕ) → Contains k.objects x → to + count ≤ x.sectors → count < 2 ^ 32
  few_of x to count c within =
      let most : x.sectors ≤ OBJECT_SECTORS = (object_fits k.memory reads.sound x (visible_said k h x c)).1.lawful.statement.1 in
      omega (arith, most, within)

  has_copy : (name : List ℕ) (lba : ℕ) (other : List ℕ) (to count : ℕ) (sectors : List (List ℕ)) → IsLawful (request.Copy name lba other to count)
      → Accepts array (command_of (request.Copy name lba other to count) sectors) → HasCopy k.objects name lba other to count
  has_copy name lba other to count sectors some e =
      let w = no_cause_copy (has array name) (has array other) (is_snapshot array other) (passes array name lba count) (passes array other to count) e in
      let x = named name w.0 in
      let y = named other w.1 in
      let to_within = in_size other y.0 to count y.1 y.2 w.4 in
      record {
        source = x.0;
        source_there = x.1;
        source_named = x.2;
        target = y.0;
        target_there = y.1;
        target_named = y.2;
        kind = volume_of other y.0 y.1 y.2 w.2;
        some = some;
        few = few_of y.0 to count y.1 to_within;
        within = in_size name x.0 lba count x.1 x.2 w.3;
        to_within = to_within;
      }

  pub allowed : (r : Request) (sectors : List (List ℕ)) → IsLawful r → Accepts array (command_of r sectors) → IsAllowed k.objects r
  allowed (request.Create name size) sectors l e = is_free name size sectors l e
  allowed (request.Write name lba count) sectors l e = has_span name lba count l e
  allowed (request.Fill name lba count byte) sectors l e = has_span name lba count l e
  allowed (request.Zero name lba count) sectors l e = has_span name lba count l e
  allowed (request.Read name lba count) sectors l e = absurd l
  allowed (request.Snapshot name new) sectors l e = is_derivable name new l e
  allowed (request.Clone name new) sectors l e = is_derivable name new l e
  allowed (request.Copy name lba other to count) sectors l e = has_copy name lba other to count sectors l e
  allowed (request.Destroy name) sectors l e = named name (no_cause_known (has array name) e)
  allowed request.List sectors l e = absurd l
  allowed request.Status sectors l e = absurd l
  allowed request.Checkpoint sectors l e = absurd l
  allowed (request.Merge table index) sectors l e = absurd l
  allowed (request.Flatten name) sectors l e = absurd l
  allowed (request.Clean segment) sectors l e = absurd l
  allowed request.Reclaim sectors l e = absurd l
  allowed (request.Evict drive) sectors l e = absurd l
  allowed (request.Admit drive) sectors l e = absurd l
  allowed (request.Rebuild drive) sectors l e = absurd l
  allowed request.Takeover sectors l e = absurd l

  -- ---- what is allowed is accepted

  not_named : (name : List ℕ) → All (λ (x : ObjectFact). x.name ≢ name) k.objects → has array name ≡ false
  not_named name fresh =
      false_from_ne_true (has array name) (λ there. let x = named name there in All-contains (λ (y : ObjectFact). y.name ≢ name) k.objects x.0 fresh x.1 x.2)

  with_room : length k.objects < OBJECTS → is_full array ≡ false
  with_room few = let count = as_many in lt-leb OBJECTS (length array) (omega (arith, count, few))

  not_past : (name : List ℕ) (x : ObjectFact) (lba count : ℕ) → Contains k.objects x → x.name ≡ name → lba + count ≤ x.sectors → passes array name lba count ≡ false
  not_past name x lba count c same within =
      let size = named_size name x c same in
      le-ltb (length (sectors_of array name)) (lba + count) (omega (arith, within, size))

  not_snapshot : (name : List ℕ) (x : ObjectFact) → Contains k.objects x → x.name ≡ name → x.kind ≡ Volume → is_snapshot array name ≡ false
  not_snapshot name x c same kind = named_kind name x c same ∙ of_a_volume x.kind kind

  span_accepted : (name : List ℕ) (lba count : ℕ) → HasSpan k.objects name lba count → first_cause (overwrite_causes array name lba count) ≡ None
  span_accepted name lba count at =
      none_holds Unknown ReadOnly Range (has array name) (is_snapshot array name) (passes array name lba count)
      (named_there name at.volume at.there at.named)
      (not_snapshot name at.volume at.there at.named at.kind)
      (not_past name at.volume lba count at.there at.named at.within)

  creation_accepted : (name : List ℕ) (size : ℕ) → IsFree k.objects name size → first_cause ((has array name, Taken) ∷ (is_no_size size || is_full array, Limit) ∷ []) ≡ None
  creation_accepted name size free = grind (arith, nat_tests, no_creation, nat_lt, not_named, not_none, le-ltb, with_room)

  derivation_accepted : (name new : List ℕ) → IsDerivable k.objects name new → first_cause (derive_causes array name new) ≡ None
  derivation_accepted name new may =
      none_holds Unknown Taken Limit (has array name) (has array new) (is_full array)
      (named_there name may.source may.there may.named) (not_named new may.fresh) (with_room may.few)

  copy_accepted : (name : List ℕ) (lba : ℕ) (other : List ℕ) (to count : ℕ) (sectors : List (List ℕ)) → HasCopy k.objects name lba other to count
      → Accepts array (command_of (request.Copy name lba other to count) sectors)
  copy_accepted name lba other to count sectors may =
      no_copy (has array name) (has array other) (is_snapshot array other) (passes array name lba count) (passes array other to count)
      (named_there name may.source may.source_there may.source_named)
      (named_there other may.target may.target_there may.target_named)
      (not_snapshot other may.target may.target_there may.target_named may.kind)
      (not_past name may.source lba count may.source_there may.source_named may.within)
      (not_past other may.target to count may.target_there may.target_named may.to_within)

  pub accepted : (r : Request) (sectors : List (List ℕ)) → IsAllowed k.objects r → Accepts array (command_of r sectors)
  accepted (request.Create name size) sectors may = creation_accepted name size may
  accepted (request.Write name lba count) sectors may = span_accepted name lba count may
  accepted (request.Fill name lba count byte) sectors may = span_accepted name lba count may
  accepted (request.Zero name lba count) sectors may = span_accepted name lba count may
  accepted (request.Read name lba count) sectors may = absurd may
  accepted (request.Snapshot name new) sectors may = derivation_accepted name new may
  accepted (request.Clone name new) sectors may = derivation_accepted name new may
  accepted (request.Copy name lba other to count) sectors may = copy_accepted name lba other to count sectors may
  accepted (request.Destroy name) sectors may = no_removal (has array name) (named_there name may.0 may.1 may.2)
  accepted request.List sectors may = absurd may
  accepted request.Status sectors may = absurd may
  accepted request.Checkpoint sectors may = absurd may
  accepted (request.Merge table index) sectors may = absurd may
  accepted (request.Flatten name) sectors may = absurd may
  accepted (request.Clean segment) sectors may = absurd may
  accepted request.Reclaim sectors may = absurd may
  accepted (request.Evict drive) sectors may = absurd may
  accepted (request.Admit drive) sectors may = absurd may
  accepted (request.Rebuild drive) sectors may = absurd may
  accepted request.Takeover sectors may = absurd may
