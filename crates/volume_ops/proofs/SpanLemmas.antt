-- The sectors of targets.
use Rattle.std.proofs.Common.{◌≡◌, ℕ, zero, suc, ◌+◌, ◌<◌, ◌≤◌, List, [], ◌∷◌, length, refl, sym, arith, inl, inr, subst, get_or, drop, All, Contains, Option, Some, None, option_map, slice_get, slice_index_or, drop-cons}
use Rattle.std.specs.List.{AllZip}
use Rattle.std.proofs.lemmas.Option.{slice_get-get_or}
use Rattle.std.proofs.lemmas.List.Elements.{All-nil, All-cons}
use Rattle.memory_spec.specs.Prelude.{Array, sectors_of, span, filled, address_key, never, key_of, says, address, is_elided, Reads, below, unwritten, OBJECT_SECTORS, Location, Target, Stored, Zero, ObjectFact, AddressFact, says_is, facts, Memory, Contents, PlaceReads, TargetReads, FitsTarget, IsSound, ReadsAs, all_addresses, each_by_recursion, entries_read, sectors_read}
use Rattle.pur_base.specs.Mediums.{here}
use Rattle.pur_base.specs.declared.request.Table.TheVariants as table
use Rattle.pur_base.specs.declared.facts.AnyFact.TheVariants as any
use Rattle.memory_spec.proofs.Putting.{within_size}
use Rattle.array_memory.specs.Prelude.{Kept, IsKept}
use Rattle.command_spec.proofs.KeptLemmas.{visible_said}
use Rattle.volume_ops.specs.Targets.{IsInSegment, Stands}

-- ---- an address of a sound memory names what stands

module _ (m : Memory) (s : IsSound m) where
  abbrev fact_at : ℕ → Option AddressFact
  fact_at k = says address_key (λ g. g.seq.0) never (facts m.tables).addresses (is_elided (facts m.tables).elisions table.Address) k

  target_fits : (medium x : ℕ) (t : Target) → address (facts m.tables) medium x ≡ Some t → FitsTarget (length m.staged) t
  target_fits medium x t e = one (fact_at (key_of medium x)) refl e
    where
      one : (o : Option AddressFact) → fact_at (key_of medium x) ≡ o → option_map (λ (h : AddressFact). h.target) o ≡ Some t → FitsTarget (length m.staged) t
      one None is said = cc
      one (Some g) is said =
          let w = says_is address_key (λ h. h.seq.0) never (λ h. Contains (facts m.tables).addresses h) (facts m.tables).addresses (is_elided (facts m.tables).elisions table.Address) (key_of medium x) g
          (each_by_recursion (λ h. Contains (facts m.tables).addresses h) (facts m.tables).addresses (λ h c. c)) is in
          let same : g.target ≡ t = cc in
          subst (λ z. FitsTarget (length m.staged) z) same (s.fit (any.Address g) (all_addresses (facts m.tables) g w.0)).3

  stands_at : (medium x : ℕ) (t : Target) → address (facts m.tables) medium x ≡ Some t → Stands m t
  stands_at medium x Zero e = tt
  stands_at medium x (Stored at) e = elim (target_fits medium x (Stored at) e) [
    | inl staged ↦ inl staged
    | inr placed ↦ elim (s.addresses.there medium x at e) [
      | inl staged ↦ inl staged
      | inr there ↦ inr (record { given = placed.0; which = there.0; there = there.1; placed = there.2 })
    ]
  ]

  pub stands : {medium x : ℕ} {t : Target} → Reads (facts m.tables) medium x t → Stands m t
  stands {medium = medium} {x = x} {t = t} (here e) = stands_at medium x t e
  stands (below r e over rest) = stands rest
  stands (unwritten e none) = tt

pub all_stand : (m : Memory) → IsSound m → (medium lba : ℕ) (ts : List Target) → ((i : ℕ) → i < length ts → Reads (facts m.tables) medium (lba + i) (slice_index_or ts i Zero)) → All (Stands m) ts
all_stand m s medium lba [] h = All-nil (Stands m)
all_stand m s medium lba (t ∷ ts) h = All-cons (Stands m) t ts (stands m s (h 0 (omega arith)))
    (all_stand m s medium (lba + 1) ts (λ i l. let e : lba + suc i ≡ (lba + 1) + i = omega arith in subst (λ n. Reads (facts m.tables) medium n (slice_index_or ts i Zero)) e (h (suc i) (omega (arith, l)))))

-- ---- what stands has a sector

segment_reads : (contents : Contents) (staged : List (List ℕ)) (n index : ℕ) → 1 ≤ n → PlaceReads contents staged n index (contents n index)
segment_reads contents staged zero index l = absurd (omega (arith, l))
segment_reads contents staged (suc n) index l = refl

pub in_segment_reads : (contents : Contents) (m : Memory) (at : Location) → IsInSegment m at → TargetReads contents m.staged (Stored at) (contents at.segment.0 at.index)
in_segment_reads contents m at h = segment_reads contents m.staged at.segment.0 at.index h.given

pub staged_reads : (contents : Contents) (staged : List (List ℕ)) (at : Location) (sector : List ℕ) → at.segment.0 ≡ 0 → slice_get staged at.index ≡ Some sector → TargetReads contents staged (Stored at) sector
staged_reads contents staged at sector e is = subst (λ n. PlaceReads contents staged n at.index sector) (sym e) is

has_sector : (contents : Contents) (m : Memory) (t : Target) → Stands m t → (sector : List ℕ) × TargetReads contents m.staged t sector
has_sector contents m Zero h = (filled 0, refl)
has_sector contents m (Stored at) (inl h) = (get_or m.staged at.index [], staged_reads contents m.staged at (get_or m.staged at.index []) h.0 (slice_get-get_or m.staged at.index [] h.1))
has_sector contents m (Stored at) (inr h) = (contents at.segment.0 at.index, in_segment_reads contents m at h)

-- ---- the sectors of a span

zip_span : (P : Target → List ℕ → Type 0) (sectors : List (List ℕ)) (lba : ℕ) (ts : List Target) → lba + length ts ≤ length sectors
    → ((i : ℕ) → i < length ts → P (slice_index_or ts i Zero) (slice_index_or sectors (lba + i) [])) → AllZip P ts (span lba (length ts) sectors)
zip_span P sectors lba [] l h = tt
zip_span P sectors lba (t ∷ ts) l h =
    let front : drop lba sectors ≡ get_or sectors lba [] ∷ drop (suc lba) sectors = drop-cons sectors lba [] (omega (arith, l)) in
    let at : lba + 0 ≡ lba = omega arith in
    rw front (
      subst (λ n. P t (slice_index_or sectors n [])) at (h 0 (omega arith)),
      zip_span P sectors (suc lba) ts (omega (arith, l)) (λ i low.
          let e : lba + suc i ≡ suc lba + i = omega arith in
          subst (λ n. P (slice_index_or ts i Zero) (slice_index_or sectors n [])) e (h (suc i) (omega (arith, low)))),
    )

pub span_reads : (k : Kept) (x : ObjectFact) (lba : ℕ) (ts : List Target) → IsKept k → Contains k.objects x → lba + length ts ≤ x.sectors → All (Stands k.memory) ts
    → ((i : ℕ) → i < length ts → Reads (facts k.memory.tables) x.medium.0 (lba + i) (slice_index_or ts i Zero))
    → (contents : Contents) (array : Array) → ReadsAs contents k.memory array → AllZip (TargetReads contents k.memory.staged) ts (span lba (length ts) (sectors_of array x.name))
span_reads k x lba ts kept c fits stand reads contents array r =
    let there = visible_said k kept x c in
    let size = ((entries_read contents k.memory array r).each x there).size in
    zip_span (TargetReads contents k.memory.staged) (sectors_of array x.name) lba ts (omega (arith, fits, size)) (λ i l.
    let w = has_sector contents k.memory (slice_index_or ts i Zero) (stand i Zero l) in
    subst (λ z. TargetReads contents k.memory.staged (slice_index_or ts i Zero) z)
    (sectors_read contents k.memory array x (lba + i) (slice_index_or ts i Zero) w.0 r there (omega (arith, l, fits)) (reads i l) w.1) w.1)

-- the sectors of an object are within the greatest size
pub small_object : (k : Kept) (x : ObjectFact) → IsKept k → IsSound k.memory → Contains k.objects x → x.sectors ≤ OBJECT_SECTORS
small_object k x kept s c = (within_size k.memory s).objects x (visible_said k kept x c)
