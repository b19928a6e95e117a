-- The facts of one segment, read as a run of sectors.
use Rattle.patch_io.proofs.Prelude.{◌≡◌, ℕ, ◌+◌, ◌*◌, ◌/◌, ◌%◌, ◌<◌, ◌≤◌, Bool, List, length, refl, sym, subst, ◌∙◌, ap, arith, slice_get_within, bytes_at, View, Place, AnyFact, Decodes, IsFact, SectorStands, StripesStand, sector_in, pages, IsShownAt, Shelved, ShowsPresent, ShowsNoOther, fact_text, Spell, Extends, SpellsNone, AreShownIn, StandIn, ReadsPart, IsPartFault, PatchFault, Bad, Lost, Memory}
use Rattle.segment_io.proofs.Tried.{part_of_part}
use Rattle.patch_io.proofs.Lists.{whole_of, all_from}
use Rattle.patch_io.proofs.Spelling.{begins_as}

-- a fact's bytes are a part of its sector
pub in_sector : (bytes : List ℕ) (k : ℕ) → fact_text bytes k ≡ fact_text (bytes_at (512 * (k / 8)) 512 bytes) (k % 8)
in_sector bytes k =
    ap (λ (at : ℕ). bytes_at at 64 bytes) (let e : 64 * k ≡ 512 * (k / 8) + 64 * (k % 8) = omega arith in e)
    ∙ part_of_part (512 * (k / 8)) 512 (64 * (k % 8)) 64 bytes (omega arith)

-- a run of sectors from the first one on is what stands in the segment by its present drives
abbrev pub IsRead : Shelved → List Place → List Bool → ℕ → List ℕ → Type 0
IsRead shelf places missing size bytes = (view : View) (j : ℕ) (sector : List ℕ) → 512 * j + 512 ≤ size → ShowsPresent shelf places missing view → SectorStands view places (0 + j) sector → bytes_at (512 * j) 512 bytes ≡ sector

-- and what its own drive shows of each that answered
abbrev pub IsShown : Shelved → Shelved → List Place → List Bool → ℕ → List ℕ → Type 0
IsShown old new places missing size bytes = (view : View) (j : ℕ) → 512 * j + 512 ≤ size → ShowsNoOther old new places missing view → IsShownAt view places (0 + j) (bytes_at (512 * j) 512 bytes)

module _ (a b : Shelved) (places : List Place) (missing : List Bool) (tag count size : ℕ) (bytes : List ℕ) (old : List AnyFact) (sizes : size ≡ 512 * pages count) (read : a.honest → IsRead a places missing size bytes) where
  -- the sector of a fact was read
  sector_read : a.honest → (view : View) (k : ℕ) (sector : List ℕ) → k < count → ShowsPresent a places missing view → SectorStands view places (k / 8) sector → bytes_at (512 * (k / 8)) 512 bytes ≡ sector
  sector_read h view k sector lt shows stands =
      read h view (k / 8) sector (omega (arith, lt, sizes)) shows (subst (λ (i : ℕ). SectorStands view places i sector) (let e : k / 8 ≡ 0 + k / 8 = omega arith in e) stands)

  -- what stands there was read
  spelled : a.honest → (view : View) (facts : List AnyFact) → ShowsPresent a places missing view → length facts ≡ count → StandIn view places facts → Spell bytes facts
  spelled h view facts shows long stand k f at =
      let x = stand k f at in
      let same = sector_read h view k x.0 (omega (arith, slice_get_within facts k f at, long)) shows x.1 in
      subst (λ (t : List ℕ). Decodes t f) (sym (in_sector bytes k ∙ ap (λ (s : List ℕ). fact_text s (k % 8)) same)) x.2

  -- what was read stands there
  standing : a.honest → (view : View) (facts : List AnyFact) → ShowsPresent a places missing view → length facts ≡ count → StripesStand view places (pages count) → Spell bytes facts → StandIn view places facts
  standing h view facts shows long stripes spell k f at =
      let lt : k < count = omega (arith, slice_get_within facts k f at, long) in
      let stripe = stripes (k / 8 / 56) (omega (arith, lt)) in
      let sector = sector_in stripe.0 (k / 8) in
      let there : SectorStands view places (k / 8) sector = (stripe.0, stripe.1, refl) in
      let same = sector_read h view k sector lt shows there in
      (sector, there, subst (λ (t : List ℕ). Decodes t f) (in_sector bytes k ∙ ap (λ (s : List ℕ). fact_text s (k % 8)) same) (spell k f at))

  -- what was read is shown there
  showing : (view : View) (facts : List AnyFact) → ((j : ℕ) → 512 * j + 512 ≤ size → IsShownAt view places (0 + j) (bytes_at (512 * j) 512 bytes)) → length facts ≡ count → Spell bytes facts → AreShownIn view places facts
  showing view facts shown long spell k f at =
      let sector = bytes_at (512 * (k / 8)) 512 bytes in
      let lt : k < count = omega (arith, slice_get_within facts k f at, long) in (
        sector,
        subst (λ (i : ℕ). IsShownAt view places i sector) (let e : 0 + k / 8 ≡ k / 8 = omega arith in e) (shown (k / 8) (omega (arith, lt, sizes))),
        subst (λ (t : List ℕ). Decodes t f) (in_sector bytes k) (spell k f at),
      )

  pub reads_part : (a.honest → IsShown a b places missing size bytes) → (new : List AnyFact) → Extends tag bytes count old new → ReadsPart a b places missing tag count old new
  reads_part shown new extends = record {
    added = extends.added;
    behind = extends.behind;
    size = extends.size;
    each = all_from IsFact extends.added (λ k f at. (extends.spelled k f at).fact);
    in_order = extends.in_order;
    stand = λ h view shows stripes. standing h view extends.added shows extends.size stripes extends.spelled;
    no_other = λ h view others shows long stand.
        let more = begins_as bytes extends.added others extends.spelled (spelled h view others shows long stand) (omega (arith, long, extends.size)) in
        whole_of extends.added others more.0 more.1 (omega (arith, long, extends.size));
    shown = λ h view shows. showing view extends.added (λ j fits. shown h view j fits shows) extends.size extends.spelled;
  }

  pub part_fault : (fault : PatchFault) → SpellsNone tag bytes count old fault → IsPartFault a b places missing tag count old fault
  part_fault Bad none = λ h view added shows long stand order. none added long (spelled h view added shows long stand) order
  part_fault (Lost lost) none = absurd none
  part_fault (Memory m) none = tt
