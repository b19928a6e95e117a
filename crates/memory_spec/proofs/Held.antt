-- Tables that hold an array have one content of their segments, whichever two drives of the shelf are missing.
use Rattle.memory_spec.proofs.Prelude.{◌≡◌, ◌⊎◌, ℕ, List, refl, sym, ◌∙◌, inl, inr, Bool, true, false, Some, None, option_and_then, if◌then◌else◌, cases_Bool, bytes_eq-Decides, Geometry, Image, View, drive, Facts, segment, SegmentFact, BootRecord, BootSlot, body_in, names, with_body, spelling, stripe_of, SectorStands, ArePlaces, all_facts, places_keep, Keeps, AreSomeOf, AreEnough, Contents, ContentsStand, HeldTablesRead, showing}
use Rattle.std.specs.Str.{bytes_eq}
use Rattle.std.specs.Cmp.Lexicographic.{same_text}
use Rattle.memory_spec.proofs.Stored.{stored_tables_read}

-- ---- all drives that show the record

shown_whole : (slot : BootSlot) (boot : BootRecord) (named : Bool) (bytes : List ℕ)
    → ((if named then option_and_then (with_body slot (spelling boot)) (Some bytes) else None) ≡ None)
    ⊎ ((named ≡ true) × (body_in slot bytes ≡ spelling boot) × ((if named then option_and_then (with_body slot (spelling boot)) (Some bytes) else None) ≡ Some bytes))
shown_whole slot boot false bytes = inl refl
shown_whole slot boot true bytes = elim (cases_Bool (bytes_eq (body_in slot bytes) (spelling boot))) [
  | inr differs ↦ inl (rw differs refl)
  | inl same ↦ inr (refl, same_text (body_in slot bytes) (spelling boot) (sym same), rw same refl)
]

-- they are some of those that show it,
are_some : (slot : BootSlot) (boot : BootRecord) (image : Image) → AreSomeOf slot boot image (showing slot boot image)
are_some slot boot image i = shown_whole slot boot (names boot (drive i)) (image (drive i))

-- and show what any of those do
shows_each : (slot : BootSlot) (boot : BootRecord) (image : Image) (members : View) → AreSomeOf slot boot image members
    → (i : ℕ) → (members (drive i) ≡ showing slot boot image (drive i)) ⊎ (members (drive i) ≡ None)
shows_each slot boot image members some i = elim (some i) [
  | inl none ↦ inr none
  | inr is ↦ (let body : bytes_eq (body_in slot (image (drive i))) (spelling boot) ≡ true = (bytes_eq-Decides _ _).1 is.1 in inl (is.2 ∙ sym (rw (is.0, body) refl)))
]

-- ---- the contents stand on fewer drives too

sector_keeps : (more fewer : View) (d : SegmentFact) (index : ℕ) (sector : List ℕ) → Keeps more fewer d.places → SectorStands more d.places index sector → SectorStands fewer d.places index sector
unfolding Keeps
sector_keeps more fewer d index sector keeps (shards, stands, is) = (shards, keeps (stripe_of index) shards stands, is)

still_stand : (shelf : Geometry) (more fewer : View) (contents : Contents) (facts : Facts) → ((i : ℕ) → (fewer (drive i) ≡ more (drive i)) ⊎ (fewer (drive i) ≡ None)) → AreEnough shelf fewer
    → ((id : ℕ) (d : SegmentFact) → segment facts id ≡ Some d → ArePlaces shelf d.places) → ContentsStand contents more facts → ContentsStand contents fewer facts
still_stand shelf more fewer contents facts less enough places stand id index d e below =
    sector_keeps more fewer d index (contents id index) (places_keep shelf more fewer less enough d.places (places id d e)) (stand id index d e below)

pub held_tables_read : HeldTablesRead
held_tables_read shelf image slot boot patches base tables enough =
    let whole = tables.each (showing slot boot image) (are_some slot boot image) enough in
    let read = stored_tables_read shelf (showing slot boot image) boot patches base whole.0 whole.1 in
    (read.0, λ members some are_enough. still_stand shelf (showing slot boot image) members read.0 (all_facts patches) (shows_each slot boot image members some) are_enough whole.0.sound.segments.places read.1, read.2)
