-- Parts of some shards are read first, and where that fails the stripe.
use Rattle.segment_io.proofs.Prelude.{nat_tests, ◌≡◌, ◌≢◌, ◌⊎◌, inl, inr, ⊎_elim, ℕ, zero, suc, ◌+◌, ◌-◌, ◌<◌, ◌≤◌, Bool, true, false, List, [], ◌∷◌, length, map, take, drop, sym, ◌∙◌, ap, subst, arith, Option, Some, IfSome, slice_set, option_map, get_or-set_same, get_or-set_other, drop-drop, take-take, AllZip, cases_eq, cases_Bool, drop-take, bytes_at, View, Device, Place, Rises, Shelved, Disk, IsShelf, IsSame, Continues, OthersStay, shard_of, write_unit, StripeStands, ArePlaces, place_of, drive_of, write_unit_at, bytes_of, unit_in, is_unknown, PartRead, Tried, IsOn, AreLost, ShowsAnswering, is_missing_in, rises_first, rises_then}
use Rattle.segment_io.proofs.Progress.{apart}

pub tried_none : (a : Shelved) (places : List Place) (said : ℕ → Bool) (flags : List Bool) → ((k : ℕ) → k < 9 → is_unknown flags k ≡ said k) → Tried a a places said flags
tried_none a places said flags are = grind (arith, nat_tests)

-- one more part
pub tried_one : (a b c : Shelved) (places : List Place) (said : ℕ → Bool) (mid : List Bool) (shard : ℕ) (is honest : _) (bytes into : List ℕ) → ArePlaces a places → IsShelf c → Continues a b → Continues b c → shard < 9 → length mid ≡ 9
    → Tried a b places said mid → PartRead honest (is_unknown mid shard) is bytes into (b.disk (drive_of places shard)) (c.disk (drive_of places shard)) → OthersStay (drive_of places shard) b c
    → Tried a c places said (slice_set mid shard is)
tried_one a b c places said mid shard is honest bytes into are is_c ab bc within nine tried part others = record {
  cause = λ k lt so. elim (cases_eq k shard) [
    | inl e ↦ subst (λ (j : ℕ). (said j ≡ true) ⊎ Rises (a.disk (drive_of places j)).faults (c.disk (drive_of places j)).faults) (sym e) (cause_here (sym here ∙ sym (ap (is_unknown (slice_set mid shard is)) e) ∙ so))
    | inr ne ↦ subst (λ (d : Disk). (said k ≡ true) ⊎ Rises (a.disk (drive_of places k)).faults d.faults) (sym (there k lt ne)) (tried.cause k lt (sym (get_or-set_other mid shard k is false ne) ∙ so))
  ];
  counts = λ k lt clear. elim (cases_eq k shard) [
    | inl e ↦ subst (λ (j : ℕ). (said j ≡ false) × ((c.disk (drive_of places j)).faults ≡ (a.disk (drive_of places j)).faults)) (sym e) (counts_here (sym here ∙ sym (ap (is_unknown (slice_set mid shard is)) e) ∙ clear))
    | inr ne ↦ subst (λ (d : Disk). (said k ≡ false) × (d.faults ≡ (a.disk (drive_of places k)).faults)) (sym (there k lt ne)) (tried.counts k lt (sym (get_or-set_other mid shard k is false ne) ∙ clear))
  ];
}
  where
    here : is_unknown (slice_set mid shard is) shard ≡ is
    here = get_or-set_same mid shard is false (omega (arith, within, nine))

    there : (k : ℕ) → k < 9 → k ≢ shard → c.disk (drive_of places k) ≡ b.disk (drive_of places k)
    there k lt ne = others (drive_of places k) (apart a places k shard are ne lt within)

    known_before : is ≡ false → is_unknown mid shard ≡ false
    known_before clear = elim (cases_Bool (is_unknown mid shard)) [
      | inl so ↦ absurd (cc (part.stays so, clear))
      | inr not ↦ not
    ]

    cause_here : is ≡ true → (said shard ≡ true) ⊎ Rises (a.disk (drive_of places shard)).faults (c.disk (drive_of places shard)).faults
    cause_here so = ⊎_elim
        (λ was. ⊎_elim (λ s. inl s) (λ rose. inr (rises_first (a.disk (drive_of places shard)).faults (b.disk (drive_of places shard)).faults (c.disk (drive_of places shard)).faults rose (bc.faults (drive_of places shard)) (is_c.faults (drive_of places shard)))) (tried.cause shard within was))
        (λ rose. inr (rises_then (a.disk (drive_of places shard)).faults (b.disk (drive_of places shard)).faults (c.disk (drive_of places shard)).faults (ab.faults (drive_of places shard)) rose))
        (part.cause so)

    counts_here : is ≡ false → (said shard ≡ false) × ((c.disk (drive_of places shard)).faults ≡ (a.disk (drive_of places shard)).faults)
    counts_here clear = let before = tried.counts shard within (known_before clear) in (before.0, part.counts clear ∙ before.1)

-- what is lost then is lost in all
pub lost_in_all : (a b c : Shelved) (places : List Place) (said : ℕ → Bool) (flags drives : List Bool) → IsShelf c → Continues a b → Continues b c → Tried a b places said flags → AreLost b c places (is_unknown flags) drives → AreLost a c places said drives
lost_in_all a b c places said flags drives is_c ab bc tried lost = grind (arith, nat_tests, rises_first, rises_then)

-- a unit that is shown agrees with its shard
pub agrees_at : (view : View) (n : ℕ) (shards : List (List ℕ)) (places : List Place) (k : ℕ) (bytes : List ℕ) → AllZip (λ shard shown. IfSome shown (λ bytes. bytes ≡ shard)) shards (map (λ p. write_unit n p view) places) → k < length places
    → view (drive_of places k) ≡ Some bytes → bytes_at (write_unit_at (place_of places k) n) 4096 bytes ≡ shard_of shards k
agrees_at view n shards [] k bytes all lt shown = absurd (omega (arith, lt))
agrees_at view n [] (p ∷ ps) k bytes all lt shown = absurd all
agrees_at view n (s ∷ ss) (p ∷ ps) zero bytes all lt shown = subst (λ (o : Option (List ℕ)). IfSome (option_map (bytes_at (write_unit_at p n) 4096) o) (λ bytes. bytes ≡ s)) shown all.0
agrees_at view n (s ∷ ss) (p ∷ ps) (suc k) bytes all lt shown = agrees_at view n ss ps k bytes all.1 (omega (arith, lt)) shown

-- the codeword that a view shows agrees with what the drives gave
pub shown_agrees : (a c : Shelved) (places : List Place) (missing : List Bool) (stripe : ℕ) (view : View) (shards : List (List ℕ)) (k : ℕ) → ArePlaces a places → ShowsAnswering a c places missing view → StripeStands view places stripe shards → k < 9
    → is_missing_in missing places k ≡ false → (c.disk (drive_of places k)).faults ≡ (a.disk (drive_of places k)).faults → unit_in (bytes_of a) places (stripe + 1) k ≡ shard_of shards k
shown_agrees a c places missing stripe view shards k are shows stands lt there counts =
    agrees_at view (stripe + 1) shards places k (bytes_of a (drive_of places k)) stands.agrees (omega (arith, lt, are.nine)) (shows k lt there counts)

-- so it is what the stripe is recovered to
pub is_on : (a b c : Shelved) (places : List Place) (missing flags : List Bool) (stripe : ℕ) (view : View) (shards : List (List ℕ)) → ArePlaces a places → ((d : Device) → IsSame (a.disk d) (b.disk d)) → Tried a b places (is_missing_in missing places) flags
    → ShowsAnswering a c places missing view → StripeStands view places stripe shards → IsOn b c places flags stripe shards
is_on a b c places missing flags stripe view shards are same tried shows stands = record {
  codeword = stands.codeword;
  agrees = λ k lt known counts.
      let t = tried.counts k lt known in
      ap (bytes_at (write_unit_at (place_of places k) (stripe + 1)) 4096) (same (drive_of places k)).bytes
      ∙ shown_agrees a c places missing stripe view shards k are shows stands lt t.0 (counts ∙ t.1);
}

-- a part of a part
pub part_of_part : (at m offset n : ℕ) (bytes : List ℕ) → offset + n ≤ m → bytes_at (at + offset) n bytes ≡ bytes_at offset n (bytes_at at m bytes)
part_of_part at m offset n bytes fits =
    let rest : m ≡ offset + (m - offset) = omega (arith, fits) in
    let less : n ≤ m - offset = omega (arith, fits) in
    ap (take n) (sym (drop-drop offset at bytes))
    ∙ sym (take-take n (m - offset) (drop offset (drop at bytes)) less)
    ∙ ap (take n) (sym (drop-take offset (m - offset) (drop at bytes)))
    ∙ sym (ap (λ (k : ℕ). take n (drop offset (take k (drop at bytes)))) rest)

pub tried_then : (a b c : Shelved) (places : List Place) (said : ℕ → Bool) (mid now : List Bool) → IsShelf c → Continues a b → Continues b c → Tried a b places said mid → Tried b c places (is_unknown mid) now → Tried a c places said now
tried_then a b c places said mid now is_c ab bc one two = grind (arith, nat_tests, rises_first, rises_then)
