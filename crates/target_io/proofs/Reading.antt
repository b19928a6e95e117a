-- One read after another.
use Rattle.target_io.proofs.Prelude.{◌≡◌, inl, inr, ⊎_elim, ℕ, ◌<◌, Bool, List, true, refl, sym, ◌∙◌, ap, subst, arith, Some, Contains, Place, View, drive, Facts, segment, SegmentFact, Shelved, IsShelf, Continues, continues_refl, continues_trans, writes_then, nothing_written, is_in, ArePlaces, place_of, AreLost, is_missing_in, rises_then, still_places, AreReadable, ShowsDrives, ReadsOnly, IsLost, AreDrivesLost}
use Rattle.std.proofs.lemmas.List.Elements.{Contains-get_or}
use Rattle.segment_io.proofs.Gathers.{looks_none, looks_then}

pub reads_none : (a : Shelved) → IsShelf a → ReadsOnly a a
reads_none a is = record {
  continues = continues_refl a;
  nvrams = λ n. refl;
  looks = looks_none a;
  writes = λ h. nothing_written a is;
}

pub reads_then : {a b c : Shelved} → ReadsOnly a b → ReadsOnly b c → ReadsOnly a c
reads_then {a} {b} {c} ab bc = record {
  continues = continues_trans ab.continues bc.continues;
  nvrams = λ n. bc.nvrams n ∙ ab.nvrams n;
  looks = looks_then ab.continues ab.looks bc.looks;
  writes = λ h. writes_then ab.continues (ab.writes h) (bc.writes (ab.continues.honest h));
}

-- ---- what stays

pub still_readable : {a b : Shelved} (facts : Facts) → Continues a b → AreReadable a facts → AreReadable b facts
still_readable facts on are id d said = let w = are id d said in (still_places on w.0, w.1)

-- what is shown of the drives is so after reads
pub still_shows : {a b : Shelved} (missing : List Bool) (view : View) → a.honest → ReadsOnly a b → ShowsDrives a missing view → ShowsDrives b missing view
still_shows {a} {b} missing view h reads shows slot low present = shows slot (omega (arith, low, reads.continues.drives)) present ∙ ap (λ (bytes : List ℕ). Some bytes) (sym (reads.looks.same h (drive slot)).bytes)

-- ---- what is lost

-- what is lost in the second of two calls is lost in both
pub lost_since : (a b c : Shelved) (fs : Facts) (missing drives : List Bool) → Continues a b → AreDrivesLost b c fs missing drives → AreDrivesLost a c fs missing drives
lost_since a b c fs missing drives on lost =
    let t = lost.three in
    record {
      three = record {
        id = t.id;
        which = t.which;
        there = t.there;
        first = t.first;
        second = t.second;
        third = t.third;
        hold = t.hold;
        in_order = (t.in_order.0, t.in_order.1, omega (arith, t.in_order.2, on.drives));
        are = (since t.first.slot t.are.0, since t.second.slot t.are.1, since t.third.slot t.are.2);
      };
      named = lost.named;
      each = λ slot is. since slot (lost.each slot is);
    }
  where
    since : (slot : ℕ) → IsLost b c missing slot → IsLost a c missing slot
    since slot is = ⊎_elim (λ was. inl was) (λ rose. inr (rises_then (a.disk (drive slot)).faults (b.disk (drive slot)).faults (c.disk (drive slot)).faults (on.faults (drive slot)) rose)) is

-- drives of a visible segment
pub lost_places : (a b : Shelved) (fs : Facts) (id : ℕ) (which : SegmentFact) → segment fs id ≡ Some which → (places : List Place) → which.places ≡ places → (missing drives : List Bool) → ArePlaces a places
    → AreLost a b places (is_missing_in missing places) drives → AreDrivesLost a b fs missing drives
lost_places a b fs id which there places same missing drives are lost =
    let three = lost.three in
    record {
      three = record {
        id = id;
        which = which;
        there = there;
        first = place_of places three.first;
        second = place_of places three.second;
        third = place_of places three.third;
        hold = (holds three.first (omega (arith, three.in_order)), holds three.second (omega (arith, three.in_order)), holds three.third three.in_order.2);
        in_order = (
          are.ascending three.first three.second three.in_order.0 (omega (arith, three.in_order)),
          are.ascending three.second three.third three.in_order.1 three.in_order.2,
          (are.each three.third three.in_order.2).slot,
        );
        are = (
          lost.cause three.first (omega (arith, three.in_order)) three.are.0,
          lost.cause three.second (omega (arith, three.in_order)) three.are.1,
          lost.cause three.third three.in_order.2 three.are.2,
        );
      };
      named = three.are;
      each = λ slot is. let at = lost.no_other slot is in subst (IsLost a b missing) (sym at.2) (lost.cause at.0 at.1 (subst (λ (s : ℕ). is_in drives s ≡ true) at.2 is));
    }
  where
    holds : (shard : ℕ) → shard < 9 → Contains which.places (place_of places shard)
    holds shard within = subst (λ (units : List Place). Contains units (place_of places shard)) (sym same) (Contains-get_or places shard (record { slot = 0; unit = 0 }) (omega (arith, within, are.nine)))
