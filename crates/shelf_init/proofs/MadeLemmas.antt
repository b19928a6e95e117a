-- Once all drives show the first record, the devices stand for the array of nothing.
use Rattle.shelf_init.proofs.Prelude.{◌≡◌, inl, inr, ℕ, zero, suc, ◌+◌, ◌-◌, ◌^◌, ◌<◌, List, [], ◌∷◌, refl, sym, ◌∙◌, ap, subst, arith, Bool, false, Some, None, count_by, range_with_len, is_open, Geometry, IsBearable, is_missing, drive, nvram, Device, BootRecord, BootSlot, A, B, IsRecordOf, is_vote, shown_by, spelling, IsHeld, is_sound_vote, MayAppear, MayBeGiven, spells_one, counted, held_is_given, one_is_effective, HasRoom, geometry_of, Shelved, Stop, MayStop, IsShelf, as_read, first_record, AreClean, none_missing, closed_shows, shown_body, IsShut, HasNoCommand, HasFirst}
use Rattle.array_spec.proofs.Held.{held_stands}
use Rattle.shelf_init.proofs.FirstLemmas.{first_is_lawful, is_named, named_below}
use Rattle.shelf_init.proofs.ViewLemmas.{IsOpening, first_is_read, opening_gives_first}

count_zero : (p : ℕ → Bool) (a n : ℕ) → ((i : ℕ) → i < a + n → p i ≡ false) → count_by p (range_with_len a n) ≡ 0
count_zero p a zero all = refl
count_zero p a (suc n) all =
    let first : p a ≡ false = all a (omega arith) in
    let rest : count_by p (range_with_len (a + 1) n) ≡ 0 = count_zero p (a + 1) n (λ i lt. all i (omega (arith, lt))) in
    rw (counted p a (range_with_len (a + 1) n)) (rw first (omega (arith, rest)))

-- no device is missing
sound_is_bearable : (shelf : Geometry) → IsBearable shelf none_missing
sound_is_bearable shelf = record {
  drives = let none : count_by (λ (i : ℕ). is_missing (none_missing (drive i))) (range_with_len 0 shelf.slots) ≡ 0 = count_zero (λ (i : ℕ). is_missing (none_missing (drive i))) 0 shelf.slots (λ i lt. refl) in omega (arith, none);
  nvrams = let none : count_by (λ (i : ℕ). is_missing (none_missing (nvram i))) (range_with_len 0 2) ≡ 0 = count_zero (λ (i : ℕ). is_missing (none_missing (nvram i))) 0 2 (λ i lt. refl) in omega (arith, none);
}

module _ (s : Shelved) (is : IsShelf s) (clean : AreClean s) (shows : (i : ℕ) → i < s.drives → shown_by B (s.disk (drive i)).bytes ≡ Some (spelling (first_record (geometry_of s))))
    (shut : IsShut s A) (no_command : HasNoCommand s) where
  lawful : IsRecordOf (geometry_of s) (first_record (geometry_of s))
  lawful = first_is_lawful (geometry_of s) is.drives is.units

  bearable : IsBearable (geometry_of s) none_missing
  bearable = sound_is_bearable (geometry_of s)

  module _ (start : Stop) (may : MayStop s start) where
    as_now : (d : Device) → start.image d ≡ (s.disk d).bytes
    as_now d = as_read (s.disk d) (start.image d) (clean d) (may.device d)

    shown_at : (i : ℕ) → i < s.drives → shown_by B (start.image (drive i)) ≡ Some (spelling (first_record (geometry_of s)))
    shown_at i lt = ap (shown_by B) (as_now (drive i)) ∙ shows i lt

    none_at : (i : ℕ) → i < s.drives → shown_by A (start.image (drive i)) ≡ None
    none_at i lt = ap (shown_by A) (as_now (drive i)) ∙ closed_shows A (s.disk (drive i)).bytes (shut i lt)

    opening : IsOpening (geometry_of s) start.image
    opening = record {
      shut = none_at;
      opens = λ i lt. inr (shown_at i lt);
      written = λ i lt. shown_body B (start.image (drive i)) (spelling (first_record (geometry_of s))) (shown_at i lt);
      no_command = λ n i lt below. ap (λ (bytes : List ℕ). is_open i bytes) (as_now (nvram n)) ∙ no_command n i lt below;
    }

    held : IsHeld (geometry_of s) start.image none_missing B (spelling (first_record (geometry_of s)))
    held = record {
      shown = λ i lt sound. shown_at i lt;
      few = λ other.
          let none : count_by (is_sound_vote start.image none_missing A other) (range_with_len 0 s.drives) ≡ 0 =
          count_zero (is_sound_vote start.image none_missing A other) 0 s.drives (λ i lt. ap (is_vote other) (none_at i (omega (arith, lt)))) in
          inr (omega (arith, none, is.drives.0));
    }

    appears : MayAppear (geometry_of s) start.image none_missing none_missing (λ d. Some (start.image d))
    appears = record { within = λ d. inl refl; bearable = bearable; shown = λ d sound. refl }

    given : MayBeGiven (geometry_of s) start.image none_missing B (first_record (geometry_of s))
    given = record {
      more = none_missing;
      view = λ d. Some (start.image d);
      appears = appears;
      lawful = lawful;
      effective = held_is_given (geometry_of s) start.image none_missing none_missing (λ d. Some (start.image d)) B (spelling (first_record (geometry_of s))) is.drives.0 held appears;
    }

    -- no other record may be given
    alone : (slot : BootSlot) (boot : BootRecord) → MayBeGiven (geometry_of s) start.image none_missing slot boot → boot ≡ first_record (geometry_of s)
    alone slot boot g =
        let first = held_is_given (geometry_of s) start.image none_missing g.more g.view B (spelling (first_record (geometry_of s))) is.drives.0 held g.appears in
        spells_one (geometry_of s) boot (first_record (geometry_of s)) g.lawful lawful (one_is_effective (geometry_of s) g.view slot B _ _ g.effective first).1

    has_room : HasRoom (geometry_of s) start.image none_missing
    has_room slot boot g = subst (λ (b : BootRecord). b.generation < 2 ^ 48 - 16) (sym (alone slot boot g)) (omega arith)

  pub is_made : HasFirst s
  is_made = record {
    made = record {
      enters = record {
        bearable = bearable;
        stands = λ start may. held_stands (geometry_of s) start.image none_missing B (first_record (geometry_of s)) ([] ∷ []) is.drives.0 bearable (λ e. absurd (cc e)) lawful (held start may)
            (first_is_read (geometry_of s) start.image lawful (opening start may));
        clean = λ d sound. clean d;
        left_out = λ start may d out. absurd (cc out);
        room = has_room;
      };
      first = λ start may. opening_gives_first (geometry_of s) start.image lawful (opening start may);
    };
    in_force = record {
      lawful = lawful;
      sound = λ i lt sound. is_named s.drives i lt;
      clean = λ i member sound. clean (drive i);
      shown = λ i member sound. shows i (named_below s.drives i member);
      given = given;
    };
  }
