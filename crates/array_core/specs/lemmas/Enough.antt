-- The devices that a record names are enough, where enough drives hold its array.
use Rattle.std.proofs.Common.{◌≡◌, ℕ, zero, suc, ◌+◌, ◌<◌, ◌≤◌, Bool, true, false, List, [], ◌∷◌, refl, sym, ap, subst, arith, cond}
use Rattle.std.specs.Prelude.{count_by, if◌then◌else◌}
use Rattle.std.specs.List.{range_with_len}
use Rattle.std.proofs.lemmas.List.{get_or_past}
use Rattle.session_spec.specs.Prelude.{Geometry, Sound, LeftOut, IsBearable, is_missing, drive, nvram, set_count, counted, named_sound}
use Rattle.boot_region.specs.Prelude.{IsMember}
use Rattle.register.specs.declared.state.Register.{Register}
use Rattle.register.specs.Prelude.{IsRegisterOf, none_past}
use Rattle.array_core.specs.Holding.{HasEnough}

bit : (b : Bool) → cond b 1 0 ≤ 1
bit true = omega arith
bit false = omega arith

none_set : (b : Bool) → b ≡ false → cond b 1 0 ≤ 0
none_set true e = absurd (cc e)
none_set false e = omega arith

at_most : (p : ℕ → Bool) (a n : ℕ) → count_by p (range_with_len a n) ≤ n
at_most p a zero = omega arith
at_most p a (suc n) = omega (arith, at_most p (a + 1) n, counted p a (range_with_len (a + 1) n), bit (p a))

-- of so many drives those that are so have no flag
pub unflagged : (p : ℕ → Bool) (flags : List Bool) (a n : ℕ) → ((i : ℕ) → i < n → IsMember flags i → p (a + i) ≡ false) → ((i : ℕ) → n ≤ i → IsMember flags i → ⊥)
    → count_by p (range_with_len a n) + set_count flags ≤ n
unflagged p [] a n fine past = omega (arith, at_most p a n)
unflagged p (true ∷ fs) a zero fine past = absurd (past 0 (omega arith) refl)
unflagged p (false ∷ fs) a zero fine past =
    let rest = unflagged p fs (a + 1) zero (λ i lt m. absurd (omega (arith, lt))) (λ i le m. past (suc i) (omega arith) m) in
    omega (arith, rest, counted (λ (b : Bool). b) false fs)
unflagged p (f ∷ fs) a (suc n) fine past =
    let rest = unflagged p fs (a + 1) n (λ i lt m. subst (λ (k : ℕ). p k ≡ false) (shifted i) (fine (suc i) (omega (arith, lt)) m)) (λ i le m. past (suc i) (omega (arith, le)) m) in
    omega (arith, rest, counted p a (range_with_len (a + 1) n), counted (λ (b : Bool). b) f fs, first f (fine 0 (omega arith)))
  where
    shifted : (i : ℕ) → a + suc i ≡ a + 1 + i
    shifted i = omega arith

    unshifted : a + 0 ≡ a
    unshifted = omega arith

    first : (f : Bool) → (f ≡ true → p (a + 0) ≡ false) → cond (p a) 1 0 + cond f 1 0 ≤ 1
    first false fine = omega (arith, bit (p a))
    first true fine = omega (arith, none_set (p a) (subst (λ (k : ℕ). p k ≡ false) unshifted (fine refl)))

-- they are enough, where the record names just the drives on which it is in force
pub named_enough : (shelf : Geometry) (r : Register) → IsRegisterOf shelf r → r.record.members.drives ≡ r.drives → HasEnough r → IsBearable shelf (named_sound r.record)
named_enough shelf r is named enough = record {
  drives =
      let few = unflagged (λ i. is_missing (named_sound r.record (drive i))) r.record.members.drives 0 shelf.slots
      (λ i lt m. let e : 0 + i ≡ i = omega arith in subst (λ (k : ℕ). is_missing (named_sound r.record (drive k)) ≡ false) (sym e) (ap (λ (b : Bool). is_missing (if b then Sound else LeftOut)) m))
      (λ i le m. none_past r.record.members.drives r.record.slots i is.lawful.lawful.members.within (omega (arith, le, is.lawful.slots)) m) in
      omega (arith, few, enough, is.lawful.slots, ap set_count named);
  nvrams =
      let few = unflagged (λ i. is_missing (named_sound r.record (nvram i))) r.record.members.nvrams 0 2
      (λ i lt m. let e : 0 + i ≡ i = omega arith in subst (λ (k : ℕ). is_missing (named_sound r.record (nvram k)) ≡ false) (sym e) (ap (λ (b : Bool). is_missing (if b then Sound else LeftOut)) m))
      (λ i le m. absurd (cc (m, get_or_past r.record.members.nvrams i false (omega (arith, le, is.lawful.lawful.members.nvram_flags))))) in
      omega (arith, few, is.lawful.lawful.members.nvrams);
}
