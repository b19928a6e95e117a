-- Where what NVRAM devices show lies between two logs, so does the log.
use Rattle.std.proofs.lemmas.Bool.Decides.{nat_tests}
use Rattle.std.proofs.Common.{◌≡◌, ℕ, zero, suc, ◌+◌, ◌≤◌, ◌<◌, List, [], ◌∷◌, ◌++◌, length, take, drop, refl, sym, ap, subst, arith, inl, inr, ◌∙◌, Bool, true, false, cond, ◌&&◌, ◌||◌}
use Rattle.std.specs.Prelude.{Option, Some, None, slice_get, if◌then◌else◌, Contains}
use Rattle.std.specs.Str.{bytes_eq}
use Rattle.std.specs.Cmp.Lexicographic.{same_text}
use Rattle.std.proofs.Math.Seq.{take-append_seam}
use Rattle.std.proofs.lemmas.List.{take-append-drop, length-append}
use Rattle.std.proofs.lemmas.Bool.{and_parts, or_cases}
use Rattle.std.proofs.lemmas.Option.{slice_get_past}
use Rattle.std.proofs.lemmas.Slice.Eq.{bytes_eq-Decides}
use Rattle.boot_codec.specs.Prelude.{Command, Accepts, after_all, AllAccepted, View, nvram, Conditions, Sound, is_sound, without_missing, is_open, Array}
use Rattle.pur_base.specs.Commands.{after}
use Rattle.log_codec.specs.Prelude.{HasSpelling, slot_bytes, Shows, IsInSlot, LogFrom, slot_at}
use Rattle.array_spec.specs.Laws.{LogIsBetween}

spelled_in : ℕ → ℕ → Command → List ℕ → Bool
spelled_in i number c bytes = is_open i bytes && bytes_eq (take (length (slot_bytes number c)) (slot_at i bytes)) (slot_bytes number c)

shown_in : ℕ → ℕ → Command → Option (List ℕ) → Bool
shown_in i number c None = false
shown_in i number c (Some bytes) = spelled_in i number c bytes

both_true : (a b : Bool) → a ≡ true → b ≡ true → a && b ≡ true
both_true true b e f = f
both_true false b e f = cc

-- one of the two shows the command of a slot
pub shower : (m : View) (flushed i : ℕ) (c : Command) → IsInSlot m flushed i c → (which : ℕ) × (which < 2) × Shows m which flushed i c
shower m flushed i c (inl s) = (0, omega arith, s)
shower m flushed i c (inr (nobody, s)) = (1, omega arith, s)

module _ (m : View) (flushed : ℕ) where
  pub is_shown : ℕ → ℕ → Command → Bool
  is_shown which i c = shown_in i (flushed + 1 + i) c (m (nvram which))

  pub shows_test : (which i : ℕ) (c : Command) → Shows m which flushed i c → is_shown which i c ≡ true
  unfolding is_shown spelled_in shown_in
  shows_test which i c s =
      let rest : List ℕ = s.spelled.behind in
      let starts : take (length (slot_bytes (flushed + 1 + i) c)) (slot_at i s.bytes) ≡ slot_bytes (flushed + 1 + i) c =
      ap (take (length (slot_bytes (flushed + 1 + i) c))) s.spelled.text ∙ take-append_seam (slot_bytes (flushed + 1 + i) c) rest in
      rw s.shown (both_true (is_open i s.bytes) _ s.gate ((bytes_eq-Decides _ _).1 starts))

  test_shows : (which i : ℕ) (c : Command) → i < 64 → HasSpelling (flushed + 1 + i) c → is_shown which i c ≡ true → Shows m which flushed i c
  unfolding is_shown spelled_in shown_in
  test_shows which i c below lawful e = one (m (nvram which)) refl e
    where
      one : (o : Option (List ℕ)) → m (nvram which) ≡ o → shown_in i (flushed + 1 + i) c o ≡ true → Shows m which flushed i c
      one None is t = cc
      one (Some bytes) is t =
          let parts : (is_open i bytes ≡ true) × (bytes_eq (take (length (slot_bytes (flushed + 1 + i) c)) (slot_at i bytes)) (slot_bytes (flushed + 1 + i) c) ≡ true) = and_parts _ _ t in
          let starts : take (length (slot_bytes (flushed + 1 + i) c)) (slot_at i bytes) ≡ slot_bytes (flushed + 1 + i) c = same_text _ _ (sym parts.1) in
          record {
            slot = below;
            bytes = bytes;
            shown = is;
            gate = parts.0;
            spelled = record {
              lawful = lawful;
              behind = drop (length (slot_bytes (flushed + 1 + i) c)) (slot_at i bytes);
              text = sym (take-append-drop (length (slot_bytes (flushed + 1 + i) c)) (slot_at i bytes)) ∙ ap (λ x. x ++ drop (length (slot_bytes (flushed + 1 + i) c)) (slot_at i bytes)) starts;
            };
          }

  pub in_slot : ℕ → Command → Bool
  in_slot i c = is_shown 0 i c || is_shown 1 i c

  pub shown_in_slot : (which i : ℕ) (c : Command) → which < 2 → is_shown which i c ≡ true → in_slot i c ≡ true
  unfolding in_slot
  shown_in_slot zero i c below t = left (is_shown 0 i c) (is_shown 1 i c) t
    where
      left : (a b : Bool) → a ≡ true → a || b ≡ true
      left true b e = refl
      left false b e = cc
  shown_in_slot (suc zero) i c below t = right (is_shown 0 i c) (is_shown 1 i c) t
    where
      right : (a b : Bool) → b ≡ true → a || b ≡ true
      right true b e = refl
      right false b e = e
  shown_in_slot (suc (suc j)) i c below t = absurd (omega (arith, below))

  -- the commands of the list from a slot on, as long as one is shown
  unfoldable pub log_of : ℕ → List Command → List Command
  log_of i [] = []
  log_of i (c ∷ cs) = if in_slot i c then c ∷ log_of (suc i) cs else []

  -- of the list's slots the devices show the list's commands alone
  unfoldable pub Only : ℕ → List Command → Type 0
  Only i cs = (which k : ℕ) (c : Command) → which < 2 → k < length cs → Shows m which flushed (i + k) c → slice_get cs k ≡ Some c

  unfoldable pub Lawful : ℕ → List Command → Type 0
  Lawful i cs = (k : ℕ) (c : Command) → slice_get cs k ≡ Some c → HasSpelling (flushed + 1 + (i + k)) c

  next_only : (i : ℕ) (c : Command) (cs : List Command) → Only i (c ∷ cs) → Only (suc i) cs
  unfolding Only
  next_only i c cs h which k d low below s =
      let e : suc i + k ≡ i + suc k = omega arith in h which (suc k) d low (omega (arith, below)) (subst (λ (x : ℕ). Shows m which flushed x d) e s)

  next_lawful : (i : ℕ) (c : Command) (cs : List Command) → Lawful i (c ∷ cs) → Lawful (suc i) cs
  unfolding Lawful
  next_lawful i c cs h k d e = let f : i + suc k ≡ suc i + k = omega arith in subst (λ (x : ℕ). HasSpelling (flushed + 1 + x) d) f (h (suc k) d e)

  here_only : (i : ℕ) (c : Command) (cs : List Command) → Only i (c ∷ cs) → (which : ℕ) (d : Command) → which < 2 → Shows m which flushed i d → d ≡ c
  unfolding Only
  here_only i c cs h which d low s =
      let e : i ≡ i + 0 = omega arith in
      let is : Some c ≡ Some d = h which 0 d low (omega arith) (subst (λ (x : ℕ). Shows m which flushed x d) e s) in cc is

  here_lawful : (i : ℕ) (c : Command) (cs : List Command) → Lawful i (c ∷ cs) → HasSpelling (flushed + 1 + i) c
  unfolding Lawful
  here_lawful i c cs h = let f : i + 0 ≡ i = omega arith in subst (λ (x : ℕ). HasSpelling (flushed + 1 + x) c) f (h 0 c refl)

  pub in_slot_is : (i : ℕ) (d : Command) → IsInSlot m flushed i d → in_slot i d ≡ true
  unfolding in_slot
  in_slot_is i d (inl s) = left (is_shown 0 i d) (is_shown 1 i d) (shows_test 0 i d s)
    where
      left : (a b : Bool) → a ≡ true → a || b ≡ true
      left true b e = refl
      left false b e = cc
  in_slot_is i d (inr (nobody, s)) = right (is_shown 0 i d) (is_shown 1 i d) (shows_test 1 i d s)
    where
      right : (a b : Bool) → b ≡ true → a || b ≡ true
      right true b e = refl
      right false b e = e

  pub slot_has : (i : ℕ) (c : Command) → i < 64 → HasSpelling (flushed + 1 + i) c → ((d : Command) → Shows m 0 flushed i d → d ≡ c) → in_slot i c ≡ true → IsInSlot m flushed i c
  unfolding in_slot
  slot_has i c below lawful only e = one (is_shown 0 i c) refl e
    where
      one : (a : Bool) → is_shown 0 i c ≡ a → a || is_shown 1 i c ≡ true → IsInSlot m flushed i c
      one true is t = inl (test_shows 0 i c below lawful is)
      one false is t = inr (
        λ d s. let same : d ≡ c = only d s in let yes_shown : is_shown 0 i d ≡ true = shows_test 0 i d s in
            not_both (is_shown 0 i c) is (subst (λ x. is_shown 0 i x ≡ true) same yes_shown),
        test_shows 1 i c below lawful t,
      )
        where
          not_both : (b : Bool) → b ≡ false → b ≡ true → ⊥
          not_both b e f = cc

  -- what is shown of the list from its first command on stands as a log
  pub front_stands : (i : ℕ) (array : Array) (cs : List Command) → Only i cs → Lawful i cs → i + length cs ≤ 64 → AllAccepted array cs
      → ((c : Command) → IsInSlot m flushed (i + length cs) c → ¬ (Accepts (after_all array cs) c)) → LogFrom m flushed i array (log_of i cs)
  unfolding log_of
  front_stands i array [] only lawful fits accepted behind = λ c s. let e : i ≡ i + 0 = omega arith in behind c (subst (λ (x : ℕ). IsInSlot m flushed x c) e s)
  front_stands i array (c ∷ cs) only lawful fits accepted behind =
      one (in_slot i c) refl (front_stands (suc i) (after array c) cs (next_only i c cs only) (next_lawful i c cs lawful) (omega (arith, fits)) accepted.1 behind_rest)
    where
      behind_rest : (d : Command) → IsInSlot m flushed (suc i + length cs) d → ¬ (Accepts (after_all (after array c) cs) d)
      behind_rest d s = let e : suc i + length cs ≡ i + suc (length cs) = omega arith in behind d (subst (λ (x : ℕ). IsInSlot m flushed x d) e s)

      not_both : (x : Bool) → x ≡ false → x ≡ true → ⊥
      not_both x f g = cc

      only_here : (d : Command) → IsInSlot m flushed i d → d ≡ c
      only_here d (inl s) = here_only i c cs only 0 d (omega arith) s
      only_here d (inr (nobody, s)) = here_only i c cs only 1 d (omega arith) s

      one : (b : Bool) → in_slot i c ≡ b → LogFrom m flushed (suc i) (after array c) (log_of (suc i) cs) → LogFrom m flushed i array (cond b (c ∷ log_of (suc i) cs) [])
      one true e rest = (slot_has i c (omega (arith, fits)) (here_lawful i c cs lawful) (λ d s. here_only i c cs only 0 d (omega arith) s) e, accepted.0, rest)
      one false e rest = λ d s a. not_both (in_slot i c) e (subst (λ (x : Command). in_slot i x ≡ true) (only_here d s) (in_slot_is i d s))

  -- it is a front of the list
  pub log_front : (i : ℕ) (cs : List Command) → (length (log_of i cs) ≤ length cs) × (log_of i cs ≡ take (length (log_of i cs)) cs)
  unfolding log_of
  log_front i [] = (omega arith, refl)
  log_front i (c ∷ cs) = one (in_slot i c) (log_front (suc i) cs)
    where
      one : (b : Bool) → (length (log_of (suc i) cs) ≤ length cs) × (log_of (suc i) cs ≡ take (length (log_of (suc i) cs)) cs)
          → (length (cond b (c ∷ log_of (suc i) cs) []) ≤ suc (length cs)) × (cond b (c ∷ log_of (suc i) cs) [] ≡ take (length (cond b (c ∷ log_of (suc i) cs) [])) (c ∷ cs))
      one true h = (omega (arith, h.0), λ j. c ∷ h.1 j)
      one false h = (omega arith, refl)

  -- as long as all that are shown
  pub log_least : (i n : ℕ) (cs : List Command) → n ≤ length cs → ((k : ℕ) (c : Command) → k < n → slice_get cs k ≡ Some c → in_slot (i + k) c ≡ true) → n ≤ length (log_of i cs)
  unfolding log_of
  log_least i zero cs long all = omega arith
  log_least i (suc n) [] long all = absurd (omega (arith, long))
  log_least i (suc n) (c ∷ cs) long all =
      let e : i + 0 ≡ i = omega arith in
      let first : in_slot i c ≡ true = subst (λ x. in_slot x c ≡ true) e (all 0 c (omega arith) refl) in
      let rest : n ≤ length (log_of (suc i) cs) = log_least (suc i) n cs (omega (arith, long))
      (λ k d below is. let f : i + suc k ≡ suc i + k = omega arith in subst (λ x. in_slot x d ≡ true) f (all (suc k) d (omega (arith, below)) is)) in
      rw first (omega (arith, rest))

module _ (m n : View) (flushed : ℕ) (fewer : (which i : ℕ) (c : Command) → is_shown n flushed which i c ≡ true → is_shown m flushed which i c ≡ true) where
  fewer_in_slot : (i : ℕ) (c : Command) → in_slot n flushed i c ≡ true → in_slot m flushed i c ≡ true
  unfolding in_slot
  fewer_in_slot i c e = elim (or_cases (is_shown n flushed 0 i c) (is_shown n flushed 1 i c) e) [
    | inl h ↦ left (is_shown m flushed 0 i c) (is_shown m flushed 1 i c) (fewer 0 i c h)
    | inr h ↦ right (is_shown m flushed 0 i c) (is_shown m flushed 1 i c) (fewer 1 i c h)
  ]
    where
      left : (a b : Bool) → a ≡ true → a || b ≡ true
      left true b e = refl
      left false b e = cc

      right : (a b : Bool) → b ≡ true → a || b ≡ true
      right true b e = refl
      right false b e = e

  -- where less is shown the log is no longer
  pub log_shorter : (i : ℕ) (cs : List Command) → length (log_of n flushed i cs) ≤ length (log_of m flushed i cs)
  unfolding log_of
  log_shorter i [] = omega arith
  log_shorter i (c ∷ cs) = one (in_slot n flushed i c) (in_slot m flushed i c) refl refl (log_shorter (suc i) cs)
    where
      one : (a b : Bool) → in_slot n flushed i c ≡ a → in_slot m flushed i c ≡ b → length (log_of n flushed (suc i) cs) ≤ length (log_of m flushed (suc i) cs)
          → length (cond a (c ∷ log_of n flushed (suc i) cs) []) ≤ length (cond b (c ∷ log_of m flushed (suc i) cs) [])
      one true true e f h = omega (arith, h)
      one true false e f h = absurd (let g : in_slot m flushed i c ≡ true = fewer_in_slot i c e in not_both (in_slot m flushed i c) f g)
        where
          not_both : (b : Bool) → b ≡ false → b ≡ true → ⊥
          not_both b e f = cc
      one false b e f h = omega arith

pub take_of_take : {X : Type 0} (a b : ℕ) (xs : List X) → a ≤ b → take a (take b xs) ≡ take a xs
take_of_take zero b xs le = refl
take_of_take (suc a) zero xs le = absurd (omega (arith, le))
take_of_take (suc a) (suc b) [] le = refl
take_of_take (suc a) (suc b) (x ∷ xs) le = let rest : take a (take b xs) ≡ take a xs = take_of_take a b xs (omega (arith, le)) in λ j. x ∷ rest j

-- what shows without the missing devices is shown by one that isn't missing
pub shows_alone : (missing : Conditions) (m : View) (which flushed i : ℕ) (c : Command) → Shows (without_missing missing m) which flushed i c → (missing (nvram which) ≡ Sound) × Shows m which flushed i c
shows_alone missing m which flushed i c t = grind (arith, nat_tests, nvram, cond, is_sound)

pub alone_still : (missing : Conditions) (m : View) (which flushed i : ℕ) (c : Command) → missing (nvram which) ≡ Sound → Shows m which flushed i c → Shows (without_missing missing m) which flushed i c
alone_still missing m which flushed i c sound t = record { slot = t.slot; bytes = t.bytes; shown = rw sound t.shown; gate = t.gate; spelled = t.spelled }

pub alone_fewer : (missing : Conditions) (m : View) (flushed which i : ℕ) (c : Command) → is_shown (without_missing missing m) flushed which i c ≡ true → is_shown m flushed which i c ≡ true
unfolding is_shown shown_in
alone_fewer missing m flushed which i c e = one (is_sound (missing (nvram which))) (m (nvram which)) e
  where
    one : (b : Bool) (o : Option (List ℕ)) → shown_in i (flushed + 1 + i) c (cond b o None) ≡ true → shown_in i (flushed + 1 + i) c o ≡ true
    one true o e = e
    one false o e = cc

pub log_is_between : LogIsBetween
unfolding Only Lawful in_slot is_shown shown_in
log_is_between missing members flushed base least most arrays accepted s fronts = record {
  log = log_of members flushed 0 most;
  log_stands = front_stands members flushed 0 base most (λ which k c low below t. no_other which k c t) lawful (omega (arith, s.room)) accepted (λ c t. absurd (behind members no_other c t));
  devices_agree = λ i c d t u. same (slice_get most i) (s.no_other 0 i c t) (s.no_other 1 i d u);
  least = log_of alone flushed 0 most;
  least_stands = front_stands alone flushed 0 base most (λ which k c low below t. alone_no_other which k c t) lawful (omega (arith, s.room)) accepted (λ c t. absurd (behind alone alone_no_other c t));
  enough = log_shorter members alone flushed (alone_fewer missing members flushed) 0 most;
  fronts = λ n low high.
      let front = log_front members flushed 0 most in
      let long : length least ≤ length (log_of alone flushed 0 most) = log_least alone flushed 0 (length least) most short all_shown in
      let e : take n (log_of members flushed 0 most) ≡ take n most =
      ap (take n) front.1 ∙ take_of_take n (length (log_of members flushed 0 most)) most high in
      subst (λ l. Contains arrays (after_all base l)) (sym e) (fronts n (omega (arith, low, long)) (omega (arith, high, front.0)));
}
  where
    alone : View
    alone = without_missing missing members

    same : (o : Option Command) {c d : Command} → o ≡ Some c → o ≡ Some d → c ≡ d
    same o e f = cc

    zero_plus : (k : ℕ) → 0 + k ≡ k
    zero_plus k = omega arith

    no_other : (which k : ℕ) (c : Command) → Shows members which flushed (0 + k) c → slice_get most k ≡ Some c
    no_other which k c t = s.no_other which k c (subst (λ x. Shows members which flushed x c) (zero_plus k) t)

    lawful : (k : ℕ) (c : Command) → slice_get most k ≡ Some c → HasSpelling (flushed + 1 + (0 + k)) c
    lawful k c e = subst (λ x. HasSpelling (flushed + 1 + x) c) (sym (zero_plus k)) (s.lawful k c e)

    alone_shows : (which i : ℕ) (c : Command) → Shows alone which flushed i c → Shows members which flushed i c
    alone_shows which i c t = (shows_alone missing members which flushed i c t).1

    alone_no_other : (which k : ℕ) (c : Command) → Shows alone which flushed (0 + k) c → slice_get most k ≡ Some c
    alone_no_other which k c t = no_other which k c (alone_shows which (0 + k) c t)

    behind : (m : View) → ((which k : ℕ) (c : Command) → Shows m which flushed (0 + k) c → slice_get most k ≡ Some c) → (c : Command) → IsInSlot m flushed (0 + length most) c → ⊥
    behind m only c t =
        let u = shower m flushed (0 + length most) c t in
        let found : slice_get most (length most) ≡ Some c = only u.0 (length most) c u.2 in
        let none : slice_get most (length most) ≡ None = slice_get_past most (length most) (omega arith) in
        cc (found, none)

    short : length least ≤ length most
    short = rw s.front.1 (rw (length-append least s.front.0) (omega arith))

    in_least : (xs ys : List Command) (k : ℕ) (c : Command) → k < length xs → slice_get (xs ++ ys) k ≡ Some c → slice_get xs k ≡ Some c
    in_least [] ys k c below e = absurd (omega (arith, below))
    in_least (x ∷ xs) ys zero c below e = e
    in_least (x ∷ xs) ys (suc k) c below e = in_least xs ys k c (omega (arith, below)) e

    all_shown : (k : ℕ) (c : Command) → k < length least → slice_get most k ≡ Some c → in_slot alone flushed (0 + k) c ≡ true
    all_shown k c below e =
        let found : slice_get least k ≡ Some c = in_least least s.front.0 k c below (subst (λ l. slice_get l k ≡ Some c) s.front.1 e) in
        let t = s.all s.one_sound.0 k c s.one_sound.1 s.one_sound.2 found in
        let here : Shows alone s.one_sound.0 flushed (0 + k) c = subst (λ x. Shows alone s.one_sound.0 flushed x c) (sym (zero_plus k))
        (alone_still missing members s.one_sound.0 flushed k c s.one_sound.2 t) in
        shown_in_slot alone flushed s.one_sound.0 (0 + k) c s.one_sound.1 (shows_test alone flushed s.one_sound.0 (0 + k) c here)
