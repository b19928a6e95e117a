-- What may be given after gates are opened or closed.
use Rattle.std.proofs.Common.{◌≡◌, ℕ, zero, suc, ◌+◌, ◌*◌, ◌≤◌, List, length, map, refl, sym, subst, arith, inl, inr, true, false, cond}
use Rattle.std.specs.Prelude.{Option, Some, None, ◌⊎◌, count_by, option_and_then, IfSome}
use Rattle.std.specs.List.{range_with_len}
use Rattle.std.specs.Str.{bytes_eq}
use Rattle.std.specs.Cmp.Lexicographic.{same_text}
use Rattle.std.proofs.lemmas.Bool.{cases_Bool, cases_lt}
use Rattle.std.proofs.lemmas.List.FromFn.{length-map-range_with_len}
use Rattle.boot_codec.specs.Prelude.{Geometry, drive, Image, View, Condition, Conditions, Sound, Missing, LeftOut, IsWithin, MayBecome, slots_of, IsRecordOf, BootSlot, A, B, Effective, IsEffective, IsDecided, Yields, is_vote, votes, shown_by, other_slot, generation_in, spelling}
use Rattle.boot_codec.specs.declared.record.BootRecord.{BootRecord}
use Rattle.array_spec.specs.lemmas.Standings.{within_twice}
use Rattle.array_spec.specs.lemmas.Votes.{counted, one_is_decided, sound_before}
use Rattle.array_spec.specs.Laws.{OpensGatesOf, OpeningGives, OpeningStillGives, ClosesGatesOf, ClosingGivesNoMore, ClosingStillGives}
use Rattle.array_spec.specs.Standing.{MayAppear}

-- the view of the image before: the missing devices show the same
was : Condition → Option (List ℕ) → Option (List ℕ) → Option (List ℕ)
was Sound old n = old
was Missing old n = n
was LeftOut old n = n

-- each vote is the same, or is for the body now and was for none
Grew : List ℕ → (ℕ → Option (List ℕ)) → (ℕ → Option (List ℕ)) → Type 0
Grew body v w = (i : ℕ) → (v i ≡ w i) ⊎ ((w i ≡ Some body) × (v i ≡ None))

grew_votes : (body c : List ℕ) (v w : ℕ → Option (List ℕ)) (a n : ℕ) → Grew body v w → count_by (is_vote c) (map v (range_with_len a n)) ≤ count_by (is_vote c) (map w (range_with_len a n))
unfolding Grew
grew_votes body c v w a zero grew = omega arith
grew_votes body c v w a (suc n) grew =
    rw (counted (is_vote c) (v a) (map v (range_with_len (a + 1) n))) (rw (counted (is_vote c) (w a) (map w (range_with_len (a + 1) n)))
    (one (grew a) (grew_votes body c v w (a + 1) n grew)))
  where
    one : (v a ≡ w a) ⊎ ((w a ≡ Some body) × (v a ≡ None)) → count_by (is_vote c) (map v (range_with_len (a + 1) n)) ≤ count_by (is_vote c) (map w (range_with_len (a + 1) n))
        → cond (is_vote c (v a)) 1 0 + count_by (is_vote c) (map v (range_with_len (a + 1) n)) ≤ cond (is_vote c (w a)) 1 0 + count_by (is_vote c) (map w (range_with_len (a + 1) n))
    one (inl e) rest = rw e (omega (arith, rest))
    one (inr (e, f)) rest = rw f (omega (arith, rest))

same_votes_but : (body c : List ℕ) (v w : ℕ → Option (List ℕ)) (a n : ℕ) → Grew body v w → bytes_eq body c ≡ false
    → count_by (is_vote c) (map w (range_with_len a n)) ≡ count_by (is_vote c) (map v (range_with_len a n))
unfolding Grew
same_votes_but body c v w a zero grew other = refl
same_votes_but body c v w a (suc n) grew other =
    rw (counted (is_vote c) (v a) (map v (range_with_len (a + 1) n))) (rw (counted (is_vote c) (w a) (map w (range_with_len (a + 1) n)))
    (one (grew a) (same_votes_but body c v w (a + 1) n grew other)))
  where
    one : (v a ≡ w a) ⊎ ((w a ≡ Some body) × (v a ≡ None)) → count_by (is_vote c) (map w (range_with_len (a + 1) n)) ≡ count_by (is_vote c) (map v (range_with_len (a + 1) n))
        → cond (is_vote c (w a)) 1 0 + count_by (is_vote c) (map w (range_with_len (a + 1) n)) ≡ cond (is_vote c (v a)) 1 0 + count_by (is_vote c) (map v (range_with_len (a + 1) n))
    one (inl e) rest = rw e (omega (arith, rest))
    one (inr (e, f)) rest = rw f (rw e (rw other (omega (arith, rest))))

pub this_or_other : (s t : BootSlot) → (s ≡ t) ⊎ (s ≡ other_slot t)
this_or_other A A = inl refl
this_or_other A B = inr refl
this_or_other B A = inr refl
this_or_other B B = inl refl

pub twice_other : (s : BootSlot) → other_slot (other_slot s) ≡ s
twice_other A = refl
twice_other B = refl

-- each vote is the same, or is for others now
Shrank : List ℕ → (ℕ → Option (List ℕ)) → (ℕ → Option (List ℕ)) → Type 0
Shrank c v w = (i : ℕ) → (w i ≡ v i) ⊎ (is_vote c (w i) ≡ false)

shrank_votes : (c : List ℕ) (v w : ℕ → Option (List ℕ)) (a n : ℕ) → Shrank c v w → count_by (is_vote c) (map w (range_with_len a n)) ≤ count_by (is_vote c) (map v (range_with_len a n))
unfolding Shrank
shrank_votes c v w a zero shrank = omega arith
shrank_votes c v w a (suc n) shrank =
    rw (counted (is_vote c) (v a) (map v (range_with_len (a + 1) n))) (rw (counted (is_vote c) (w a) (map w (range_with_len (a + 1) n)))
    (one (shrank a) (shrank_votes c v w (a + 1) n shrank)))
  where
    one : (w a ≡ v a) ⊎ (is_vote c (w a) ≡ false) → count_by (is_vote c) (map w (range_with_len (a + 1) n)) ≤ count_by (is_vote c) (map v (range_with_len (a + 1) n))
        → cond (is_vote c (w a)) 1 0 + count_by (is_vote c) (map w (range_with_len (a + 1) n)) ≤ cond (is_vote c (v a)) 1 0 + count_by (is_vote c) (map v (range_with_len (a + 1) n))
    one (inl e) rest = rw e (omega (arith, rest))
    one (inr e) rest = rw e (omega (arith, rest))

yields_or_not : (slot : BootSlot) (m n : ℕ) → Yields slot m n ⊎ (Yields slot m n → ⊥)
yields_or_not A m n = elim (cases_lt n m) [ inl h ↦ inr (λ k. omega (arith, h, k)) | inr h ↦ inl h ]
yields_or_not B m n = elim (cases_lt m n) [ inl h ↦ inl h | inr h ↦ inr (λ k. omega (arith, h, k)) ]

-- of two records one yields
one_yields : (slot : BootSlot) (m n : ℕ) → (Yields (other_slot slot) m n → ⊥) → Yields slot n m
one_yields A m n h = elim (cases_lt m n) [ inl k ↦ absurd (h k) | inr k ↦ k ]
one_yields B m n h = elim (cases_lt n m) [ inl k ↦ k | inr k ↦ absurd (h k) ]

pub decided_or_not : (vs : List (Option (List ℕ))) (body : List ℕ) → IsDecided vs body ⊎ (IsDecided vs body → ⊥)
decided_or_not vs body = elim (cases_lt (length vs) (2 * count_by (is_vote body) vs)) [ inl h ↦ inl h | inr h ↦ inr (λ k. omega (arith, h, k)) ]

stays : (c : Condition) (o n : Option (List ℕ)) → c ≡ Sound → was c o n ≡ o
unfolding was
stays Sound o n e = refl
stays Missing o n e = cc
stays LeftOut o n e = cc

twice_decided : (shelf : Geometry) (x : View) (s : BootSlot) (c : List ℕ) → IsDecided (votes shelf x s) c → IsDecided (votes shelf x (other_slot (other_slot s))) c
twice_decided shelf x s c d = subst (λ t. IsDecided (votes shelf x t) c) (sym (twice_other s)) d

once_decided : (shelf : Geometry) (x : View) (s : BootSlot) (c : List ℕ) → IsDecided (votes shelf x (other_slot (other_slot s))) c → IsDecided (votes shelf x s) c
once_decided shelf x s c d = subst (λ t. IsDecided (votes shelf x t) c) (twice_other s) d

module _ (shelf : Geometry) (old new : Image) (missing later more : Conditions) (w : View) (slot : BootSlot) (within : IsWithin missing later) (a : MayAppear shelf new later more w) where
  v : View
  v = λ device. was (more device) (Some (old device)) (w device)

  appears : MayAppear shelf old missing more v
  unfolding v
  appears = record {
    within = within_twice missing later more within a.within;
    bearable = a.bearable;
    shown = λ device sound. stays (more device) (Some (old device)) (w device) sound;
  }

  vote : View → BootSlot → ℕ → Option (List ℕ)
  vote x s i = option_and_then (shown_by s) (x (drive i))

  other_votes : ((i : ℕ) → later (drive i) ≡ Sound → shown_by (other_slot slot) (new (drive i)) ≡ shown_by (other_slot slot) (old (drive i))) → votes shelf v (other_slot slot) ≡ votes shelf w (other_slot slot)
  unfolding v was
  other_votes same = λ k. map (λ i. each i k) (slots_of shelf)
    where
      each : (i : ℕ) → option_and_then (shown_by (other_slot slot)) (was (more (drive i)) (Some (old (drive i))) (w (drive i))) ≡ option_and_then (shown_by (other_slot slot)) (w (drive i))
      each i = one (more (drive i)) (w (drive i)) (a.within (drive i)) (a.shown (drive i))
        where
          one : (c : Condition) (n : Option (List ℕ)) → MayBecome (later (drive i)) c → (c ≡ Sound → n ≡ Some (new (drive i))) → option_and_then (shown_by (other_slot slot)) (was c (Some (old (drive i))) n) ≡ option_and_then (shown_by (other_slot slot)) n
          one Sound n u h = sym (rw (h refl) (same i (sound_before (later (drive i)) Sound u refl)))
          one Missing n u h = refl
          one LeftOut n u h = refl

  module _ (body : List ℕ) (opens : OpensGatesOf old new later slot body) where
    grew : Grew body (vote v slot) (vote w slot)
    unfolding v was vote Grew
    grew i = one (more (drive i)) (w (drive i)) (a.within (drive i)) (a.shown (drive i))
      where
        one : (c : Condition) (n : Option (List ℕ)) → MayBecome (later (drive i)) c → (c ≡ Sound → n ≡ Some (new (drive i)))
            → (option_and_then (shown_by slot) (was c (Some (old (drive i))) n) ≡ option_and_then (shown_by slot) n)
            ⊎ ((option_and_then (shown_by slot) n ≡ Some body) × (option_and_then (shown_by slot) (was c (Some (old (drive i))) n) ≡ None))
        one Sound n u h = elim (opens.opens i (sound_before (later (drive i)) Sound u refl)) [
          | inl e ↦ inl (sym (rw (h refl) e))
          | inr e ↦ inr (rw (h refl) e.0, e.1)
        ]
        one Missing n u h = inl refl
        one LeftOut n u h = inl refl

    -- what was decided is, and what is and isn't the body was
    decided_now : (c : List ℕ) → IsDecided (votes shelf v slot) c → IsDecided (votes shelf w slot) c
    unfolding vote
    decided_now c d =
        let bound : count_by (is_vote c) (map (vote v slot) (range_with_len 0 shelf.slots)) ≤ count_by (is_vote c) (map (vote w slot) (range_with_len 0 shelf.slots)) =
        grew_votes body c (vote v slot) (vote w slot) 0 shelf.slots grew in
        let p : length (map (vote v slot) (range_with_len 0 shelf.slots)) ≡ shelf.slots = length-map-range_with_len (vote v slot) 0 shelf.slots in
        let q : length (map (vote w slot) (range_with_len 0 shelf.slots)) ≡ shelf.slots = length-map-range_with_len (vote w slot) 0 shelf.slots in
        omega (arith, d, bound, p, q)

    decided_before : (c : List ℕ) → bytes_eq body c ≡ false → IsDecided (votes shelf w slot) c → IsDecided (votes shelf v slot) c
    unfolding vote
    decided_before c other d =
        let same : count_by (is_vote c) (map (vote w slot) (range_with_len 0 shelf.slots)) ≡ count_by (is_vote c) (map (vote v slot) (range_with_len 0 shelf.slots)) =
        same_votes_but body c (vote v slot) (vote w slot) 0 shelf.slots grew other in
        let p : length (map (vote v slot) (range_with_len 0 shelf.slots)) ≡ shelf.slots = length-map-range_with_len (vote v slot) 0 shelf.slots in
        let q : length (map (vote w slot) (range_with_len 0 shelf.slots)) ≡ shelf.slots = length-map-range_with_len (vote w slot) 0 shelf.slots in
        omega (arith, d, same, p, q)

    -- what is effective was, but for the body
    effective_before : (slot2 : BootSlot) (c : List ℕ) → IsEffective shelf w slot2 c → ((slot2 ≡ slot) × (body ≡ c)) ⊎ IsEffective shelf v slot2 c
    effective_before slot2 c e = elim (this_or_other slot2 slot) [
      | inl is ↦ elim (cases_Bool (bytes_eq body c)) [
        | inl same ↦ inl (is, same_text body c (sym same))
        | inr other ↦ inr (subst (λ s. IsEffective shelf v s c) (sym is) (of_this (subst (λ s. IsEffective shelf w s c) is e) other))
      ]
      | inr is ↦ inr (subst (λ s. IsEffective shelf v s c) (sym is) (of_other (subst (λ s. IsEffective shelf w s c) is e)))
    ]
      where
        of_this : IsEffective shelf w slot c → bytes_eq body c ≡ false → IsEffective shelf v slot c
        of_this e other = record { decided = decided_before c other e.decided; highest = λ o d. e.highest o (subst (λ vs. IsDecided vs o) (other_votes opens.others) d) }

        of_other : IsEffective shelf w (other_slot slot) c → IsEffective shelf v (other_slot slot) c
        of_other e = record {
          decided = subst (λ vs. IsDecided vs c) (sym (other_votes opens.others)) e.decided;
          highest = λ o d. e.highest o (twice_decided shelf w slot o (decided_now o (once_decided shelf v slot o d)));
        }

    -- some record still is
    effective_now : (boot : BootRecord) → IsRecordOf shelf boot → spelling boot ≡ body → Effective shelf v → Effective shelf w
    effective_now boot lawful is e = elim (this_or_other e.slot slot) [
      | inl this ↦ record { slot = slot; boot = e.boot; lawful = e.lawful; effective = of_this (subst (λ s. IsEffective shelf v s (spelling e.boot)) this e.effective) }
      | inr other ↦ of_other (subst (λ s. IsEffective shelf v s (spelling e.boot)) other e.effective)
    ]
      where
        own : List ℕ
        own = spelling e.boot

        of_this : IsEffective shelf v slot own → IsEffective shelf w slot own
        of_this h = record { decided = decided_now own h.decided; highest = λ o d. h.highest o (subst (λ vs. IsDecided vs o) (sym (other_votes opens.others)) d) }

        of_other : IsEffective shelf v (other_slot slot) own → Effective shelf w
        of_other h = elim (decided_or_not (votes shelf w slot) body) [
          | inl d ↦ elim (yields_or_not (other_slot slot) (generation_in body) (generation_in own)) [
            | inl y ↦ stays_so (λ c same dc. subst (λ b. Yields (other_slot slot) (generation_in b) (generation_in own)) (same_text body c (sym same)) y)
            | inr n ↦ record {
              slot = slot;
              boot = boot;
              lawful = lawful;
              effective = subst (λ b. IsEffective shelf w slot b) (sym is)
                  (record {
                    decided = d;
                    highest = λ o dc.
                        let before_that : IsDecided (votes shelf v (other_slot slot)) o = subst (λ vs. IsDecided vs o) (sym (other_votes opens.others)) dc in
                        let same : own ≡ o = one_is_decided (votes shelf v (other_slot slot)) own o h.decided before_that in
                        subst (λ b. Yields slot (generation_in b) (generation_in body)) same (one_yields slot (generation_in body) (generation_in own) n);
                  });
            }
          ]
          | inr n ↦ stays_so (λ c same dc. absurd (n (subst (λ b. IsDecided (votes shelf w slot) b) (sym (same_text body c (sym same))) dc)))
        ]
          where
            stays_so : ((c : List ℕ) → bytes_eq body c ≡ true → IsDecided (votes shelf w slot) c → Yields (other_slot slot) (generation_in c) (generation_in own)) → Effective shelf w
            stays_so yields = record {
              slot = other_slot slot;
              boot = e.boot;
              lawful = e.lawful;
              effective = record {
                decided = subst (λ vs. IsDecided vs own) (other_votes opens.others) h.decided;
                highest = λ o dc.
                    let d : IsDecided (votes shelf w slot) o = once_decided shelf w slot o dc in
                    elim (cases_Bool (bytes_eq body o)) [
                      | inl same ↦ yields o same d
                      | inr different ↦ h.highest o (twice_decided shelf v slot o (decided_before o different d))
                    ];
              };
            }

  module _ (held : List ℕ) (closes : ClosesGatesOf old new later slot held) where
    Loses : List ℕ → Type 0
    Loses c = Yields (other_slot slot) (generation_in c) (generation_in held)

    not_for : (c : List ℕ) (o : Option (List ℕ)) → (Loses c → ⊥) → IfSome o (λ body. Yields (other_slot slot) (generation_in body) (generation_in held)) → is_vote c o ≡ false
    unfolding Loses
    not_for c None wins h = refl
    not_for c (Some b) wins h = elim (cases_Bool (bytes_eq b c)) [
      | inl same ↦ absurd (wins (subst (λ x. Yields (other_slot slot) (generation_in x) (generation_in held)) (same_text b c (sym same)) h))
      | inr other ↦ other
    ]

    shrank : (c : List ℕ) → (Loses c → ⊥) → Shrank c (vote v slot) (vote w slot)
    unfolding v was vote Shrank
    shrank c wins i = one (more (drive i)) (w (drive i)) (a.within (drive i)) (a.shown (drive i))
      where
        one : (k : Condition) (n : Option (List ℕ)) → MayBecome (later (drive i)) k → (k ≡ Sound → n ≡ Some (new (drive i)))
            → (option_and_then (shown_by slot) n ≡ option_and_then (shown_by slot) (was k (Some (old (drive i))) n)) ⊎ (is_vote c (option_and_then (shown_by slot) n) ≡ false)
        one Sound n u h = elim (closes.closes i (sound_before (later (drive i)) Sound u refl)) [ inl e ↦ inl (rw (h refl) e) | inr e ↦ inr (rw (h refl) (not_for c (shown_by slot (new (drive i))) wins e)) ]
        one Missing n u h = inl refl
        one LeftOut n u h = inl refl

    was_decided : (c : List ℕ) → (Loses c → ⊥) → IsDecided (votes shelf w slot) c → IsDecided (votes shelf v slot) c
    unfolding vote
    was_decided c wins d =
        let bound : count_by (is_vote c) (map (vote w slot) (range_with_len 0 shelf.slots)) ≤ count_by (is_vote c) (map (vote v slot) (range_with_len 0 shelf.slots)) =
        shrank_votes c (vote v slot) (vote w slot) 0 shelf.slots (shrank c wins) in
        let p : length (map (vote v slot) (range_with_len 0 shelf.slots)) ≡ shelf.slots = length-map-range_with_len (vote v slot) 0 shelf.slots in
        let q : length (map (vote w slot) (range_with_len 0 shelf.slots)) ≡ shelf.slots = length-map-range_with_len (vote w slot) 0 shelf.slots in
        omega (arith, d, bound, p, q)

    module _ (decided : IsDecided (votes shelf w (other_slot slot)) held) where
      -- one that is effective doesn't lose
      wins_over : (slot2 : BootSlot) (m n : ℕ) → Yields slot2 n m → Yields (other_slot slot2) m n → ⊥
      wins_over A m n h k = omega (arith, h, k)
      wins_over B m n h k = omega (arith, h, k)

      was_effective : (c : List ℕ) → IsEffective shelf w slot c → IsEffective shelf v slot c
      unfolding Loses
      was_effective c e = record {
        decided = was_decided c (wins_over slot (generation_in c) (generation_in held) (e.highest held decided)) e.decided;
        highest = λ o d. e.highest o (subst (λ vs. IsDecided vs o) (other_votes closes.others) d);
      }

      is_effective : (boot : BootRecord) → IsRecordOf shelf boot → spelling boot ≡ held → Effective shelf v → Effective shelf w
      unfolding Loses
      is_effective boot lawful is e = elim (this_or_other e.slot slot) [
        | inl this ↦ of_this (subst (λ s. IsEffective shelf v s (spelling e.boot)) this e.effective)
        | inr other ↦ of_other (subst (λ s. IsEffective shelf v s (spelling e.boot)) other e.effective)
      ]
        where
          own : List ℕ
          own = spelling e.boot

          held_now : ((o : List ℕ) → IsDecided (votes shelf w slot) o → Yields (other_slot slot) (generation_in o) (generation_in held)) → Effective shelf w
          held_now yields = record {
            slot = other_slot slot;
            boot = boot;
            lawful = lawful;
            effective = subst (λ b. IsEffective shelf w (other_slot slot) b) (sym is)
                (record { decided = decided; highest = λ o dc. yields o (once_decided shelf w slot o dc) });
          }

          of_other : IsEffective shelf v (other_slot slot) own → Effective shelf w
          of_other h =
              let same : own ≡ held = one_is_decided (votes shelf v (other_slot slot)) own held h.decided (subst (λ vs. IsDecided vs held) (sym (other_votes closes.others)) decided) in
              held_now (λ o d. elim (yields_or_not (other_slot slot) (generation_in o) (generation_in held)) [
                | inl y ↦ y
                | inr n ↦ subst (λ b. Yields (other_slot slot) (generation_in o) (generation_in b)) same (h.highest o (twice_decided shelf v slot o (was_decided o n d)))
              ])

          of_this : IsEffective shelf v slot own → Effective shelf w
          of_this h = elim (decided_or_not (votes shelf w slot) own) [
            | inl d ↦ record {
              slot = slot;
              boot = e.boot;
              lawful = e.lawful;
              effective = record {
                decided = d;
                highest = λ o dc. h.highest o (subst (λ vs. IsDecided vs o) (sym (other_votes closes.others)) dc);
              };
            }
            | inr n ↦ held_now (λ o d. elim (yields_or_not (other_slot slot) (generation_in o) (generation_in held)) [
              | inl y ↦ y
              | inr wins ↦
                  let same : own ≡ o = one_is_decided (votes shelf v slot) own o h.decided (was_decided o wins d) in
                  absurd (n (subst (λ b. IsDecided (votes shelf w slot) b) (sym same) d))
            ])
          ]

pub opening_gives : OpeningGives
opening_gives shelf old new missing later slot slot2 boot boot2 within opens g =
    elim (effective_before shelf old new missing later g.more g.view slot within g.appears (spelling boot) opens slot2 (spelling boot2) g.effective) [
      | inl e ↦ inl e
      | inr e ↦ inr (record { more = g.more; view = v shelf old new missing later g.more g.view slot within g.appears; appears = appears shelf old new missing later g.more g.view slot within g.appears; lawful = g.lawful; effective = e })
    ]

pub opening_still_gives : OpeningStillGives
opening_still_gives shelf old new missing later slot boot within lawful opens gives more w a =
    effective_now shelf old new missing later more w slot within a (spelling boot) opens boot lawful refl
    (gives more (v shelf old new missing later more w slot within a) (appears shelf old new missing later more w slot within a))

pub closing_gives_no_more : ClosingGivesNoMore
closing_gives_no_more shelf old new missing later slot slot2 boot boot2 within known held closes g =
    elim (this_or_other slot2 slot) [
      | inl e ↦ record {
        more = g.more;
        view = v shelf old new missing later g.more g.view slot within g.appears;
        appears = appears shelf old new missing later g.more g.view slot within g.appears;
        lawful = g.lawful;
        effective = subst (λ s. IsEffective shelf (v shelf old new missing later g.more g.view slot within g.appears) s (spelling boot2)) (sym e)
            (was_effective shelf old new missing later g.more g.view slot within g.appears (spelling boot) closes (held g.more g.view g.appears) (spelling boot2) (subst (λ s. IsEffective shelf g.view s (spelling boot2)) e g.effective));
      }
      | inr e ↦
          let same : spelling boot ≡ spelling boot2 = one_is_decided (votes shelf g.view (other_slot slot)) (spelling boot) (spelling boot2) (held g.more g.view g.appears)
          (subst (λ s. IsDecided (votes shelf g.view s) (spelling boot2)) e g.effective.decided) in
          record {
            more = known.more;
            view = known.view;
            appears = known.appears;
            lawful = g.lawful;
            effective = subst (λ s. IsEffective shelf known.view s (spelling boot2)) (sym e) (subst (λ b. IsEffective shelf known.view (other_slot slot) b) same known.effective);
          }
    ]

pub closing_still_gives : ClosingStillGives
closing_still_gives shelf old new missing later slot boot within lawful held closes gives more w a =
    is_effective shelf old new missing later more w slot within a (spelling boot) closes (held more w a) boot lawful refl
    (gives more (v shelf old new missing later more w slot within a) (appears shelf old new missing later more w slot within a))
