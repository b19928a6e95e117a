-- Votes of drives that show less than others.
use Rattle.shelf_init.proofs.Prelude.{◌≡◌, ◌≢◌, ◌⊎◌, inl, inr, ℕ, zero, suc, map, ◌+◌, ◌*◌, ◌≤◌, ◌<◌, List, length, refl, ◌∙◌, ap, subst, arith, false, Option, None, option_and_then, count_by, slice_index, ◌==◌, range_with_len, cases_lt, length-replicate, get_or-replicate, get_or_past, zeros, is_open, Geometry, Image, View, Condition, Conditions, Sound, Missing, LeftOut, MayShow, MayShowAs, drive, BootSlot, A, B, IsDecided, IsEffective, Yields, generation_in, is_vote, votes, shown_by, gate_place, other_slot, counted, one_is_decided, NoneLeftOut, IsUndecided, closed_shows}
use Rattle.std.proofs.lemmas.List.FromFn.{length-map-range_with_len}

-- who shows nothing, or what another shows, gives a body no more votes
pub fewer_votes : (f g : ℕ → Option (List ℕ)) (body : List ℕ) (a n : ℕ) → ((i : ℕ) → i < a + n → (f i ≡ None) ⊎ (f i ≡ g i))
    → count_by (is_vote body) (map f (range_with_len a n)) ≤ count_by (is_vote body) (map g (range_with_len a n))
fewer_votes f g body a zero less = omega arith
fewer_votes f g body a (suc n) less =
    let rest : count_by (is_vote body) (map f (range_with_len (a + 1) n)) ≤ count_by (is_vote body) (map g (range_with_len (a + 1) n)) =
    fewer_votes f g body (a + 1) n (λ i lt. less i (omega (arith, lt))) in
    rw (counted (is_vote body) (f a) (map f (range_with_len (a + 1) n))) (rw (counted (is_vote body) (g a) (map g (range_with_len (a + 1) n)))
    (elim (less a (omega arith)) [
      | inl none ↦ rw none (omega (arith, rest))
      | inr same ↦ rw same (omega (arith, rest))
    ]))

-- votes for other bodies alone
pub no_votes : (f : ℕ → Option (List ℕ)) (body : List ℕ) (a n : ℕ) → ((i : ℕ) → i < a + n → is_vote body (f i) ≡ false)
    → count_by (is_vote body) (map f (range_with_len a n)) ≡ 0
no_votes f body a zero none = refl
no_votes f body a (suc n) none =
    let rest : count_by (is_vote body) (map f (range_with_len (a + 1) n)) ≡ 0 = no_votes f body (a + 1) n (λ i lt. none i (omega (arith, lt))) in
    let first : is_vote body (f a) ≡ false = none a (omega arith) in
    rw (counted (is_vote body) (f a) (map f (range_with_len (a + 1) n))) (rw first (omega (arith, rest)))

-- zeros open no gate
zeros_closed : (n place : ℕ) → is_open place (zeros n) ≡ false
zeros_closed n place = ap (λ (b : ℕ). b == 1) none
  where
    none : slice_index (zeros n) place ≡ 0
    none = elim (cases_lt place n) [
      | inl lt ↦ get_or-replicate {A = ℕ} n place 0 0 lt
      | inr ge ↦ get_or_past (zeros n) place 0 (rw (length-replicate {A = ℕ} n 0) ge)
    ]

-- what a device shows that isn't left out: nothing, or what stands on it
shows_less : (slot : BootSlot) (c : Condition) (bytes : List ℕ) (shown : Option (List ℕ)) → c ≢ LeftOut → MayShowAs c bytes shown
    → (option_and_then (shown_by slot) shown ≡ None) ⊎ (option_and_then (shown_by slot) shown ≡ shown_by slot bytes)
shows_less slot Sound bytes shown named is = inr (ap (option_and_then (shown_by slot)) is)
shows_less slot Missing bytes shown named (inl is) = inr (ap (option_and_then (shown_by slot)) is)
shows_less slot Missing bytes shown named (inr (inl blank)) =
    inl (ap (option_and_then (shown_by slot)) blank ∙ closed_shows slot (zeros (length bytes)) (zeros_closed (length bytes) (gate_place slot)))
shows_less slot Missing bytes shown named (inr (inr none)) = inl (ap (option_and_then (shown_by slot)) none)
shows_less slot LeftOut bytes shown named is = absurd (named refl)

-- so each drive of a view
pub view_shows : (image : Image) (more : Conditions) (view : View) → NoneLeftOut more → MayShow image more view → (slot : BootSlot) (i : ℕ)
    → (option_and_then (shown_by slot) (view (drive i)) ≡ None) ⊎ (option_and_then (shown_by slot) (view (drive i)) ≡ shown_by slot (image (drive i)))
view_shows image more view named shown slot i = shows_less slot (more (drive i)) (image (drive i)) (view (drive i)) (named (drive i)) (shown (drive i))

-- what is decided among fewer votes is decided
pub decided_of_fewer : (shelf : Geometry) (fewer more : View) (slot : BootSlot) (body : List ℕ)
    → ((i : ℕ) → i < shelf.slots → (option_and_then (shown_by slot) (fewer (drive i)) ≡ None) ⊎ (option_and_then (shown_by slot) (fewer (drive i)) ≡ option_and_then (shown_by slot) (more (drive i))))
    → IsDecided (votes shelf fewer slot) body → IsDecided (votes shelf more slot) body
decided_of_fewer shelf fewer more slot body less decided =
    let most : shelf.slots < 2 * count_by (is_vote body) (map few (range_with_len 0 shelf.slots)) =
    subst (λ n. n < 2 * count_by (is_vote body) (map few (range_with_len 0 shelf.slots))) (length-map-range_with_len few 0 shelf.slots) decided in
    let bound : count_by (is_vote body) (map few (range_with_len 0 shelf.slots)) ≤ count_by (is_vote body) (map many (range_with_len 0 shelf.slots)) =
    fewer_votes few many body 0 shelf.slots (λ i lt. less i (omega (arith, lt))) in
    rw (length-map-range_with_len many 0 shelf.slots) (omega (arith, most, bound))
  where
    few : ℕ → Option (List ℕ)
    few i = option_and_then (shown_by slot) (fewer (drive i))

    many : ℕ → Option (List ℕ)
    many i = option_and_then (shown_by slot) (more (drive i))

-- a body that no drive shows isn't decided
pub not_decided : (shelf : Geometry) (view : View) (slot : BootSlot) (body : List ℕ)
    → ((i : ℕ) → i < shelf.slots → is_vote body (option_and_then (shown_by slot) (view (drive i))) ≡ false) → IsDecided (votes shelf view slot) body → ⊥
not_decided shelf view slot body none decided =
    let most : shelf.slots < 2 * count_by (is_vote body) (map shows (range_with_len 0 shelf.slots)) =
    subst (λ n. n < 2 * count_by (is_vote body) (map shows (range_with_len 0 shelf.slots))) (length-map-range_with_len shows 0 shelf.slots) decided in
    let nobody : count_by (is_vote body) (map shows (range_with_len 0 shelf.slots)) ≡ 0 = no_votes shows body 0 shelf.slots (λ i lt. none i (omega (arith, lt))) in
    omega (arith, most, nobody)
  where
    shows : ℕ → Option (List ℕ)
    shows i = option_and_then (shown_by slot) (view (drive i))

yields_or_wins : (slot : BootSlot) (other own : ℕ) → Yields slot other own ⊎ Yields (other_slot slot) own other
yields_or_wins A other own = elim (cases_lt own other) [ inl lt ↦ inr lt | inr ge ↦ inl ge ]
yields_or_wins B other own = elim (cases_lt other own) [ inl lt ↦ inl lt | inr ge ↦ inr ge ]

twice : (slot : BootSlot) → other_slot (other_slot slot) ≡ slot
twice A = refl
twice B = refl

-- where no body is in force, none is decided
pub none_is_decided : (shelf : Geometry) (view : View) → ((slot : BootSlot) (body : List ℕ) → IsEffective shelf view slot body → ⊥) → (slot : BootSlot) → IsUndecided (votes shelf view slot)
none_is_decided shelf view none slot body decided = none slot body (record {
  decided = decided;
  highest = λ other d. elim (yields_or_wins slot (generation_in other) (generation_in body)) [
    | inl yields ↦ yields
    | inr wins ↦ absurd (none (other_slot slot) other (record {
      decided = d;
      highest = λ third e.
          let here : IsDecided (votes shelf view slot) third = subst (λ (s : BootSlot). IsDecided (votes shelf view s) third) (twice slot) e in
          let same : body ≡ third = one_is_decided (votes shelf view slot) body third decided here in
          subst (λ (b : List ℕ). Yields (other_slot slot) (generation_in b) (generation_in other)) same wins;
    }))
  ];
})
