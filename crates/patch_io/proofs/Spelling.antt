-- Facts that are decoded one by one.
use Rattle.patch_io.proofs.Prelude.{zero, suc, drop, take, bytes_at, table_tag, any_key, AnyFact, Decodes, ◌≡◌, inl, inr, ℕ, ◌*◌, ◌+◌, ◌-◌, ◌<◌, ◌≤◌, List, [], ◌∷◌, ◌++◌, length, map, get_or, refl, sym, subst, ◌∙◌, ap, arith, append_assoc, length-append, Option, Some, None, IfSome, slice_get, option_map, length-map, slice_get-map, slice_get_within, slice_get-get_or, get_or_from_slice_get, same_Some, AreInOrder, HaveKey, fact_text, Spell, Extends, SpellsNone, Bad}
use Rattle.std.proofs.Common.{drop-drop}
use Rattle.std.specs.Simd.{first_chunks}
use Rattle.std.proofs.lemmas.Bool.{cases_lt}
use Rattle.std.proofs.lemmas.List.Quantifiers.{all_pairs_push}
use Rattle.fact_codec.proofs.OneFact.{one_fact}
use Rattle.patch_io.proofs.Lists.{get_front, get_behind, get_pushed, some_at, begins_with, all_at, all_pushed}

-- a chunk of bytes is where it stands
pub chunk_at : (n count k : ℕ) (bytes other : List ℕ) → k < count → get_or (first_chunks n count bytes) k other ≡ bytes_at (n * k) n bytes
chunk_at n zero k bytes other lt = absurd (omega (arith, lt))
chunk_at n (suc count) zero bytes other lt = let place : 0 ≡ n * 0 = omega arith in ap (λ (m : ℕ). bytes_at m n bytes) place
chunk_at n (suc count) (suc k) bytes other lt =
    let place : n + n * k ≡ n * suc k = omega arith in
    chunk_at n count k (drop n bytes) other (omega (arith, lt)) ∙ ap (take n) (drop-drop (n * k) n bytes ∙ ap (λ (m : ℕ). drop m bytes) place)

-- the last of the facts has a smaller key
abbrev pub IsBehindLast : List AnyFact → AnyFact → Type 0
IsBehindLast facts f = (last : AnyFact) → slice_get facts (length facts - 1) ≡ Some last → any_key last < any_key f

-- and it has not
abbrev pub IsNotBehindLast : List AnyFact → AnyFact → Type 0
IsNotBehindLast facts f = (last : AnyFact) × (slice_get facts (length facts - 1) ≡ Some last) × (any_key last < any_key f → ⊥)

-- no fact has been decoded yet
pub extends_none : (tag : ℕ) (bytes : List ℕ) (old : List AnyFact) → AreInOrder tag old → Extends tag bytes 0 old old
extends_none tag bytes old order = record {
  added = [];
  behind = sym (append_nil old);
  size = refl;
  spelled = λ k f is. absurd (omega (arith, slice_get_within [] k f is));
  in_order = order;
}
  where
    append_nil : (xs : List AnyFact) → xs ++ [] ≡ xs
    append_nil [] = refl
    append_nil (x ∷ xs) = ap (λ (l : List AnyFact). x ∷ l) (append_nil xs)

-- one more in order
pub in_order_pushed : (tag : ℕ) (facts : List AnyFact) (f : AnyFact) → AreInOrder tag facts → table_tag f ≡ tag → IsBehindLast facts f → AreInOrder tag (facts ++ f ∷ [])
in_order_pushed tag facts f order is behind = record {
  table = all_pushed (λ (g : AnyFact). table_tag g ≡ tag) facts f order.table is;
  ascending = all_pairs_push (λ (g h : AnyFact). any_key g < any_key h) facts f order.ascending below;
}
  where
    below : (k : ℕ) (d : AnyFact) → k < length facts → any_key (get_or facts k d) < any_key f
    below k d lt =
        let last = get_or facts (length facts - 1) d in
        let less : any_key last < any_key f = behind last (slice_get-get_or facts (length facts - 1) d (omega (arith, lt))) in
        elim (cases_lt k (length facts - 1)) [
          | inl before ↦ let smaller : any_key (get_or facts k d) < any_key last = order.ascending k (length facts - 1) d before (omega (arith, lt)) in omega (arith, smaller, less)
          | inr after ↦ let e : k ≡ length facts - 1 = omega (arith, after, lt) in subst (λ (i : ℕ). any_key (get_or facts i d) < any_key f) (sym e) less
        ]

-- one more is decoded
pub extends_more : (tag : ℕ) (bytes : List ℕ) (k : ℕ) (old new : List AnyFact) (f : AnyFact) → Extends tag bytes k old new → Decodes (fact_text bytes k) f → table_tag f ≡ tag → IsBehindLast new f → Extends tag bytes (k + 1) old (new ++ f ∷ [])
extends_more tag bytes k old new f so_far text is behind = record {
  added = so_far.added ++ f ∷ [];
  behind = ap (λ (l : List AnyFact). l ++ f ∷ []) so_far.behind ∙ append_assoc old so_far.added (f ∷ []);
  size = omega (arith, length-append so_far.added (f ∷ []), so_far.size);
  spelled = λ j g at. elim (get_pushed so_far.added f j g at) [
    | inl before ↦ so_far.spelled j g before
    | inr last ↦ subst (λ (h : AnyFact). Decodes (fact_text bytes j) h) last.1 (subst (λ (i : ℕ). Decodes (fact_text bytes i) f) (sym (last.0 ∙ so_far.size)) text)
  ];
  in_order = in_order_pushed tag new f so_far.in_order is behind;
}

-- what else the bytes spell begins with what was decoded
pub begins_as : (bytes : List ℕ) (xs ys : List AnyFact) → Spell bytes xs → Spell bytes ys → length xs ≤ length ys → (rest : List AnyFact) × (ys ≡ xs ++ rest)
begins_as bytes xs ys first second fits = begins_with xs ys fits (λ k x y x_at y_at. one_fact (fact_text bytes k) x y (first k x x_at) (second k y y_at))

-- the next bytes spell no fact of the table
pub none_by_text : (tag : ℕ) (bytes : List ℕ) (k count : ℕ) (old : List AnyFact) → k < count → ((f : AnyFact) → Decodes (fact_text bytes k) f → table_tag f ≡ tag → ⊥) → SpellsNone tag bytes count old Bad
none_by_text tag bytes k count old lt none added long spelled order =
    let x = some_at added k (omega (arith, lt, long)) in
    none x.0 (spelled k x.0 x.1) (all_at (λ (g : AnyFact). table_tag g ≡ tag) (old ++ added) (length old + k) x.0 order.table (get_behind old added k ∙ x.1))

-- the next fact stands out of order
pub none_by_order : (tag : ℕ) (bytes : List ℕ) (k count : ℕ) (old new : List AnyFact) (f : AnyFact) → k < count → Extends tag bytes k old new → Decodes (fact_text bytes k) f → IsNotBehindLast new f → SpellsNone tag bytes count old Bad
none_by_order tag bytes k count old new f lt so_far text (last, last_at, not_less) added long spelled order =
    let x = some_at added k (omega (arith, lt, long)) in
    let same : x.0 ≡ f = one_fact (fact_text bytes k) x.0 f (spelled k x.0 x.1) text in
    let more = begins_as bytes so_far.added added so_far.spelled spelled (omega (arith, so_far.size, lt, long)) in
    let whole : old ++ added ≡ new ++ more.0 = ap (λ (l : List AnyFact). old ++ l) more.1 ∙ sym (append_assoc old so_far.added more.0) ∙ ap (λ (l : List AnyFact). l ++ more.0) (sym so_far.behind) in
    let sizes : length new ≡ length old + k = ap length so_far.behind ∙ length-append old so_far.added ∙ ap (λ (n : ℕ). length old + n) so_far.size in
    let within : length new - 1 < length new = slice_get_within new (length new - 1) last last_at in
    let last_is : slice_get (old ++ added) (length new - 1) ≡ Some last = ap (λ (l : List AnyFact). slice_get l (length new - 1)) whole ∙ get_front new more.0 (length new - 1) last last_at in
    let next_is : slice_get (old ++ added) (length old + k) ≡ Some x.0 = get_behind old added k ∙ x.1 in
    let bound : length old + k < length (old ++ added) = slice_get_within (old ++ added) (length old + k) x.0 next_is in
    let pair : any_key (get_or (old ++ added) (length new - 1) f) < any_key (get_or (old ++ added) (length old + k) f) = order.ascending (length new - 1) (length old + k) f (omega (arith, sizes, within)) bound in
    let first : get_or (old ++ added) (length new - 1) f ≡ last = get_or_from_slice_get (old ++ added) (length new - 1) last f last_is in
    let second : get_or (old ++ added) (length old + k) f ≡ f = get_or_from_slice_get (old ++ added) (length old + k) x.0 f next_is ∙ same in
    not_less (subst (λ (h : AnyFact). any_key h < any_key f) first (subst (λ (h : AnyFact). any_key (get_or (old ++ added) (length new - 1) f) < any_key h) second pair))

-- ---- keys of one table as keys of any table

module _ {F : Type 0} (key : F → ℕ) where
  -- the key of the last fact, if there is one
  abbrev pub last_key : List F → Option ℕ
  last_key xs = option_map key (slice_get xs (length xs - 1))

  pub last_pushed : (xs : List F) (f : F) → last_key (xs ++ f ∷ []) ≡ Some (key f)
  last_pushed xs f =
      let at : length (xs ++ f ∷ []) - 1 ≡ length xs + 0 = omega (arith, length-append xs (f ∷ [])) in
      ap (λ (n : ℕ). option_map key (slice_get (xs ++ f ∷ []) n)) at ∙ ap (option_map key) (get_behind xs (f ∷ []) 0)

module _ {F : Type 0} (any : F → AnyFact) (key : F → ℕ) (same : HaveKey any key) where
  last_of : (xs : List F) (o : Option F) → slice_get xs (length xs - 1) ≡ o → slice_get (map any xs) (length (map any xs) - 1) ≡ option_map any o
  last_of xs o is = ap (λ (n : ℕ). slice_get (map any xs) (n - 1)) (length-map xs any) ∙ slice_get-map any xs (length xs - 1) ∙ ap (option_map any) is

  behind_if : (xs : List F) (f : F) (o : Option F) → slice_get xs (length xs - 1) ≡ o → IfSome (option_map key o) (λ last. last < key f) → IsBehindLast (map any xs) (any f)
  behind_if xs f None is less last at = absurd (let e = last_of xs None is in cc)
  behind_if xs f (Some x) is less last at =
      let e : any x ≡ last = same_Some (any x) last (sym (last_of xs (Some x) is) ∙ at) in
      subst (λ (g : AnyFact). any_key g < any_key (any f)) e (omega (arith, less, same x, same f))

  pub behind_last : (xs : List F) (f : F) → IfSome (last_key key xs) (λ last. last < key f) → IsBehindLast (map any xs) (any f)
  behind_last xs f less = behind_if xs f (slice_get xs (length xs - 1)) refl less

  not_behind_if : (xs : List F) (f : F) (o : Option F) → slice_get xs (length xs - 1) ≡ o → (IfSome (option_map key o) (λ last. last < key f) → ⊥) → IsNotBehindLast (map any xs) (any f)
  not_behind_if xs f None is no_less = absurd (no_less tt)
  not_behind_if xs f (Some x) is no_less = (any x, last_of xs (Some x) is, λ less. no_less (omega (arith, less, same x, same f)))

  pub not_behind_last : (xs : List F) (f : F) → (IfSome (last_key key xs) (λ last. last < key f) → ⊥) → IsNotBehindLast (map any xs) (any f)
  not_behind_last xs f no_less = not_behind_if xs f (slice_get xs (length xs - 1)) refl no_less
