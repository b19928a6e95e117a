-- The words of `lru` at hints, and the turning of the oldest entry.
use Rattle.std.proofs.Common.{◌≡◌, ℕ, ◌+◌, ◌-◌, ◌<◌, Bool, true, false, cond, [], ◌∷◌, ◌++◌, length, take, drop, is_some, option_map, Option, Some, None, refl, sym, ap, ◌∙◌, subst, arith, length-append, append_assoc, nat_eq, eqb-true}
use Rattle.std.proofs.lemmas.Cmp.{nat_eq_equiv}
use Rattle.std.proofs.lemmas.List.Elements.{filter-append}
use Rattle.std.proofs.lemmas.Map.Keys.{IsDistinct-head, IsDistinct-tail}
use Rattle.std.proofs.Math.Seq.{take-append_seam, drop-append_seam}
use Rattle.std.specs.List.{IsDistinct, AllByRecursion}
use Rattle.std.specs.Map.{keys_of, lookup_entry, remove_entry}
use Rattle.std.specs.Option.{option_map_or}
use Rattle.lru.specs.LruCache.{lru_cache, promoted, put_entries, last_entry}
use Rattle.lru.proofs.Pairs.{cut_at, cut_end, last_of_push}
use Rattle.pur_base.specs.declared.limits.TheConstants.{INDEX_ENTRIES}
use Rattle.pur_base.specs.declared.ids.SegmentId.{SegmentId}
use Rattle.pur_base.specs.declared.place.Location.{Location}
use Rattle.dedup_index.specs.Entries.{Entries, location_of, without_hint, fronted, noted, is_elsewhere, without_segment, newer, oldest}

-- ---- look-ups

pub lookup_entry-is : (hint : ℕ) (es : Entries) → lookup_entry (nat_eq hint) es ≡ option_map (λ at. (hint, at)) (location_of hint es)
lookup_entry-is hint [] = refl
lookup_entry-is hint (e ∷ es) = (elim (nat_eq hint e.0) as (λ y. nat_eq hint e.0 ≡ y → cond y (Some e) (lookup_entry (nat_eq hint) es) ≡ option_map (λ at. (hint, at)) (cond y (Some e.1) (location_of hint es))) [
  | true ↦ λ t. ap (λ k. Some (k, e.1)) (sym (eqb-true hint e.0 t))
  | false ↦ λ _. lookup_entry-is hint es
]) refl

fronted_by : (hint : ℕ) (rest es : Entries) (o : Option Location) → option_map_or (λ e. e ∷ rest) (option_map (λ at. (hint, at)) o) es ≡ option_map_or (λ at. (hint, at) ∷ rest) o es
fronted_by hint rest es None = refl
fronted_by hint rest es (Some at) = refl

pub promoted-is : (hint : ℕ) (es : Entries) → promoted (nat_eq hint) es ≡ fronted hint es
promoted-is hint es = rw (lookup_entry-is hint es) (fronted_by hint (without_hint hint es) es (location_of hint es))

noted_by : (hint : ℕ) (at : Location) (rest left : Entries) (o : Option Location)
    → option_map_or (λ (e : ℕ × Location). (e.0, at) ∷ rest) (option_map (λ was. (hint, was)) o) ((hint, at) ∷ left) ≡ (hint, at) ∷ cond (is_some o) rest left
noted_by hint at rest left None = refl
noted_by hint at rest left (Some was) = refl

pub put-is : (hint : ℕ) (at : Location) (es : Entries) (cap : ℕ) → cap ≡ INDEX_ENTRIES → put_entries nat_eq (lru_cache es cap) hint at ≡ noted hint at es
put-is hint at es cap e = rw (lookup_entry-is hint es, e) (noted_by hint at (without_hint hint es) (take (INDEX_ENTRIES - 1) es) (location_of hint es))

-- ---- the last entry of distinct keys

apart_last : (k : ℕ) (xs : Entries) (e : ℕ × Location) → AllByRecursion (λ y. nat_eq k y ≡ false) (keys_of (xs ++ e ∷ [])) → nat_eq e.0 k ≡ false
apart_last k [] e h = nat_eq_equiv.symm e.0 k ∙ h.0
apart_last k (x ∷ xs) e h = apart_last k xs e h.1

pub entry-last : (xs : Entries) (e : ℕ × Location) → IsDistinct nat_eq (keys_of (xs ++ e ∷ [])) → lookup_entry (nat_eq e.0) (xs ++ e ∷ []) ≡ Some e
entry-last [] e h = rw (nat_eq_equiv.refl e.0)
entry-last (x ∷ xs) e h =
    rw (apart_last x.0 xs e (IsDistinct-head nat_eq x.0 (keys_of (xs ++ e ∷ [])) h)) (entry-last xs e (IsDistinct-tail nat_eq x.0 (keys_of (xs ++ e ∷ [])) h))

pub removed-last : (xs : Entries) (e : ℕ × Location) → IsDistinct nat_eq (keys_of (xs ++ e ∷ [])) → remove_entry (nat_eq e.0) (xs ++ e ∷ []) ≡ xs
removed-last [] e h = rw (nat_eq_equiv.refl e.0)
removed-last (x ∷ xs) e h =
    rw (apart_last x.0 xs e (IsDistinct-head nat_eq x.0 (keys_of (xs ++ e ∷ [])) h)) (ap (λ (l : Entries). x ∷ l) (removed-last xs e (IsDistinct-tail nat_eq x.0 (keys_of (xs ++ e ∷ [])) h)))

pub promoted-last : (xs : Entries) (e : ℕ × Location) → IsDistinct nat_eq (keys_of (xs ++ e ∷ [])) → promoted (nat_eq e.0) (xs ++ e ∷ []) ≡ e ∷ xs
promoted-last xs e h = rw (entry-last xs e h, removed-last xs e h) refl

-- ---- a turn

-- the oldest entry goes where it is of the segment, and else to the front
abbrev pub turned : SegmentId → Entries → Entries
turned segment es = without_segment segment (oldest es) ++ newer es

pub turned-push : (segment : SegmentId) (xs : Entries) (e : ℕ × Location) → turned segment (xs ++ e ∷ []) ≡ without_segment segment (e ∷ []) ++ xs
turned-push segment xs e =
    let less : length (xs ++ e ∷ []) - 1 ≡ length xs = omega (arith, length-append xs (e ∷ [])) in
    rw (less, take-append_seam xs (e ∷ []), drop-append_seam xs (e ∷ [])) refl

-- the entries end with the last
pub split_last : (es : Entries) (e : ℕ × Location) → last_entry es ≡ Some e → (xs : Entries) × (es ≡ xs ++ e ∷ [])
split_last [] e h = absurd cc
split_last (d ∷ es) e h =
    let cut = cut_end (d ∷ es) (omega arith) in
    let last = rw (← cut.2) at ((last_of_push cut.0 cut.1).0) in
    let same : cut.1 ≡ e = cc in
    (cut.0, cut.2 ∙ ap (λ (x : ℕ × Location). cut.0 ++ x ∷ []) same)

kept : (segment : SegmentId) (e : ℕ × Location) (b : Bool) → is_elsewhere segment e ≡ b → without_segment segment (e ∷ []) ≡ cond b (e ∷ []) []
kept segment e b h = rw h refl

pub turned-promoted : (segment : SegmentId) (es : Entries) (e : ℕ × Location) → last_entry es ≡ Some e → IsDistinct nat_eq (keys_of es) → is_elsewhere segment e ≡ true → promoted (nat_eq e.0) es ≡ turned segment es
turned-promoted segment es e h d out =
    let cut = split_last es e h in
    let distinct = subst (λ (l : Entries). IsDistinct nat_eq (keys_of l)) cut.1 d in
    rw cut.1 (promoted-last cut.0 e distinct ∙ sym (turned-push segment cut.0 e ∙ ap (λ (l : Entries). l ++ cut.0) (kept segment e true out)))

pub turned-popped : (segment : SegmentId) (es : Entries) (e : ℕ × Location) → last_entry es ≡ Some e → is_elsewhere segment e ≡ false → take (length es - 1) es ≡ turned segment es
turned-popped segment es e h here =
    let cut = split_last es e h in
    rw cut.1 ((last_of_push cut.0 e).1 ∙ sym (turned-push segment cut.0 e ∙ ap (λ (l : Entries). l ++ cut.0) (kept segment e false here)))

-- ---- all turns

-- the entries after k turns of n
abbrev pub after_turns : SegmentId → Entries → ℕ → Entries
after_turns segment es k = without_segment segment (drop (length es - k) es) ++ take (length es - k) es

after_turns-seam : (segment : SegmentId) (front back : Entries) → after_turns segment (front ++ back) (length back) ≡ without_segment segment back ++ front
after_turns-seam segment front back =
    let left : length (front ++ back) - length back ≡ length front = omega (arith, length-append front back) in
    rw (left, take-append_seam front back, drop-append_seam front back) refl

turned-seam : (segment : SegmentId) (us : Entries) (x : ℕ × Location) (vs : Entries)
    → turned segment (after_turns segment (us ++ x ∷ vs) (length vs)) ≡ after_turns segment (us ++ x ∷ vs) (length (x ∷ vs))
turned-seam segment us x vs =
    let W : Entries → Entries = without_segment segment in
    let early : after_turns segment (us ++ x ∷ vs) (length vs) ≡ (W vs ++ us) ++ x ∷ [] =
    ap (λ (l : Entries). after_turns segment l (length vs)) (sym (append_assoc us (x ∷ []) vs)) ∙ after_turns-seam segment (us ++ x ∷ []) vs ∙ sym (append_assoc (W vs) us (x ∷ [])) in
    let late : after_turns segment (us ++ x ∷ vs) (length (x ∷ vs)) ≡ W (x ∷ vs) ++ us = after_turns-seam segment us (x ∷ vs) in
    ap (turned segment) early ∙ turned-push segment (W vs ++ us) x ∙ sym (append_assoc (W (x ∷ [])) (W vs) us)
    ∙ ap (λ (l : Entries). l ++ us) (sym (filter-append (is_elsewhere segment) (x ∷ []) vs)) ∙ sym late

turned-at : (segment : SegmentId) (es : Entries) (k : ℕ) (us : Entries) (x : ℕ × Location) (vs : Entries) → es ≡ us ++ x ∷ vs → k ≡ length vs
    → turned segment (after_turns segment es k) ≡ after_turns segment es (k + 1)
turned-at segment es k us x vs e n =
    let more : k + 1 ≡ length (x ∷ vs) = omega arith in
    rw (more, e, n) (turned-seam segment us x vs)

pub turned-more : (segment : SegmentId) (es : Entries) (k : ℕ) → k < length es → turned segment (after_turns segment es k) ≡ after_turns segment es (k + 1)
turned-more segment es k h =
    let cut = cut_at es (length es - (k + 1)) (omega arith) in
    let size : length es ≡ length cut.0 + length (cut.1 ∷ cut.2) = ap length cut.3 ∙ length-append cut.0 (cut.1 ∷ cut.2) in
    let at : length cut.0 ≡ length es - (k + 1) = cut.4 in
    turned-at segment es k cut.0 cut.1 cut.2 cut.3 (omega arith)
