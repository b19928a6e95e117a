-- Segments and patches are counted.
use Rattle.shelf_look.proofs.Prelude.{◌≡◌, ◌∙◌, ◌==◌, ℕ, ◌+◌, ◌<◌, ◌≤◌, Bool, true, false, not, cond, List, [], ◌∷◌, ◌++◌, length, take, drop, get_or, Option, Some, None, ap, subst, sym, refl, arith, filter_map, eq-eqb, ne_eqb, append-nil, length-append, cons_option, range_with_len, sum_by-drop_more, sum_by_more_le, sum_by_push, Facts, segment, segments, Patch, Table, patch_segments, tag_of, of_table, IsCountOf}
use Rattle.std.proofs.lemmas.List.FromFn.{length-range_with_len}
use Rattle.std.proofs.lemmas.List.Elements.{filter_more}
use Rattle.std.proofs.lemmas.List.Filters.{sum_by-filter_both}
use Rattle.shelf_look.specs.declared.counts.TableCounts.{TableCounts}

-- one patch more
pub next_patch : (ps : List Patch) (n : ℕ) (d : Patch) → n < length ps → patch_segments (drop n ps) ≡ length (get_or ps n d).segments + patch_segments (drop (n + 1) ps)
next_patch ps n d lt = sum_by-drop_more (λ (p : Patch). length p.segments) ps n d lt

-- a list of some of these is no longer
some_more : {B : Type 0} (o : Option B) (ys : List B) (n : ℕ) → length ys ≤ n → length (cons_option o ys) ≤ n + 1
some_more None ys n le = omega (arith, le)
some_more (Some y) ys n le = omega (arith, le)

few_some : {A B : Type 0} (f : A → Option B) (xs : List A) → length (filter_map f xs) ≤ length xs
few_some f [] = omega arith
few_some f (x ∷ xs) = let more = some_more (f x) (filter_map f xs) (length xs) (few_some f xs) in omega (arith, more)

-- so there are no more visible segments than ids
pub few_segments : (f : Facts) (next : ℕ) → length (segments f next) ≤ next
few_segments f next = omega (arith, few_some (segment f) (range_with_len 0 next), length-range_with_len 0 next)

-- ---- the patches of one table

module _ (t : Table) (ps : List Patch) (n : ℕ) (p : Patch) (lt : n < length ps) (at : p ≡ get_or ps n p) where
  -- there are no more segments than all patches have
  pub few_of_table : patch_segments (of_table t (take n ps)) + length p.segments ≤ patch_segments ps
  few_of_table =
      let more = sum_by_more_le (λ (q : Patch). length q.segments) ps n p lt in
      let same : length p.segments ≡ length (get_or ps n p).segments = ap (λ (q : Patch). length q.segments) at in
      omega (arith, more, same, sum_by-filter_both (λ (q : Patch). q.tag == tag_of t) (λ q. not (q.tag == tag_of t)) (λ _. refl) (λ (q : Patch). length q.segments) (take n ps))

  next_is : (b : Bool) → (p.tag == tag_of t) ≡ b → of_table t (take (n + 1) ps) ≡ of_table t (take n ps) ++ cond b (p ∷ []) []
  next_is b is =
      filter_more (λ (q : Patch). q.tag == tag_of t) ps n p lt
      ∙ ap (λ (q : Patch). of_table t (take n ps) ++ cond (q.tag == tag_of t) (q ∷ []) []) (sym at)
      ∙ ap (λ (c : Bool). of_table t (take n ps) ++ cond c (p ∷ []) []) is

  pub one_of_table : (visible s f : ℕ) (was : TableCounts) → s ≡ length p.segments → f ≡ p.facts → p.tag ≡ tag_of t → IsCountOf (of_table t (take n ps)) visible was
      → IsCountOf (of_table t (take (n + 1) ps)) visible (record { patches = was.patches + 1; segments = was.segments + s; facts = was.facts + f; visible = was.visible })
  one_of_table visible s f was long held is so_far =
      let qs = of_table t (take n ps) in
      subst (λ (l : List Patch). IsCountOf l visible (record { patches = was.patches + 1; segments = was.segments + s; facts = was.facts + f; visible = was.visible })) (sym (next_is true (eq-eqb p.tag (tag_of t) is))) (record {
        patches = let one = length-append qs (p ∷ []) in omega (arith, so_far.patches, one);
        segments = let one = sum_by_push (λ (q : Patch). length q.segments) qs p in omega (arith, so_far.segments, long, one);
        facts = let one = sum_by_push (λ (q : Patch). q.facts) qs p in omega (arith, so_far.facts, held, one);
        visible = so_far.visible;
      })

  pub of_other_table : (visible : ℕ) (was : TableCounts) → (p.tag ≡ tag_of t → ⊥) → IsCountOf (of_table t (take n ps)) visible was → IsCountOf (of_table t (take (n + 1) ps)) visible was
  of_other_table visible was is_not so_far =
      subst (λ (l : List Patch). IsCountOf l visible was) (sym (next_is false (ne_eqb p.tag (tag_of t) is_not) ∙ append-nil (of_table t (take n ps)))) so_far

pub seen_as : {ps : List Patch} {v w : ℕ} {t : TableCounts} → IsCountOf ps v t → v ≡ w → IsCountOf ps w t
seen_as {ps} {v} {w} {t} is same = subst (λ (k : ℕ). IsCountOf ps k t) same is
