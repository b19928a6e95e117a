-- A part of a list is replaced: what is left keeps its order. A checkpoint's new patches replace nothing, and a merge's patch replaces two.
use Rattle.record_tables.proofs.Prelude.{◌≡◌, ℕ, ◌+◌, List, [], ◌∷◌, ◌++◌, arith, subst, sym, map, append-nil, sum_by, Contains, AllPairs, AllByRecursion, flat_map, AreJoined, each_by_recursion, of_each}
use Rattle.record_tables.proofs.Woven.{Woven, woven_all, woven_alone, woven_append, woven_between, woven_flat, woven_in, woven_joined, woven_left_pairs, woven_map, woven_pairs, woven_sum}

-- what is left and what is gone made up the one list, and what is left and what is new make up the other
pub record IsReplaced {X : Type 0} (was gone new now : List X) : Type 0 where
  pub left : List X
  pub before : Woven left gone was
  pub after : Woven left new now

module _ {X : Type 0} where
  -- nothing is gone
  pub added : (was new now : List X) → Woven was new now → IsReplaced was [] new now
  added was new now w = record { left = was; before = woven_alone was; after = w }

  -- two neighbours are gone
  pub joined : {at : ℕ} {was new now : List X} → (j : AreJoined at was new now) → IsReplaced was (j.older ∷ j.newer ∷ []) new now
  joined {new = new} j = record {
    left = j.front ++ j.back;
    before = subst (λ l. Woven (j.front ++ j.back) (j.older ∷ j.newer ∷ []) l) (sym j.was_is) (woven_between j.front (j.older ∷ j.newer ∷ []) j.back);
    after = subst (λ l. Woven (j.front ++ j.back) new l) (sym j.now_is) (woven_between j.front new j.back);
  }

  module _ {was gone new now : List X} (r : IsReplaced was gone new now) where
    pub replaced_all : (P : X → Type 0) → AllByRecursion P was → AllByRecursion P new → AllByRecursion P now
    replaced_all P h k = woven_all P r.left new now r.after (each_by_recursion P r.left (λ x c. of_each P was x h (woven_in r.left gone was r.before x c))) k

    pub replaced_sum : (f : X → ℕ) → sum_by f now + sum_by f gone ≡ sum_by f was + sum_by f new
    replaced_sum f = let old = woven_sum f r.left gone was r.before in let all = woven_sum f r.left new now r.after in omega (arith, old, all)

    -- each two, where each of the old and each of the new are told apart too
    pub replaced_pairs : (R : X → X → Type 0) → ((x y : X) → R x y → R y x) → AllPairs R was → AllPairs R new → ((x y : X) → Contains was x → Contains new y → R x y) → AllPairs R now
    replaced_pairs R back p q across =
        woven_pairs R back r.left new now r.after (woven_left_pairs R r.left gone was r.before p) q (λ x y c d. across x y (woven_in r.left gone was r.before x c) d)

    pub replaced_flat : {Y : Type 0} (f : X → List Y) → IsReplaced (flat_map f was) (flat_map f gone) (flat_map f new) (flat_map f now)
    replaced_flat f = record { left = flat_map f r.left; before = woven_flat f r.left gone was r.before; after = woven_flat f r.left new now r.after }

    pub replaced_map : {Y : Type 0} (f : X → Y) → IsReplaced (map f was) (map f gone) (map f new) (map f now)
    replaced_map f = record { left = map f r.left; before = woven_map f r.left gone was r.before; after = woven_map f r.left new now r.after }

    -- others were added behind all
    pub replaced_more : (vs us : List X) → IsReplaced (was ++ vs) gone (new ++ us) (now ++ (vs ++ us))
    replaced_more vs us = record {
      left = r.left ++ vs;
      before = subst (λ l. Woven (r.left ++ vs) l (was ++ vs)) (append-nil gone) (woven_append r.left gone was vs [] vs r.before (woven_alone vs));
      after = woven_append r.left new now vs us (vs ++ us) r.after (woven_joined vs us);
    }
