-- Facts that lie in others are left out.
use Rattle.pyramid.proofs.Prelude.{◌≡◌, ◌≢◌, ◌⊎◌, ℕ, zero, suc, ◌+◌, ◌-◌, ◌<◌, ◌≤◌, ◌==◌, Bool, true, false, List, [], ◌∷◌, ◌++◌, length, get_or, set, take, drop, refl, sym, ap, subst, ◌∙◌, arith, inl, inr, Contains, if◌then◌else◌, IsTrue, drop-cons, append-nil, append_assoc, take-append-drop, get_or-set_same, get_or-set_other, get_or-take, length-append, length-take, ne_eqb, eq-eqb, take_more_set, get_or_default, get_or_append_left, Contains-append_left, Contains-append_right, Contains-append_cases, false≢true, cases_eq, cases_lt, Ascends, AreAlone, IsApart, IsPruned, IsMerged, LiesInOne, NestAsRanges, class_of, newest_of, there, either, nowhere, ascends-cons, ascends-tail, ascends-head, all_contained, All-contains, Contains-get_or}

-- no fact lies in another
abbrev pub never_within : {F : Type 0} → F → F → Bool
never_within f g = false

pub never_apart : {F : Type 0} → IsApart {F = F} never_within
never_apart f g w = false≢true w

module _ {F : Type 0} (key : F → ℕ) (within : F → F → Bool) where
  ascends_without : (fs : List F) (x : F) (gs : List F) → Ascends key (fs ++ x ∷ gs) → Ascends key (fs ++ gs)
  ascends_without [] x gs h = ascends-tail key x gs h
  ascends_without (f ∷ fs) x gs h = ascends-cons key f (fs ++ gs)
      (all_contained (λ g. key f < key g) (fs ++ gs) (λ g c. All-contains (λ g. key f < key g) (fs ++ x ∷ gs) g (ascends-head key f (fs ++ x ∷ gs) h) (move g c)))
      (ascends_without fs x gs (ascends-tail key f (fs ++ x ∷ gs) h))
    where
      move : (g : F) → Contains (fs ++ gs) g → Contains (fs ++ x ∷ gs) g
      move g c = elim (Contains-append_cases fs gs g c) [ inl a ↦ Contains-append_left fs (x ∷ gs) g a | inr b ↦ Contains-append_right fs (x ∷ gs) g (there x g gs b) ]

  -- a fact stays
  pub prune_keep : (old fs : List F) (x : F) (gs : List F) → IsPruned key within old fs (x ∷ gs) → (NestAsRanges key within → AreAlone within (fs ++ x ∷ [])) → IsPruned key within old (fs ++ x ∷ []) gs
  prune_keep old fs x gs h alone =
      let same : (fs ++ x ∷ []) ++ gs ≡ fs ++ x ∷ gs = append_assoc fs (x ∷ []) gs in
      record {
        ascends = rw same h.ascends;
        source = rw same h.source;
        dropped = rw same (λ f c. elim (h.dropped f c) [ inl a ↦ inl a | inr b ↦ inr (b.0, Contains-append_left fs (x ∷ []) b.0 b.1, b.2) ]);
        alone = alone;
        same = rw same h.same;
      }

  -- a fact is left out
  pub prune_drop : (old fs : List F) (x : F) (gs : List F) → IsPruned key within old fs (x ∷ gs) → LiesInOne within fs x → IsPruned key within old fs gs
  prune_drop old fs x gs h lies = record {
    ascends = ascends_without fs x gs h.ascends;
    source = λ f c. h.source f (elim (Contains-append_cases fs gs f c) [ inl a ↦ Contains-append_left fs (x ∷ gs) f a | inr b ↦ Contains-append_right fs (x ∷ gs) f (there x f gs b) ]);
    dropped = λ f c. elim (h.dropped f c) [
      | inr b ↦ inr b
      | inl a ↦ elim (Contains-append_cases fs (x ∷ gs) f a) [
        | inl d ↦ inl (Contains-append_left fs gs f d)
        | inr d ↦ elim (either x f gs d) [ inl e ↦ inr (rw e lies) | inr e ↦ inl (Contains-append_right fs gs f e) ]
      ]
    ];
    alone = h.alone;
    same = λ apart. absurd (apart x lies.0 lies.2);
  }

module _ {F : Type 0} (key number : F → ℕ) (empty : F → Bool) (within : F → F → Bool) where
  -- what a merge keeps, without facts that lie in others
  pub merged_pruned : (oldest : Bool) (elided : ℕ → Bool) (xs ys new pruned : List F) → IsMerged key number empty never_within oldest elided xs ys new → IsPruned key within new pruned []
      → IsMerged key number empty within oldest elided xs ys pruned
  merged_pruned oldest elided xs ys new pruned m h = record {
    ascends = rw whole at h.ascends;
    source = λ f c. m.source f (h.source f (rw whole c));
    dropped = λ f c. elim (m.dropped f c) [
      | inl a ↦ elim (stays f a) [ inl d ↦ inl d | inr d ↦ inr (inr (inr (inr d))) ]
      | inr r ↦ elim r [
        | inl gone ↦ inr (inl gone)
        | inr s ↦ elim s [
          | inl newer ↦ inr (inr (inl newer))
          | inr t ↦ elim t [ inl none ↦ inr (inr (inr (inl none))) | inr lies ↦ absurd (false≢true lies.2) ]
        ]
      ]
    ];
    alone = h.alone;
    newest = λ apart k. ap (λ fs. newest_of key number k fs) (sym whole ∙ h.same apart) ∙ m.newest (λ f g e. false≢true e) k;
  }
    where
      whole : pruned ++ [] ≡ pruned
      whole = append-nil pruned

      stays : (f : F) → Contains new f → Contains pruned f ⊎ LiesInOne within pruned f
      stays f c = elim (h.dropped f c) [ inl a ↦ inl (rw whole at a) | inr b ↦ inr b ]

-- ends of classes stay within what is kept
pub ends_set : (Q : ℕ → Type 0) (ends : List ℕ) (class n m : ℕ) → n ≤ m → ((k : ℕ) → Q k → get_or ends k 0 ≤ n) → (k : ℕ) → Q k → get_or (set ends class m) k 0 ≤ m
ends_set Q [] class n m le h k q = omega arith
ends_set Q (e ∷ ends) zero n m le h zero q = omega arith
ends_set Q (e ∷ ends) zero n m le h (suc k) q = let a : get_or ends k 0 ≤ n = h (suc k) q in omega (arith, a, le)
ends_set Q (e ∷ ends) (suc class) n m le h zero q = let a : e ≤ n = h 0 q in omega (arith, a, le)
ends_set Q (e ∷ ends) (suc class) n m le h (suc k) q = ends_set (λ j. Q (suc j)) ends class n m le (λ j r. h (suc j) r) k q

module _ {F : Type 0} where
  take_take : (n m : ℕ) (zs : List F) → n ≤ m → take n (take m zs) ≡ take n zs
  take_take zero m zs l = refl
  take_take (suc n) zero zs l = absurd (omega (arith, l))
  take_take (suc n) (suc m) [] l = refl
  take_take (suc n) (suc m) (z ∷ zs) l = ap (λ w. z ∷ w) (take_take n m zs (omega (arith, l)))

  contains_take : (xs : List F) (n m : ℕ) (f : F) → n ≤ m → Contains (take n xs) f → Contains (take m xs) f
  contains_take xs n m f l c =
      let front : Contains (take n (take m xs)) f = rw (take_take n m xs l) c in
      rw take-append-drop at (Contains-append_left (take n (take m xs)) (drop n (take m xs)) f front)

  -- the first of what is left
  pub drop_more : (xs : List F) (i : ℕ) (x : F) → i < length xs → x ≡ get_or xs i x → drop i xs ≡ x ∷ drop (i + 1) xs
  drop_more xs i x l is = let one : i + 1 ≡ suc i = omega arith in rw one (drop-cons xs i x l ∙ ap (λ y. y ∷ drop (suc i) xs) (sym is))

  pub same_tail : (xs ys : List F) (i : ℕ) (x : F) → i < length xs → length xs ≡ length ys → drop i xs ≡ drop i ys → x ≡ get_or xs i x → (drop i ys ≡ x ∷ drop (i + 1) ys) × (drop (i + 1) xs ≡ drop (i + 1) ys)
  same_tail xs ys i x l e same is =
      let left : drop i xs ≡ x ∷ drop (i + 1) xs = drop_more xs i x l is in
      let right : drop i ys ≡ get_or ys i x ∷ drop (i + 1) ys = drop_more ys i (get_or ys i x) (omega (arith, l, e)) (get_or_default ys i x (get_or ys i x) (omega (arith, l, e))) in
      let both : x ∷ drop (i + 1) xs ≡ get_or ys i x ∷ drop (i + 1) ys = sym left ∙ same ∙ right in
      let head : x ≡ get_or ys i x = cc in
      (right ∙ ap (λ y. y ∷ drop (i + 1) ys) (sym head), (cc))

module _ {F : Type 0} (key : F → ℕ) (within : F → F → Bool) where
  pub step_drop : (old facts : List F) (kept i end : ℕ) (x : F) → end ≤ kept → drop i old ≡ x ∷ drop (i + 1) old → IsPruned key within old (take kept facts) (drop i old) → LiesInOne within (take end facts) x
      → IsPruned key within old (take kept facts) (drop (i + 1) old)
  step_drop old facts kept i end x le e h lies =
      prune_drop key within old (take kept facts) x (drop (i + 1) old) (rw e at h) (lies.0, contains_take facts end kept lies.0 le lies.1, lies.2)

  pub step_keep : (old facts : List F) (kept i : ℕ) (x : F) → kept < length facts → drop i old ≡ x ∷ drop (i + 1) old → IsPruned key within old (take kept facts) (drop i old)
      → (NestAsRanges key within → AreAlone within (take kept facts ++ x ∷ [])) → IsPruned key within old (take (kept + 1) (set facts kept x)) (drop (i + 1) old)
  step_keep old facts kept i x l e h alone = rw (take_more_set facts kept x l) (prune_keep key within old (take kept facts) x (drop (i + 1) old) (rw e at h) alone)

-- ---- none that stays lies in another

get_or_append_here : {F : Type 0} (front : List F) (x : F) (gs : List F) (d : F) → get_or (front ++ x ∷ gs) (length front) d ≡ x
get_or_append_here [] x gs d = refl
get_or_append_here (y ∷ front) x gs d = get_or_append_here front x gs d

-- where the facts of each class end
pub record AreEnds {F : Type 0} (key : F → ℕ) (front : List F) (ends : List ℕ) : Type 0 where
  pub below : (k : ℕ) (d : F) → k < length front → k < get_or ends (class_of (key (get_or front k d))) 0
  pub last : (c : ℕ) (d : F) → 0 < get_or ends c 0 → (get_or ends c 0 ≤ length front) × (class_of (key (get_or front (get_or ends c 0 - 1) d)) ≡ c)

module _ {F : Type 0} (key : F → ℕ) (within : F → F → Bool) where
  -- a fact behind the others that lies not in the last of its class lies in none
  pub alone_push : (front : List F) (x : F) (gs : List F) (ends : List ℕ) → AreEnds key front ends → Ascends key (front ++ x ∷ gs)
      → (if get_or ends (class_of (key x)) 0 == 0 then false else within x (get_or front (get_or ends (class_of (key x)) 0 - 1) x)) ≡ false
      → NestAsRanges key within → AreAlone within front → AreAlone within (front ++ x ∷ [])
  alone_push front x gs ends e up free nest alone f g c d w = elim (Contains-append_cases front (x ∷ []) f c) [
    | inl a ↦ elim (Contains-append_cases front (x ∷ []) g d) [
      | inl b ↦ alone f g a b w
      | inr b ↦ elim (either x g [] b) [
        | inl s ↦
            let less = above f a in
            let no : key x ≤ key f = (nest.before f x (rw s at w)).0 in absurd (omega (arith, less, no))
        | inr z ↦ absurd (nowhere g z)
      ]
    ]
    | inr a ↦ elim (either x f [] a) [
      | inr z ↦ absurd (nowhere f z)
      | inl s ↦ elim (Contains-append_cases front (x ∷ []) g d) [
        | inr b ↦ elim (either x g [] b) [ inl t ↦ s ∙ sym t | inr z ↦ absurd (nowhere g z) ]
        | inl b ↦ absurd (two g b (rw s at w))
      ]
    ]
  ]
    where
      above : (f : F) → Contains front f → key f < key x
      above f a =
          let at : get_or (front ++ x ∷ gs) a.0 f ≡ f = get_or_append_left front (x ∷ gs) f a.0 a.1 ∙ a.2 in
          let end : get_or (front ++ x ∷ gs) (length front) f ≡ x = get_or_append_here front x gs f in
          let less = up a.0 (length front) f a.1 (omega (arith, length-append front (x ∷ gs))) in
          rw (at, end) at less

      order : (i j : ℕ) → i < j → j < length front → (d : F) → key (get_or front i d) < key (get_or front j d)
      order i j low l d =
          let less = up i j d low (omega (arith, l, length-append front (x ∷ gs))) in
          rw (get_or_append_left front (x ∷ gs) d i (omega (arith, low, l)), get_or_append_left front (x ∷ gs) d j l) at less

      two : (g : F) → Contains front g → IsTrue (within x g) → ⊥
      two g b w = three (get_or ends (class_of (key x)) 0) refl free
        where
          same : class_of (key x) ≡ class_of (key g)
          same = (nest.before x g w).1

          three : (end : ℕ) → get_or ends (class_of (key x)) 0 ≡ end → (if end == 0 then false else within x (get_or front (end - 1) x)) ≡ false → ⊥
          three zero is free =
              let low = e.below b.0 g b.1 in
              let here : get_or ends (class_of (key (get_or front b.0 g))) 0 ≡ 0 = ap (λ y. get_or ends (class_of (key y)) 0) b.2 ∙ ap (λ c. get_or ends c 0) (sym same) ∙ is in
              omega (arith, low, here)
          three (suc end) is free =
              let before : suc end - 1 ≡ end = omega arith in
              let last = e.last (class_of (key x)) x (rw is (omega arith)) in
              let size : end < length front = rw is at last.0 in
              let here : Contains front (get_or front end x) = Contains-get_or front end x size in
              let kind : class_of (key (get_or front end x)) ≡ class_of (key x) = ap (λ n. class_of (key (get_or front n x))) (sym before ∙ ap (λ n. n - 1) (sym is)) ∙ last.1 in
              let not_it : within x (get_or front end x) ≡ false = ap (λ n. within x (get_or front n x)) (sym before) ∙ (rw (ne_eqb (suc end) 0 (λ z. omega (arith, z))) at free) in
              let first = e.below b.0 g b.1 in
              let at : get_or ends (class_of (key (get_or front b.0 g))) 0 ≡ suc end = ap (λ y. get_or ends (class_of (key y)) 0) b.2 ∙ ap (λ c. get_or ends c 0) (sym same) ∙ is in
              let low : b.0 < suc end = omega (arith, first, at) in
              let below = above (get_or front end x) here in
              elim (cases_lt b.0 end) [
                | inl under ↦
                    let less = order b.0 end under size g in
                    let mine : key (get_or front b.0 g) ≡ key g = ap key b.2 in
                    let default : key (get_or front end g) ≡ key (get_or front end x) = ap key (get_or_default front end g x size) in
                    let high : key g < key (get_or front end x) = omega (arith, less, mine, default) in
                    elim (nest.between x g (get_or front end x) w (omega (arith, high)) (omega (arith, below)) (kind ∙ same)) [
                      | inl inside ↦ let it = ap key (alone (get_or front end x) g here b inside) in omega (arith, high, it)
                      | inr outside ↦ false≢true (sym not_it ∙ outside)
                    ]
                | inr over ↦
                    let it : b.0 ≡ end = omega (arith, low, over) in
                    let g_is : g ≡ get_or front end x = sym b.2 ∙ ap (λ n. get_or front n g) it ∙ get_or_default front end g x size in
                    false≢true (sym not_it ∙ ap (within x) (sym g_is) ∙ w)
              ]

  -- ends after a fact more
  pub ends_push : (front : List F) (x : F) (ends : List ℕ) → class_of (key x) < length ends → AreEnds key front ends → AreEnds key (front ++ x ∷ []) (set ends (class_of (key x)) (length front + 1))
  ends_push front x ends within e = record {
    below = λ k d l. elim (cases_lt k (length front)) [
      | inl under ↦ rw (get_or_append_left front (x ∷ []) d k under) (kept k d under (cases_eq (class_of (key (get_or front k d))) (class_of (key x))))
      | inr over ↦
          let at : k ≡ length front = omega (arith, over, l, length-append front (x ∷ [])) in
          rw (at, get_or_append_here front x [] d, get_or-set_same ends (class_of (key x)) (length front + 1) 0 within) (omega arith)
    ];
    last = λ c d l. ended c d (cases_eq c (class_of (key x))) l;
  }
    where
      kept : (k : ℕ) (d : F) → k < length front → (class_of (key (get_or front k d)) ≡ class_of (key x)) ⊎ (class_of (key (get_or front k d)) ≢ class_of (key x))
          → k < get_or (set ends (class_of (key x)) (length front + 1)) (class_of (key (get_or front k d))) 0
      kept k d l (inl same) = rw (same, get_or-set_same ends (class_of (key x)) (length front + 1) 0 within) (omega (arith, l))
      kept k d l (inr other) = rw (get_or-set_other ends (class_of (key x)) (class_of (key (get_or front k d))) (length front + 1) 0 other) (e.below k d l)

      ended : (c : ℕ) (d : F) → (c ≡ class_of (key x)) ⊎ (c ≢ class_of (key x)) → 0 < get_or (set ends (class_of (key x)) (length front + 1)) c 0
          → (get_or (set ends (class_of (key x)) (length front + 1)) c 0 ≤ length (front ++ x ∷ []))
          × (class_of (key (get_or (front ++ x ∷ []) (get_or (set ends (class_of (key x)) (length front + 1)) c 0 - 1) d)) ≡ c)
      ended c d (inl same) l =
          let at : length front + 1 - 1 ≡ length front = omega arith in
          rw (same, get_or-set_same ends (class_of (key x)) (length front + 1) 0 within, at, get_or_append_here front x [] d) (omega (arith, length-append front (x ∷ [])), refl)
      ended c d (inr other) l =
          let some : 0 < get_or ends c 0 = rw (get_or-set_other ends (class_of (key x)) c (length front + 1) 0 other) at l in
          let old = e.last c d some in
          rw (get_or-set_other ends (class_of (key x)) c (length front + 1) 0 other, get_or_append_left front (x ∷ []) d (get_or ends c 0 - 1) (omega (arith, some, old.0)))
          (omega (arith, old.0, length-append front (x ∷ [])), old.1)

  -- a fact in the last of its class lies in one
  pub lies_found : (facts : List F) (end : ℕ) (x : F) → end ≤ length facts → (if end == 0 then false else within x (get_or facts (end - 1) x)) ≡ true → LiesInOne within (take end facts) x
  lies_found facts end x l h = one (cases_eq end 0)
    where
      one : (end ≡ 0) ⊎ (end ≢ 0) → LiesInOne within (take end facts) x
      one (inl z) = absurd (false≢true (rw (eq-eqb end 0 z) at h))
      one (inr n) =
          let at : end - 1 < length (take end facts) = omega (arith, l, n, length-take end facts) in
          (get_or facts (end - 1) x, subst (Contains (take end facts)) (get_or-take end facts (end - 1) x (omega (arith, n))) (Contains-get_or (take end facts) (end - 1) x at), rw (ne_eqb end 0 n) at h)

  pub step_ends : (facts : List F) (kept : ℕ) (x : F) (ends : List ℕ) → kept < length facts → class_of (key x) < length ends → AreEnds key (take kept facts) ends
      → AreEnds key (take (kept + 1) (set facts kept x)) (set ends (class_of (key x)) (kept + 1))
  step_ends facts kept x ends l within e =
      let size : length (take kept facts) ≡ kept = omega (arith, l, length-take kept facts) in
      rw (take_more_set facts kept x l) (subst (λ n. AreEnds key (take kept facts ++ x ∷ []) (set ends (class_of (key x)) (n + 1))) size (ends_push (take kept facts) x ends within e))

  pub step_alone : (old facts : List F) (kept i : ℕ) (x : F) (ends : List ℕ) → kept ≤ length facts → AreEnds key (take kept facts) ends → drop i old ≡ x ∷ drop (i + 1) old
      → IsPruned key within old (take kept facts) (drop i old)
      → (if get_or ends (class_of (key x)) 0 == 0 then false else within x (get_or facts (get_or ends (class_of (key x)) 0 - 1) x)) ≡ false
      → NestAsRanges key within → AreAlone within (take kept facts ++ x ∷ [])
  step_alone old facts kept i x ends l e is h free nest =
      alone_push (take kept facts) x (drop (i + 1) old) ends e (rw is at h.ascends) (one (cases_eq (get_or ends (class_of (key x)) 0) 0)) nest (h.alone nest)
    where
      one : (get_or ends (class_of (key x)) 0 ≡ 0) ⊎ (get_or ends (class_of (key x)) 0 ≢ 0)
          → (if get_or ends (class_of (key x)) 0 == 0 then false else within x (get_or (take kept facts) (get_or ends (class_of (key x)) 0 - 1) x)) ≡ false
      one (inl z) = rw (eq-eqb (get_or ends (class_of (key x)) 0) 0 z) refl
      one (inr n) =
          let last = (e.last (class_of (key x)) x (omega (arith, n))).0 in
          let at : get_or (take kept facts) (get_or ends (class_of (key x)) 0 - 1) x ≡ get_or facts (get_or ends (class_of (key x)) 0 - 1) x =
          get_or-take kept facts (get_or ends (class_of (key x)) 0 - 1) x (omega (arith, n, last, l, length-take kept facts)) in
          rw at free
