-- Spans that are opened within one another lie apart or in one another.
use Rattle.table_soundness.proofs.Prelude.{nat_tests, ◌≡◌, ◌⊎◌, ℕ, ◌+◌, ◌-◌, ◌<◌, ◌≤◌, ◌∙◌, List, [], ◌∷◌, ◌++◌, length, get_or, take, sym, ap, subst, arith, inl, inr, All, AllPairs, Contains, take_all, length-take, get_or-take, IsNonDecreasingBy, cases_lt, get_or_default, take_more, All-nil, All-cons, Contains-append_left, Contains-append_right, Contains-append_cases, Contains-get_or, here, either, nowhere, all_contained, Span, rank, FitSpans, IsPut, IsRefused, IsSpan, pairs_cons, pairs_join, pairs_nil}
use Rattle.table_soundness.proofs.SpanLemmas.{before_at}

abbrev pub Falls : ℕ → ℕ → Type 0
Falls a b = b ≤ a

-- what stands in the first elements
of_take : {X : Type 0} (n : ℕ) (xs : List X) (x : X) → Contains (take n xs) x → (k : ℕ) × (k < n) × (k < length xs) × (get_or xs k x ≡ x)
of_take n xs x c = grind (arith, nat_tests, length-take, get_or-take)

in_take : {X : Type 0} (n : ℕ) (xs : List X) (k : ℕ) (x : X) → k < n → k < length xs → get_or xs k x ≡ x → Contains (take n xs) x
in_take n xs k x under within at =
    let len = length-take n xs in
    (k, omega (arith, under, within, len), get_or-take n xs k x under ∙ at)

-- the first spans lie apart or in one another; those that aren't ended lie in one another, and these are their ends
pub record IsOpen (spans : List Span) (n : ℕ) (ends : List ℕ) : Type 0 where
  pub falls : AllPairs Falls ends
  pub source : (e : ℕ) → Contains ends e → (p : Span) × Contains (take n spans) p × (p.end ≡ e)
  pub kept : (p : Span) → Contains (take n spans) p → Contains ends p.end ⊎ ((j : ℕ) (d : Span) → n ≤ j → j < length spans → p.end + 1 < (get_or spans j d).start)
  pub fit : AllPairs FitSpans (take n spans)

pub open_none : (spans : List Span) → IsOpen spans 0 []
open_none spans = grind (arith, nat_tests, pairs_nil, nowhere)

pub all_fit : (spans : List Span) (n : ℕ) (ends : List ℕ) → length spans ≤ n → IsOpen spans n ends → AllPairs FitSpans spans
all_fit spans n ends le h = subst (λ ps. AllPairs FitSpans ps) (take_all n spans le) h.fit

module _ (spans : List Span) (sorted : IsNonDecreasingBy rank spans) (all : All IsSpan spans) where
  module _ (n : ℕ) (ends : List ℕ) (x : Span) (l : n < length spans) (is : x ≡ get_or spans n x) (open_now : IsOpen spans n ends) where
    -- of the first spans each begins no later, and of those that begin there none ends earlier
    earlier : (p : Span) → Contains (take n spans) p → (p.start ≤ x.start) × (p.start ≡ x.start → x.end ≤ p.end) × IsSpan p
    earlier p c =
        let at = of_take n spans p c in
        let b = before_at spans sorted all at.0 n x (let u = at.1 in omega (arith, u)) l in
        let first : get_or spans at.0 x ≡ p = get_or_default spans at.0 x p at.2 ∙ at.3 in
        let last : get_or spans n x ≡ x = sym is in (
          subst (λ s. s.start ≤ x.start) first (subst (λ t. (get_or spans at.0 x).start ≤ t.start) last b.start),
          subst (λ s. s.start ≡ x.start → x.end ≤ s.end) first (subst (λ t. (get_or spans at.0 x).start ≡ t.start → t.end ≤ (get_or spans at.0 x).end) last b.end),
          subst IsSpan first (all at.0 x at.2),
        )

    mine : IsSpan x
    mine = subst IsSpan (sym is) (all n x l)

    next : take (n + 1) spans ≡ take n spans ++ x ∷ []
    next = take_more spans n x l ∙ ap (λ (y : Span). take n spans ++ y ∷ []) (sym is)

    pub open_refused : IsRefused x ends → AllPairs FitSpans spans → ⊥
    open_refused r fits =
        let e = get_or ends r.at 0 in
        let from = open_now.source e (Contains-get_or ends r.at 0 r.within) in
        let p = from.0 in
        let low = earlier p from.1 in
        let at = of_take n spans p from.1 in
        let first : get_or spans at.0 x ≡ p = get_or_default spans at.0 x p at.2 ∙ at.3 in
        let fit = subst (λ s. FitSpans s x) first (subst (λ t. FitSpans (get_or spans at.0 x) t) (sym is) (fits at.0 n x at.1 l)) in
        let begun = r.begun in
        let passed = r.passed in
        let end = from.2 in
        let start = low.0 in
        let order = low.2.order in
        let own = mine.order in
        elim fit [
          | inl a ↦ omega (arith, a, begun, end)
          | inr rest ↦ elim rest [
            | inl a ↦ omega (arith, a, start, own)
            | inr more ↦ elim more [
              | inl a ↦ let b = a.1 in omega (arith, b, passed, end)
              | inr a ↦
                  let b = a.0 in
                  let same : p.start ≡ x.start = omega (arith, b, start) in
                  let c = low.1 same in
                  omega (arith, c, passed, end)
            ]
          ]
        ]

    module _ (new : List ℕ) (put : IsPut x ends new) where
      -- the span ends no later than those that stay open
      inside : (i : ℕ) → i < put.count → x.end ≤ get_or ends i 0
      inside i under =
          let some : 0 < put.count = omega (arith, under) in
          let least = put.inside some in
          let within = put.within in
          elim (cases_lt i (put.count - 1)) [
            | inl low ↦ let f = open_now.falls i (put.count - 1) 0 low (omega (arith, within, some)) in omega (arith, f, least)
            | inr high ↦ let same : put.count - 1 ≡ i = omega (arith, high, under) in subst (λ m. x.end ≤ get_or ends m 0) same least
          ]

      inside_all : (e : ℕ) → Contains (take put.count ends) e → x.end ≤ e
      inside_all e c =
          let at = of_take put.count ends e c in
          let same : get_or ends at.0 0 ≡ e = get_or_default ends at.0 0 e at.2 ∙ at.3 in
          subst (λ m. x.end ≤ m) same (inside at.0 at.1)

      -- an earlier span is ended, or the new one lies in it
      either_way : (p : Span) → Contains (take n spans) p → (p.end + 1 < x.start) ⊎ (Contains (take put.count ends) p.end)
      either_way p c = elim (open_now.kept p c) [
        | inl d ↦ elim (cases_lt d.0 put.count) [
          | inl under ↦ inr (in_take put.count ends d.0 p.end under d.1 d.2)
          | inr over ↦
              let done = put.ended d.0 over d.1 in
              let same : get_or ends d.0 0 ≡ p.end = get_or_default ends d.0 0 p.end d.1 ∙ d.2 in
              inl (omega (arith, done, same))
        ]
        | inr f ↦ inl (subst (λ s. p.end + 1 < s.start) (sym is) (f n x (omega arith) l))
      ]

      falls_all : (xs : List ℕ) (i : ℕ) → AllPairs Falls xs → AllPairs Falls (take i xs)
      falls_all xs i h a b d low m =
          let len = length-take i xs in
          subst (λ u. u ≤ get_or (take i xs) a d) (sym (get_or-take i xs b d (omega (arith, m, len))))
          (subst (λ v. get_or xs b d ≤ v) (sym (get_or-take i xs a d (omega (arith, low, m, len)))) (h a b d low (omega (arith, m, len))))

      fits_one : (p : Span) → Contains (take n spans) p → FitSpans p x
      fits_one p c = elim (either_way p c) [
        | inl done ↦ inl done
        | inr d ↦ inr (inr (inl ((earlier p c).0, inside_all p.end d)))
      ]

      now : IsOpen spans (n + 1) (take put.count ends ++ x.end ∷ [])
      now = record {
        falls = pairs_join Falls (take put.count ends) (x.end ∷ []) (falls_all ends put.count open_now.falls) (pairs_cons Falls x.end [] (All-nil (Falls x.end)) (pairs_nil Falls))
            (all_contained (λ e. All (Falls e) (x.end ∷ [])) (take put.count ends) (λ e c. All-cons (Falls e) x.end [] (inside_all e c) (All-nil (Falls e))));
        source = λ e c. subst (λ ps. (p : Span) × Contains ps p × (p.end ≡ e)) (sym next) (elim (Contains-append_cases (take put.count ends) (x.end ∷ []) e c) [
          | inl d ↦
              let at = of_take put.count ends e d in
              let from = open_now.source e (at.0, at.2, at.3) in
              (from.0, Contains-append_left (take n spans) (x ∷ []) from.0 from.1, from.2)
          | inr d ↦ elim (either x.end e [] d) [
            | inl same ↦ (x, Contains-append_right (take n spans) (x ∷ []) x (here x []), sym same)
            | inr none ↦ absurd (nowhere e none)
          ]
        ]);
        kept = λ p c. elim (Contains-append_cases (take n spans) (x ∷ []) p (subst (λ ps. Contains ps p) next c)) [
          | inl d ↦ elim (either_way p d) [
            | inl done ↦ inr (λ j e low m.
                let b = (before_at spans sorted all n j x (omega (arith, low)) m).start in
                let same : get_or spans j x ≡ get_or spans j e = get_or_default spans j x e m in
                subst (λ s. p.end + 1 < s.start) same (let first : (get_or spans n x).start ≡ x.start = ap (λ s. s.start) (sym is) in omega (arith, b, done, first)))
            | inr d2 ↦ inl (Contains-append_left (take put.count ends) (x.end ∷ []) p.end d2)
          ]
          | inr d ↦ elim (either x p [] d) [
            | inl same ↦ inl (subst (λ e. Contains (take put.count ends ++ x.end ∷ []) e) (ap (λ s. s.end) (sym same)) (Contains-append_right (take put.count ends) (x.end ∷ []) x.end (here x.end [])))
            | inr none ↦ absurd (nowhere p none)
          ]
        ];
        fit = subst (λ ps. AllPairs FitSpans ps) (sym next) (pairs_join FitSpans (take n spans) (x ∷ []) open_now.fit (pairs_cons FitSpans x [] (All-nil (FitSpans x)) (pairs_nil FitSpans))
            (all_contained (λ p. All (FitSpans p) (x ∷ [])) (take n spans) (λ p c. All-cons (FitSpans p) x [] (fits_one p c) (All-nil (FitSpans p)))));
      }

      pub open_put : IsOpen spans (n + 1) new
      open_put = subst (IsOpen spans (n + 1)) (sym put.value) now

  pub open_next : (n : ℕ) (ends new : List ℕ) (d : Span) → n < length spans → IsOpen spans n ends → IsPut (get_or spans n d) ends new → IsOpen spans (n + 1) new
  open_next n ends new d l h put = open_put n ends (get_or spans n d) l (get_or_default spans n d (get_or spans n d) l) h new put

  pub refused_next : (n : ℕ) (ends : List ℕ) (d : Span) → n < length spans → IsOpen spans n ends → IsRefused (get_or spans n d) ends → AllPairs FitSpans spans → ⊥
  refused_next n ends d l h r fits = open_refused n ends (get_or spans n d) l (get_or_default spans n d (get_or spans n d) l) h r fits
