-- Sequence numbers of facts, as they rise and as they are marked.
use Rattle.table_soundness.proofs.Prelude.{nat_tests, ◌≡◌, ◌≢◌, ℕ, ◌+◌, ◌<◌, ◌≤◌, ◌↔◌, Bool, true, false, List, [], ◌∷◌, ◌++◌, length, map, get_or, take, sym, ◌∙◌, append_assoc, arith, inl, inr, All, false≢true, cases_lt, take_more, All-nil, All-weaker, facts_of, IsPast, all_right, all_unmap, pairs_nil, get_or_past, All-push, AreMarked, AreNumbersSound, EndAt, RiseTo}
use Rattle.pyramid.proofs.LoadLemmas.{rises_more}
use Rattle.pyramid.proofs.SpanLemmas.{facts_more}

module _ {F : Type 0} (number : F → ℕ) where
  -- one fact more
  pub end_push : (past end next : ℕ) (facts : List F) (x : F) → EndAt number past facts end → past ≤ number x → ((earlier : List F) → IsPast number earlier end → IsPast number (earlier ++ x ∷ []) next) → EndAt number past (facts ++ x ∷ []) next
  end_push past end next facts x h over goes = record {
    above = All-push (λ f. past ≤ number f) facts x h.above over;
    least = λ earlier is. rw (← append_assoc earlier facts (x ∷ [])) (goes (earlier ++ facts) (h.least earlier is));
  }

  -- one patch more
  pub rise_next : (key : F → ℕ) (ps : List (List F)) (i : ℕ) (p : List F) (past end : ℕ) → i < length ps → p ≡ get_or ps i p → RiseTo number (take i ps) past → EndAt number past p end → RiseTo number (take (i + 1) ps) end
  rise_next key ps i p past end l is h more = record {
    rising = rw (take_more ps i p l, ← is) (rises_more number (take i ps) p past h.least more.above h.rising);
    least = rw (facts_more key number ps i p l is) (more.least (facts_of (take i ps)) h.least);
  }

  -- the least number past all of them tells which bounds they have
  pub below_past : (facts : List F) (past next : ℕ) → IsPast number facts past → (past ≤ next) ↔ All (λ f. number f < next) facts
  below_past facts past next h = grind (arith, nat_tests)

  pub sound_from_marks : (n : ℕ) (earlier : List ℕ) (ps : List (List F)) (past : ℕ) (marks : List Bool) → length marks ≡ n → RiseTo number ps past → AreMarked (earlier ++ map number (facts_of ps)) marks → AreNumbersSound number n earlier ps
  sound_from_marks n earlier ps past marks long up h = record {
    below = all_unmap (λ m. m < n) number (facts_of ps) (All-weaker (λ m. get_or marks m false ≡ true) (λ m. m < n) within (map number (facts_of ps)) (all_right (λ m. get_or marks m false ≡ true) earlier (map number (facts_of ps)) h.marked));
    distinct = h.distinct;
    rising = up.rising;
  }
    where
      within : (m : ℕ) → get_or marks m false ≡ true → m < n
      within m is = elim (cases_lt m n) [ inl less ↦ less | inr over ↦ absurd (false≢true (sym (get_or_past marks m false (omega (arith, over, long))) ∙ is)) ]

pub marked_none : (marks : List Bool) → AreMarked [] marks
marked_none marks = record { marked = All-nil (λ n. get_or marks n false ≡ true); distinct = pairs_nil (λ m n. m ≢ n) }
