-- How many bytes were taken and are left, call after call, and whether the input has ended.
use Rattle.request_codec.proofs.Prelude.{◌≡◌, ◌⊎◌, inl, inr, ℕ, ◌+◌, [], sym, ◌∙◌, Ahead, Stops, Totals}

-- none was probed, whatever the ends are called
pub totals-well : {A B : Type 0} {taken taken_after left left_after : ℕ} → (A → ⊥) → (B → ⊥) → Totals A taken taken_after left left_after → Totals B taken taken_after left left_after
totals-well off none t = record { same = λ h. t.same off; most = λ b. absurd (none b); probed = λ b. absurd (none b) }

-- one was probed
pub totals-limit : {A B : Type 0} {taken taken_after left left_after : ℕ} → A → B → Totals A taken taken_after left left_after → Totals B taken taken_after left left_after
totals-limit is so t = record { same = λ h. absurd (h so); most = λ b. t.most is; probed = λ b. t.probed is }

-- a call behind others that probed none
pub totals-behind : {B : Type 0} {taken taken_between taken_after left left_between left_after : ℕ} → taken_between + left_between ≡ taken + left
    → Totals B taken_between taken_after left_between left_after → Totals B taken taken_after left left_after
totals-behind first last = record { same = λ h. last.same h ∙ first; most = last.most; probed = λ b. sym first ∙ last.probed b }

-- it is neither the end nor the limit
pub stops-neither : {A B C : Type 0} {ahead : Ahead} → (A → ⊥) → (B → ⊥) → (C → ⊥) → Stops (A ⊎ B) C ahead
stops-neither off away none = record {
  end = λ e. elim e [
    | inl a ↦ absurd (off a)
    | inr b ↦ absurd (away b)
  ];
  limit = λ c. absurd (none c);
}

-- it is the limit
pub stops-limit : {A B C : Type 0} {ahead : Ahead} → (A → ⊥) → (B → ⊥) → ahead.pending ≡ [] → Stops (A ⊎ B) C ahead
stops-limit off away none = record {
  end = λ e. elim e [
    | inl a ↦ absurd (off a)
    | inr b ↦ absurd (away b)
  ];
  limit = λ c. none;
}
