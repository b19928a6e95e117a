-- A takeover forgets no device that was sound.
use Rattle.session_spec.proofs.Prelude.{◌≡◌, ◌⊎◌, inl, inr, ℕ, List, refl, sym, ◌∙◌, ap, subst, Bool, true, false, Option, Some, None, IsSome, IsBytes, Condition, Sound, Missing, LeftOut, MayShowAs, is_missing, BootRecord, BootSlot, of_members, IsViewOf, one_is_effective, spells_one, standing_means, missing_if, losing, TakeoverKeeps, TakeoverBears, goes, still_sound, borne_on}

shows : (c : Condition) (failed : Bool) (bytes : List ℕ) (shown : Option (List ℕ)) → IsBytes bytes → (shown ≡ Some bytes) ⊎ (shown ≡ None) → (shown ≡ None → failed ≡ true) → MayShowAs (missing_if failed c) bytes shown
shows Sound true bytes shown is (inl e) silent = inl e
shows Sound true bytes shown is (inr n) silent = inr (inr n)
shows Sound false bytes shown is (inl e) silent = e
shows Sound false bytes shown is (inr n) silent = absurd (cc (silent n))
shows Missing failed bytes shown is (inl e) silent = inl e
shows Missing failed bytes shown is (inr n) silent = inr (inr n)
shows LeftOut failed bytes shown is (inl e) silent = rw e (refl, is)
shows LeftOut failed bytes shown is (inr n) silent = rw n tt

isn't_there : IsSome {T = List ℕ} None → ⊥
isn't_there h = cc h

pub takeover_keeps : TakeoverKeeps
takeover_keeps shelf image missing after failed found arrays bytes stands bearable taken device on sound fine =
    let is_view : IsViewOf shelf image missing (losing failed missing) found.view = record {
      within = λ d. goes (failed d) (missing d);
      bearable = bearable;
      shown = λ d. shows (missing d) (failed d) (image d) (found.view d) (bytes d) (found.shown d) (taken.silent d);
    } in
    let one = (standing_means shelf image missing arrays stands).each (losing failed missing) found.view is_view in
    let e = one.effective in
    let f = found.effective in
    let same = one_is_effective shelf found.view e.slot f.slot _ _ e.effective f.effective in
    let boots : e.boot ≡ f.boot = spells_one shelf e.boot f.boot e.lawful f.lawful same.1 in
    let member : IsSome (of_members f.slot f.boot found.view device) =
    subst (λ (b : BootRecord). IsSome (of_members f.slot b found.view device)) boots
    (subst (λ (s : BootSlot). IsSome (of_members s e.boot found.view device)) same.0 (one.all_hold device on (still_sound (missing device) (failed device) sound fine))) in
    elim (taken.each device on) [
      | inl s ↦ s
      | inr (inr (gone, failed_then)) ↦ absurd (cc (failed_then, fine))
      | inr (inl (left_out, none)) ↦ absurd (isn't_there (subst (λ (o : Option (List ℕ)). IsSome o) none member))
    ]

-- a device of which a call failed, or that was missing, is missing in the takeover
lost_or_missing : (c : Condition) (failed : Bool) → (c ≡ Sound → failed ≡ false → ⊥) → is_missing (missing_if failed c) ≡ true
lost_or_missing Sound true h = refl
lost_or_missing Sound false h = absurd (h refl refl)
lost_or_missing _ failed h = refl

missing_isn't_sound : (c : Condition) → is_missing c ≡ true → c ≡ Sound → ⊥
missing_isn't_sound c m e = absurd (cc (sym m ∙ ap is_missing e))

pub takeover_bears : TakeoverBears
takeover_bears shelf image missing after failed found arrays bytes stands bearable taken = borne_on shelf after (losing failed missing)
    (λ d on gone. lost_or_missing (missing d) (failed d)
    (λ sound fine. missing_isn't_sound (after d) gone (takeover_keeps shelf image missing after failed found arrays bytes stands bearable taken d on sound fine)))
    bearable
