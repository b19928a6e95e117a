-- What facts say at a key is one of them.
use Rattle.std.proofs.Common.{◌≡◌, ℕ, List, [], ◌∷◌, ◌∙◌, refl, subst, Bool, true, false, cond}
use Rattle.std.specs.Prelude.{Option, Some, None, option_and_then}
use Rattle.std.specs.List.{AllByRecursion}
use Rattle.std.proofs.lemmas.Bool.{eqb-true}
use Rattle.pur_base.specs.Keys.{id_of}
use Rattle.pur_base.specs.Says.{newest, newer, has_key, unless_empty, says}

-- what holds of each fact holds of the newest, which passes the test
pub newest_is : {F : Type 0} (number : F → ℕ) (P : F → Type 0) (test : F → Bool) (fs : List F) (f : F) → AllByRecursion P fs → newest number test fs ≡ Some f → P f × (test f ≡ true)
newest_is number P test [] f all e = cc
newest_is {F} number P test (g ∷ gs) f all e = one (test g) (newest number test gs) refl refl (λ h e2. newest_is number P test gs h all.1 e2) e
  where
    same_some : (a b : F) → Some a ≡ Some b → a ≡ b
    same_some a b e2 = cc

    Rest : Type 0
    Rest = (h : F) → newest number test gs ≡ Some h → P h × (test h ≡ true)

    picked : (h : F) (b : Bool) → newest number test gs ≡ Some h → test g ≡ true → Rest → cond b (Some h) (Some g) ≡ Some f → P f × (test f ≡ true)
    picked h true e2 passes rest is = subst (λ x. P x × (test x ≡ true)) (same_some h f is) (rest h e2)
    picked h false e2 passes rest is = subst (λ x. P x × (test x ≡ true)) (same_some g f is) (all.0, passes)

    one : (b : Bool) (o : Option F) → test g ≡ b → newest number test gs ≡ o → Rest → cond b (newer number g o) o ≡ Some f → P f × (test f ≡ true)
    one true None passes e2 rest is = subst (λ x. P x × (test x ≡ true)) (same_some g f is) (all.0, passes)
    one true (Some h) passes e2 rest is = picked h _ e2 passes rest is
    one false o nope e2 rest is = rest f (e2 ∙ is)

-- and what they say at a key is a fact of that key
pub says_is : {F : Type 0} (key number : F → ℕ) (empty : F → Bool) (P : F → Type 0) (fs : List F) (elided : ℕ → Bool) (k : ℕ) (f : F)
    → AllByRecursion P fs → says key number empty fs elided k ≡ Some f → P f × (key f ≡ k)
says_is {F} key number empty P fs elided k f all e = one (elided (id_of k)) (newest number (has_key key k) fs) refl (λ g. newest_is number P (has_key key k) fs g all) e
  where
    Known : Type 0
    Known = (g : F) → newest number (has_key key k) fs ≡ Some g → P g × (has_key key k g ≡ true)

    same_some : (a b : F) → Some a ≡ Some b → a ≡ b
    same_some a b e2 = cc

    kept : (g : F) (b : Bool) → P g × (has_key key k g ≡ true) → cond b None (Some g) ≡ Some f → P f × (key f ≡ k)
    kept g true known is = cc
    kept g false known is = subst (λ x. P x × (key x ≡ k)) (same_some g f is) (known.0, eqb-true (key g) k known.1)

    found : (o : Option F) → newest number (has_key key k) fs ≡ o → Known → option_and_then (unless_empty empty) o ≡ Some f → P f × (key f ≡ k)
    found None e2 known is = cc
    found (Some g) e2 known is = kept g (empty g) (known g e2) is

    one : (b : Bool) (o : Option F) → newest number (has_key key k) fs ≡ o → Known → cond b None (option_and_then (unless_empty empty) o) ≡ Some f → P f × (key f ≡ k)
    one true o e2 known is = cc
    one false o e2 known is = found o e2 known is
