-- What the devices show later is what they might have shown.
use Rattle.array_spec.proofs.Prelude.{arith, Option, Some, ◌≡◌, inl, inr, ℕ, List, length, sym, ◌∙◌, ap, subst, nat_tests, length-replicate, zeros, Geometry, Image, View, Condition, Conditions, Sound, Missing, LeftOut, MayShowAs, MayBecome, Device, ShownStands, IsViewOf, MayAppear, MayBeGiven}

some_is : {a b : List ℕ} → Some a ≡ Some b → a ≡ b
some_is {a} {b} e = cc e

shows_twice : (c d : Condition) (old new : List ℕ) (shown : Option (List ℕ)) → MayBecome c d → MayShowAs c old (Some new) → MayShowAs d new shown → MayShowAs d old shown
shows_twice Sound Sound old new shown w first next = next ∙ first
shows_twice Sound Missing old new shown w first next = subst (λ (b : List ℕ). MayShowAs Missing b shown) (some_is first) next
shows_twice Sound LeftOut old new shown w first next = subst (λ (b : List ℕ). MayShowAs LeftOut b shown) (some_is first) next
shows_twice Missing d old new shown w first next = subst (λ (x : Condition). MayShowAs x old shown) (sym w) (blank first (subst (λ (x : Condition). MayShowAs x new shown) w next))
  where
    blank : MayShowAs Missing old (Some new) → MayShowAs Missing new shown → MayShowAs Missing old shown
    blank (inl e) n = subst (λ (b : List ℕ). MayShowAs Missing b shown) (some_is e) n
    blank (inr (inl e)) (inl n) = inr (inl (n ∙ e))
    blank (inr (inl e)) (inr (inl n)) = inr (inl (n ∙ ap (λ (b : List ℕ). Some (zeros (length b))) (some_is e) ∙ ap (λ (k : ℕ). Some (zeros k)) (length-replicate _ _)))
    blank (inr (inl e)) (inr (inr n)) = inr (inr n)
    blank (inr (inr e)) n = absurd (cc e)
shows_twice LeftOut d old new shown w first next = grind (arith, nat_tests)

sound_is : (c d : Condition) (old new : List ℕ) → MayBecome c d → d ≡ Sound → MayShowAs c old (Some new) → Some new ≡ Some old
sound_is Sound d old new w e first = first
sound_is Missing d old new w e first = absurd (cc (w, e))
sound_is LeftOut d old new w e first = absurd (cc (w, e))

module _ (shelf : Geometry) (old new : Image) (missing : Conditions) (shows : (device : Device) → MayShowAs (missing device) (old device) (Some (new device))) where
  pub view_before : {more : Conditions} {view : View} → IsViewOf shelf new missing more view → IsViewOf shelf old missing more view
  view_before {more} {view} v = grind (arith, nat_tests, shows_twice)

  pub appears_before : {more : Conditions} {view : View} → MayAppear shelf new missing more view → MayAppear shelf old missing more view
  appears_before {more} {view} v = grind (arith, nat_tests, sound_is)

  pub given_before : {slot : _} {boot : _} → MayBeGiven shelf new missing slot boot → MayBeGiven shelf old missing slot boot
  given_before g = record { more = g.more; view = g.view; appears = appears_before g.appears; lawful = g.lawful; effective = g.effective }

pub shown_stands : ShownStands
shown_stands shelf old new missing arrays shows s = record {
  bearable = s.bearable;
  some = s.some;
  gives = λ more view v. s.gives more view (appears_before shelf old new missing shows v);
  reads = λ slot boot g.
      let reading = s.reads slot boot (given_before shelf old new missing shows g) in
      record { base = reading.base; each = λ more view v. reading.each more view (view_before shelf old new missing shows v) };
  agree = λ slot slot2 boot boot2 g g2.
      let both = s.agree slot slot2 boot boot2 (given_before shelf old new missing shows g) (given_before shelf old new missing shows g2) in
      record { in_order = both.in_order; same_base = both.same_base; no_log = λ less more view v. both.no_log less more view (view_before shelf old new missing shows v) };
}
