-- Who holds the array along a way, and which conditions agree with the record on it.
use Rattle.array_core.proofs.Prelude.{nat_tests, ◌≡◌, ◌⊎◌, ◌∙◌, inl, inr, Bool, true, false, refl, arith, Device, Conditions, names, Rises, has_risen, Shelved, Continues, left_out_once, not_risen, Content, IsReady, IsHolder, lost_since, sound_since, AgreesFor, Causes, HandsOn}
use Rattle.boot_region.proofs.Stored.{rises_between}
use Rattle.array_core.specs.declared.array.Array.{Array}
use Rattle.array_core.proofs.ReadyStands.{ready_holds, ready_names}

pub unless : (b : Bool) → (b ≡ true → ⊥) → b ≡ false
unless true refuse = absurd (refuse refl)
unless false refuse = refl

-- ---- one way after another

module _ (why : Causes) (old mid new : Shelved) (a b c : Array) (on : Continues old mid) (after_it : Continues mid new) (first : HandsOn why old mid a b) (next : HandsOn why mid new b c) where
  leaves_second : (d : Device) → IsHolder c d ⊎ Rises (mid.disk d).write_faults (new.disk d).write_faults ⊎ (why.gone d ≡ true)
      → IsHolder c d ⊎ Rises (old.disk d).write_faults (new.disk d).write_faults ⊎ (why.gone d ≡ true)
  leaves_second d (inl holds) = inl holds
  leaves_second d (inr (inl rose)) = inr (inl (rises_between (old.disk d).write_faults (mid.disk d).write_faults (new.disk d).write_faults (new.disk d).write_faults (on.write_faults d) rose (omega arith)))
  leaves_second d (inr (inr gone)) = inr (inr gone)

  leaves_first : (d : Device) → IsHolder b d ⊎ Rises (old.disk d).write_faults (mid.disk d).write_faults ⊎ (why.gone d ≡ true)
      → IsHolder c d ⊎ Rises (old.disk d).write_faults (new.disk d).write_faults ⊎ (why.gone d ≡ true)
  leaves_first d (inl still) = leaves_second d (next.leaves d still)
  leaves_first d (inr (inl rose)) = inr (inl (rises_between (old.disk d).write_faults (old.disk d).write_faults (mid.disk d).write_faults (new.disk d).write_faults (omega arith) rose (after_it.write_faults d)))
  leaves_first d (inr (inr gone)) = inr (inr gone)

  holds_first : (d : Device) → IsHolder b d ⊎ (why.joined d ≡ true) → IsHolder a d ⊎ (why.joined d ≡ true)
  holds_first d (inl holds) = first.holders d holds
  holds_first d (inr joined) = inr joined

  named_behind : (d : Device) → IsHolder a d ⊎ (why.joined d ≡ true) → (names a.register.record d ≡ true) ⊎ IsHolder a d ⊎ (why.joined d ≡ true)
  named_behind d (inl holds) = inr (inl holds)
  named_behind d (inr joined) = inr (inr joined)

  named_first : (d : Device) → (names b.register.record d ≡ true) ⊎ IsHolder b d ⊎ (why.joined d ≡ true) → (names a.register.record d ≡ true) ⊎ IsHolder a d ⊎ (why.joined d ≡ true)
  named_first d (inl named) = first.named d named
  named_first d (inr (inl holds)) = named_behind d (first.holders d holds)
  named_first d (inr (inr joined)) = inr (inr joined)

  unlost_then : (d : Device) → IsHolder b d ⊎ (why.joined d ≡ true) → ((new.disk d).write_faults ≡ (mid.disk d).write_faults) ⊎ (why.joined d ≡ true) → ((new.disk d).write_faults ≡ (old.disk d).write_faults) ⊎ (why.joined d ≡ true)
  unlost_then d (inl held) (inl same) = elim (first.unlost d held) [ inl before ↦ inl (same ∙ before) | inr joined ↦ inr joined ]
  unlost_then d (inr joined) same = inr joined
  unlost_then d (inl held) (inr joined) = inr joined

  pub hands_on_then : HandsOn why old new a c
  hands_on_then = grind (arith, nat_tests, leaves_first, holds_first, named_first, unlost_then)

-- ---- conditions that agree

module _ (why : Causes) (old mid : Shelved) (a b : Array) (held next : Content) (ready : IsReady old a held) (ready_then : IsReady mid b next) (hands : HandsOn why old mid a b) where
  still_named : (d : Device) → IsHolder b d ⊎ Rises (old.disk d).write_faults (mid.disk d).write_faults ⊎ (why.gone d ≡ true) → has_risen (old.disk d).write_faults (mid.disk d).write_faults ≡ false → why.gone d ≡ false
      → names b.register.record d ≡ true
  still_named d (inl holds) none stays = ready_names mid b next ready_then d holds
  still_named d (inr (inl rose)) none stays = absurd (not_risen (old.disk d).write_faults (mid.disk d).write_faults none rose)
  still_named d (inr (inr gone)) none stays = absurd (cc (gone, stays))

  was_unnamed : (d : Device) → (names a.register.record d ≡ true) ⊎ IsHolder a d ⊎ (why.joined d ≡ true) → names a.register.record d ≡ false → why.joined d ≡ false → ⊥
  was_unnamed d (inl named) out stays = cc (named, out)
  was_unnamed d (inr (inl holds)) out stays = cc (ready_names old a held ready d holds, out)
  was_unnamed d (inr (inr joined)) out stays = cc (joined, stays)

  -- and so they agree behind the way, where devices that lost a write went missing
  pub agrees_then : (now : Conditions) → AgreesFor why a.register.record now → AgreesFor why b.register.record (lost_since old mid now)
  agrees_then now agrees = record {
    sound = λ d e.
        let before = sound_since (has_risen (old.disk d).write_faults (mid.disk d).write_faults) (now d) e in
        let was = agrees.sound d before.0 in
        (still_named d (hands.leaves d (ready_holds old a held ready d was.0)) before.1 was.1, was.1);
    left_out = λ d e.
        let was = agrees.left_out d (left_out_once (has_risen (old.disk d).write_faults (mid.disk d).write_faults) (now d) e) in
        (unless (names b.register.record d) (λ is. was_unnamed d (hands.named d is) was.0 was.1), was.1);
  }
