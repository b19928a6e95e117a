-- The log that a view shows, from commands that were read and applied one after another.
use Rattle.takeover.proofs.Prelude.{nat_tests, ◌≡◌, inl, inr, ℕ, zero, suc, ◌+◌, ◌<◌, ◌≤◌, List, [], ◌∷◌, length, take, refl, sym, ◌∙◌, subst, arith, Some, slice_get, slice_get_within, slice_get_cases, Command, Accepts, AllAccepted, after, after_all, View, Array, Shows, IsInSlot, LogFrom, LogStands, DevicesAgree, shower, one_shown, one_in_slot, same_lists, HasRead, NvLog, IsRun}
use Rattle.std.proofs.Common.{append-nil}
use Rattle.log_codec.specs.Prelude.{Spells, slot_bytes}
use Rattle.log_codec.proofs.OneHead.{one_command}
use Rattle.nvram_log.specs.Logged.{IsReadAt}
use Rattle.nvram_log.specs.declared.logged.Logged.{Logged}
use Rattle.nvram_log.proofs.Lists.{get_front}

pub log_from : (view : View) (flushed i : ℕ) (a : Array) (cs : List Command) → ((k : ℕ) (c : Command) → slice_get cs k ≡ Some c → IsInSlot view flushed (i + k) c) → AllAccepted a cs
    → ((c : Command) → IsInSlot view flushed (i + length cs) c → ¬ (Accepts (after_all a cs) c)) → LogFrom view flushed i a cs
log_from view flushed i a [] placed accepted ends = λ c s. let e : i ≡ i + 0 = omega arith in ends c (subst (λ (n : ℕ). IsInSlot view flushed n c) e s)
log_from view flushed i a (c ∷ cs) placed accepted ends =
    let e : i + 0 ≡ i = omega arith in (
      subst (λ (n : ℕ). IsInSlot view flushed n c) e (placed 0 c refl),
      accepted.0,
      log_from view flushed (suc i) (after a c) cs (λ k d at. let f : i + suc k ≡ suc i + k = omega arith in subst (λ (n : ℕ). IsInSlot view flushed n d) f (placed (suc k) d at)) accepted.1
          (λ d s. let f : suc i + length cs ≡ i + suc (length cs) = omega arith in ends d (subst (λ (n : ℕ). IsInSlot view flushed n d) f s)),
    )

-- a command of a front is one of the list
pub of_front : (count : ℕ) (commands : List Command) (k : ℕ) (c : Command) → slice_get (take count commands) k ≡ Some c → length (take count commands) ≡ count → slice_get commands k ≡ Some c
of_front count commands k c at size = grind (arith, nat_tests, slice_get_within, get_front)

-- the front that was accepted stands as the log
pub replayed_stands : (view : View) (flushed : ℕ) (base : Array) (commands : List Command) (count : ℕ) → IsRun base commands count → length (take count commands) ≡ count
    → ((k : ℕ) (c : Command) → slice_get commands k ≡ Some c → IsInSlot view flushed k c)
    → (length commands < 64 → (n : ℕ) (c : Command) → n < 2 → ¬ (Shows view n flushed (length commands) c))
    → count ≤ length commands → LogStands view flushed base (take count commands)
replayed_stands view flushed base commands count run size placed ends le =
    log_from view flushed 0 base (take count commands) (λ k c at. let e : k ≡ 0 + k = omega arith in subst (λ (n : ℕ). IsInSlot view flushed n c) e (placed k c (of_front count commands k c at size))) run.accepted last
  where
    refused_there : (c : Command) → IsInSlot view flushed count c → ¬ (Accepts (after_all base (take count commands)) c)
    refused_there c s fine = elim (slice_get_cases commands count).1 [
      | inl some ↦
          let same : c ≡ some.0 = one_in_slot view flushed count c some.0 s (placed count some.0 some.2) in
          run.refused some.0 some.2 (subst (λ (d : Command). Accepts (after_all base (take count commands)) d) same fine)
      | inr past ↦
          let at_end : count ≡ length commands = omega (arith, past.0, le) in
          let it = shower view flushed count c s in
          let below : count < 64 = it.2.slot in
          ends (omega (arith, at_end, below)) it.0 c it.1 (subst (λ (n : ℕ). Shows view it.0 flushed n c) at_end it.2)
    ]

    last : (c : Command) → IsInSlot view flushed (0 + length (take count commands)) c → ¬ (Accepts (after_all base (take count commands)) c)
    last c s = let e : 0 + length (take count commands) ≡ count = omega (arith, size) in refused_there c (subst (λ (n : ℕ). IsInSlot view flushed n c) e s)

-- devices that agree show one command in a slot
pub agrees : (m : View) (flushed : ℕ) → DevicesAgree m flushed → (n p i : ℕ) (c d : Command) → n < 2 → p < 2 → Shows m n flushed i c → Shows m p flushed i d → c ≡ d
agrees m flushed agree zero zero i c d low low2 s t = one_shown m 0 flushed i c d s t
agrees m flushed agree zero (suc zero) i c d low low2 s t = agree i c d s t
agrees m flushed agree (suc zero) zero i c d low low2 s t = sym (agree i d c t s)
agrees m flushed agree (suc zero) (suc zero) i c d low low2 s t = one_shown m 1 flushed i c d s t
agrees m flushed agree (suc (suc n)) p i c d low low2 s t = absurd (omega (arith, low))
agrees m flushed agree n (suc (suc p)) i c d low low2 s t = absurd (omega (arith, low2))

-- ---- the log depends on what the NVRAM devices show alone

-- what was read of a command spells it
spelled_whole : (records : List Logged) (k number : ℕ) (c : Command) (is : IsReadAt records k number c) → Spells is.logged.bytes.items number c
spelled_whole records k number c is = record { lawful = is.lawful; behind = []; text = is.read.text ∙ sym (append-nil (slot_bytes number c)) }

-- memory has read one log
pub one_read : (log : NvLog) (cs ds : List Command) → HasRead log cs → HasRead log ds → cs ≡ ds
one_read log cs ds first second = same_lists cs ds (first.count ∙ sym second.count) (λ k c d at at2.
    let a = first.each k c at in
    let b = second.each k d at2 in
    let same : b.logged ≡ a.logged = cc (a.at, b.at) in
    one_command a.logged.bytes.items _ c d (spelled_whole log.records.items k _ c a) (subst (λ (l : Logged). Spells l.bytes.items (log.flushed + 1 + k) d) same (spelled_whole log.records.items k _ d b)))
