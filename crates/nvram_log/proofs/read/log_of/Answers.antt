use Rattle.nvram_log.proofs.Prelude.{◌≡◌, ◌∙◌, ◌⊎◌, inl, inr, ◌+◌, ◌^◌, ◌<◌, ℕ, List, [], ◌∷◌, length, length-replicate, arith, refl, ap, subst, AreGathered, AreNumbered, IsSeenOf, IsThere, NoneThere, Logged}
use Rattle.std.specs.Prelude.{Option}
use Rattle.nvram_log.proofs.Lists.{some_at}
use Rattle.nvram_log.proofs.read.log_of.Goals as goal

-- the last number is one
number_fits : (first second : List (Option Logged)) (flushed i : ℕ) (l : Logged) → AreNumbered flushed first → AreNumbered flushed second → IsThere first i l ⊎ (NoneThere first i × IsThere second i l) → flushed + 1 + i < 2 ^ 64
number_fits first second flushed i l one two (inl there) = (one i l there).lawful.fits
number_fits first second flushed i l one two (inr there) = (two i l there.1).lawful.fits

numbers_fit : (first second : List (Option Logged)) (records : List Logged) (flushed : ℕ) → AreNumbered flushed first → AreNumbered flushed second → AreGathered first second records → flushed < 2 ^ 64 → flushed + length records < 2 ^ 64
numbers_fit first second [] flushed one two are fits = omega (arith, fits)
numbers_fit first second (x ∷ records) flushed one two are fits =
    let some = some_at (x ∷ records) (length records) (omega arith) in
    omega (arith, number_fits first second flushed (length records) some.0 one two (are.each (length records) some.0 some.1))

pub invariant_of-result : goal.invariant_of-result
invariant_of-result c = record {
  room = c.gather-count.ensures.slots;
  numbers = omega (arith, c.gather-count.ensures.count, numbers_fit c.deref_mut.result.now c.deref_mut-2.result.now c.gather-count.new.records.items c.args.flushed (rw c.deref_mut.ensures.value c.requires.first) (rw c.deref_mut-2.ensures.value c.requires.second) c.gather-count.ensures.gathered c.ranges.flushed.fits);
  slot_size = ap (length {A = ℕ}) (c.in_ok-slot.ensures.items_if_clones_equal (λ y e. e)) ∙ length-replicate {A = ℕ} 33280 0;
}

pub returns : goal.returns
returns c = record {
  log = record {
    flushed_is = refl;
    members_are = refl;
    count_is = c.gather-count.ensures.count;
    gathered = rw (← c.deref_mut.ensures.value, ← c.deref_mut-2.ensures.value) c.gather-count.ensures.gathered;
    first_seen = λ s at. subst (IsSeenOf c.args.reads.first) (let e : c.seen_of.result ≡ s = cc at in e) c.seen_of.ensures;
    second_seen = λ s at. subst (IsSeenOf c.args.reads.second) (let e : c.seen_of-2.result ≡ s = cc at in e) c.seen_of-2.ensures;
  };
}
