-- The commands of a log are counted, one after another.
use Rattle.shelf_look.proofs.Prelude.{◌≡◌, inl, inr, ◌∙◌, ◌≤◌, ℕ, zero, suc, ◌+◌, ◌<◌, List, [], ◌∷◌, length, take, get_or, sym, ap, arith, Bool, true, false, cond, Some, slice_get, count_by, cases_Bool, count_by_more_no, count_by_more_yes, Command, Request, NvLog, HasRead, AreWaiting, CountsOne, is_clone, is_copy, is_create, is_destroy, is_fill, is_snapshot, is_write, is_zero}
use Rattle.std.proofs.lemmas.Option.{slice_get_cases}
use Rattle.shelf_look.specs.declared.waiting.Waiting.{Waiting}

get_at : (cs : List Command) (i : ℕ) (c d : Command) → slice_get cs i ≡ Some c → get_or cs i d ≡ c
get_at [] i c d at = absurd (cc at)
get_at (x ∷ xs) zero c d at = cc at
get_at (x ∷ xs) (suc i) c d at = get_at xs i c d at

below : (cs : List Command) (i : ℕ) (c : Command) → slice_get cs i ≡ Some c → i < length cs
below [] i c at = absurd (cc at)
below (x ∷ xs) zero c at = omega arith
below (x ∷ xs) (suc i) c at = omega (arith, below xs i c at)

count_more : (p : Command → Bool) (cs : List Command) (i : ℕ) (c : Command) → slice_get cs i ≡ Some c → count_by p (take (i + 1) cs) ≡ count_by p (take i cs) + cond (p c) 1 0
count_more p cs i c at = elim (cases_Bool (p c)) [
  | inl is ↦
      let one : cond (p c) 1 0 ≡ 1 = ap {B = ℕ} (λ (b : Bool). cond b 1 0) is in
      omega (arith, one, count_by_more_yes p cs i c (below cs i c at) (ap p (get_at cs i c c at) ∙ is))
  | inr isnt ↦
      let none : cond (p c) 1 0 ≡ 0 = ap {B = ℕ} (λ (b : Bool). cond b 1 0) isnt in
      omega (arith, none, count_by_more_no p cs i c (below cs i c at) (ap p (get_at cs i c c at) ∙ isnt))
]

-- one more was counted
pub waits_more : (cs : List Command) (i : ℕ) (c : Command) (r : Request) (was now : Waiting) → slice_get cs i ≡ Some c → r ≡ c.request → CountsOne was r now → AreWaiting (take i cs) was → AreWaiting (take (i + 1) cs) now
waits_more cs i c r was now at is one done = record {
  creates = counted is_create now.creates was.creates one.creates done.creates;
  writes = counted is_write now.writes was.writes one.writes done.writes;
  fills = counted is_fill now.fills was.fills one.fills done.fills;
  zeroes = counted is_zero now.zeroes was.zeroes one.zeroes done.zeroes;
  snapshots = counted is_snapshot now.snapshots was.snapshots one.snapshots done.snapshots;
  clones = counted is_clone now.clones was.clones one.clones done.clones;
  copies = counted is_copy now.copies was.copies one.copies done.copies;
  destroys = counted is_destroy now.destroys was.destroys one.destroys done.destroys;
}
  where
    counted : (p : Request → Bool) (n m : ℕ) → n ≡ m + cond (p r) 1 0 → m ≡ count_by (λ (d : Command). p d.request) (take i cs) → n ≡ count_by (λ (d : Command). p d.request) (take (i + 1) cs)
    counted p n m more before =
        more ∙ ap (λ (k : ℕ). k + cond (p r) 1 0) before ∙ ap (λ (x : Request). count_by (λ (d : Command). p d.request) (take i cs) + cond (p x) 1 0) is
        ∙ sym (count_more (λ (d : Command). p d.request) cs i c at)

-- a count that goes up by one at most is within the next place
pub one_more : (b : Bool) (was now i : ℕ) → now ≡ was + cond b 1 0 → was ≤ i → now ≤ i + 1
one_more true was now i e le = omega (arith, e, le)
one_more false was now i e le = omega (arith, e, le)
