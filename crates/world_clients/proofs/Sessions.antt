-- One byte more of a session.
use Rattle.world_clients.proofs.Prelude.{◌≡◌, ⊎_elim, ℕ, ◌+◌, ◌<◌, List, [], length, drop, slice_index, sym, ◌∙◌, ap, subst, arith, below_more, get_or-drop, Device, Shelved, Stop, Disk, IsInSome, Continues, Leaves, OneRange, ChangesOnly, leaves_then, leaves_weaker, Span, StoredWhenSaid, EachIsStoredWhenSaid, StoredByte}
use Rattle.std.proofs.lemmas.Bool.{cases_lt}

module _ (a b : Shelved) (device : Device) (at i : ℕ) (input left : List ℕ) (is_left : left ≡ drop i input)
    (stored : (k : ℕ) → k < i → slice_index (b.disk device).bytes (at + k) ≡ slice_index input k) (clean : (b.disk device).dirty ≡ []) (output : length b.output ≡ length a.output + i) where
  first : slice_index left 0 ≡ slice_index input i
  first = ap (λ (l : List ℕ). slice_index l 0) is_left ∙ get_or-drop i input 0 0 ∙ ap (λ (k : ℕ). slice_index input k) (let e : i + 0 ≡ i = omega arith in e)

  still : (stop : Stop) → StoredWhenSaid b device (at + i) (slice_index left 0) stop → (k : ℕ) → k < i → slice_index (stop.image device) (at + k) ≡ slice_index input k
  still stop said k lt = (said.rest.bytes device).same (at + k) (λ is. subst (λ (l : List Span). IsInSome l (at + k)) clean is) (λ w. omega (arith, w.1.0, lt)) ∙ stored k lt

  at_stop : (stop : Stop) → StoredWhenSaid b device (at + i) (slice_index left 0) stop → EachIsStoredWhenSaid a device at input stop
  at_stop stop said k long = ⊎_elim
      (λ silent. still stop said k (omega (arith, long, output, ap (length {A = ℕ}) silent)))
      (λ told. ⊎_elim (λ lt. still stop said k lt)
      (λ le. let e : k ≡ i = omega (arith, le, long, told.1, output) in
      ap (λ (x : ℕ). slice_index (stop.image device) (at + x)) e ∙ told.0 ∙ first ∙ sym (ap (λ (x : ℕ). slice_index input x) e))
      (cases_lt k i))
      said.stored

  pub leaves_on : {c : Shelved} → Continues a b → Leaves a b (EachIsStoredWhenSaid a device at input) → Leaves b c (StoredWhenSaid b device (at + i) (slice_index left 0)) → Leaves a c (EachIsStoredWhenSaid a device at input)
  leaves_on {c} ab so_far next = leaves_then ab so_far (leaves_weaker at_stop next)

  pub one_more : (c : Disk) → ChangesOnly (OneRange device (at + i) 1 device) (b.disk device) c → StoredByte c (at + i) (slice_index left 0) → (k : ℕ) → k < i + 1 → slice_index c.bytes (at + k) ≡ slice_index input k
  one_more c changes byte = below_more _ _
      (λ k lt. changes.bytes (at + k) (λ w. omega (arith, w.1.0, lt)) ∙ stored k lt)
      (byte.stands ∙ first)

-- at the start
pub nothing_said : (a : Shelved) (device : Device) (at : ℕ) (input : List ℕ) (stop : Stop) → stop.output ≡ a.output → EachIsStoredWhenSaid a device at input stop
nothing_said a device at input stop silent k long = absurd (omega (arith, long, ap (length {A = ℕ}) silent))
