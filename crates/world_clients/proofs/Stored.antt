-- What was said is stored, at each moment.
use Rattle.world_clients.proofs.Prelude.{◌≡◌, inl, inr, ℕ, ◌+◌, ◌≤◌, List, [], ◌∷◌, ◌++◌, length, get_or, slice_index, sym, ◌∙◌, ap, subst, arith, length-append, Device, Shelved, Stop, IsInSome, IsShelf, Continues, TakenOnly, OutputOnly, MayLeave, Written, Leaves, IsFrontOf, Disk, IsCountedBy, OneRange, WritesOnly, MayLeaveBut, LeavesBut, leaves_then, leaves_quiet, leaves_taking, leaves_giving, continues_trans, unchanged, may_leave_but, Span, StoredWhenSaid}
use Rattle.std.proofs.lemmas.List.Edits.{get_or-between}

pub first_written : (at : ℕ) (from old new : List ℕ) → length from ≡ 1 → Written at from old new → slice_index new at ≡ slice_index from 0
first_written at from old new one written =
    ap (λ (k : ℕ). slice_index new k) (let e : at ≡ at + 0 = omega arith in e)
    ∙ sym (get_or-between new at (at + length from) 0 0 (omega arith))
    ∙ ap (λ (l : List ℕ). get_or l 0 0) written.within

-- as many calls had failed by the start of a run as by then
counted_before : (a b : Shelved) (stop : Stop) → Continues a b → IsCountedBy b stop → IsCountedBy a stop
counted_before a b stop on counts = record { faults = λ d. omega (arith, on.faults d, counts.faults d); write_faults = λ d. omega (arith, on.write_faults d, counts.write_faults d) }

module _ (a b : Shelved) (device : Device) (at byte : ℕ) (is_a : IsShelf a) (takes : TakenOnly a b) where
  taking : (stop : Stop) → stop.output ≡ a.output → a.taken ≤ stop.taken → stop.taken ≤ b.taken → ((d : Device) → MayLeave (a.disk d) (stop.image d)) → IsCountedBy a stop → StoredWhenSaid a device at byte stop
  taking stop silent from to may counts = record { rest = record { bytes = λ d. may_leave_but (unchanged (a.disk d)) (may d); counts = counts }; stored = inl silent }

  back : (stop : Stop) → LeavesBut (OneRange device at 1) b stop → LeavesBut (OneRange device at 1) a stop
  back stop left = record {
    bytes = λ d. subst (λ (x : Disk). MayLeaveBut (OneRange device at 1 d) x (stop.image d)) (takes.disk d) (left.bytes d);
    counts = counted_before a b stop takes.continues left.counts;
  }

  -- while the byte is taken
  pub first_half : Leaves a b (StoredWhenSaid a device at byte)
  first_half = leaves_taking is_a takes taking

  -- before the output
  pub not_yet : (c : Shelved) → WritesOnly (OneRange device at 1) b c → Leaves a c (StoredWhenSaid a device at byte)
  not_yet c writes = leaves_then takes.continues first_half (leaves_quiet (λ stop quiet left. record { rest = back stop left; stored = inl (quiet.output ∙ takes.output) }) writes.any_moment)

pub said : (a b c d : Shelved) (device : Device) (at : ℕ) (from : List ℕ) → length from ≡ 1 → IsShelf a → TakenOnly a b → Continues b c → WritesOnly (OneRange device at (length from)) b c → Written at from (b.disk device).bytes (c.disk device).bytes → (c.disk device).dirty ≡ []
    → IsShelf c → OutputOnly c d → length d.output ≤ length c.output + 1 → Leaves a d (StoredWhenSaid a device at (slice_index from 0))
said a b c d device at from one is_a takes bc wrote written clean is_c gives longer =
    leaves_then (continues_trans takes.continues bc) (not_yet a b device at (slice_index from 0) is_a takes c writes) (leaves_giving is_c gives here)
  where
    writes : WritesOnly (OneRange device at 1) b c
    writes = subst (λ (n : ℕ). WritesOnly (OneRange device at n) b c) one wrote

    silent : c.output ≡ a.output
    silent = writes.any_moment.quiet.output ∙ takes.output

    here : (stop : Stop) → IsFrontOf c.output stop.output → IsFrontOf stop.output d.output → stop.taken ≡ c.taken → ((x : Device) → MayLeave (c.disk x) (stop.image x)) → IsCountedBy c stop → StoredWhenSaid a device at (slice_index from 0) stop
    here stop back_to front taken may counts = record {
      rest = record {
        bytes = λ x. subst (λ (y : Disk). MayLeaveBut (OneRange device at 1 x) y (stop.image x)) (takes.disk x) (may_leave_but (writes.device x) (may x));
        counts = counted_before a c stop (continues_trans takes.continues bc) counts;
      };
      stored = inr (
        (may device).clean at (λ is. subst (λ (l : List Span). IsInSome l at) clean is) ∙ first_written at from (b.disk device).bytes (c.disk device).bytes one written,
        omega (arith, longer, ap (length {A = ℕ}) silent, ap (length {A = ℕ}) front.1, length-append stop.output front.0),
      );
    }
