-- What contracts see of the parts of a memory.
use Rattle.array_memory.proofs.Prelude.{◌≡◌, ◌-◌, sym, subst, vec_len, vec_capacity, IsSound, Inside, Kept, kept_of}

abbrev pub seen : Inside → Kept
seen m = kept_of m.objects m.mediums.facts m.addresses.facts m.segments m.elisions m.elided m.staged.items (vec_capacity m.staged - vec_len m.staged) m.next

pub sound_of : (m : Inside) (k : Kept) → seen m ≡ k → IsSound k.memory → IsSound (seen m).memory
sound_of m k e s = subst (λ (x : Kept). IsSound x.memory) (sym e) s
