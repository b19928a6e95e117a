-- The record that the regions give.
use Rattle.shelf_look.proofs.Prelude.{◌≡◌, ◌∙◌, ℕ, Bool, List, sym, ap, subst, Geometry, BadRecord, ReadError, Fails, read_record, BootSlot, IsEffective, IsBadBody, seen}
use Rattle.boot_codec.specs.declared.bad_record.ReadError.TheVariants as errors

-- a body in force that can't be read
pub bad_body : (shelf : Geometry) (bytes : List ℕ) (answered : List Bool) (slot : BootSlot) (body : List ℕ) (slots units : ℕ) (e : ReadError) (b : BadRecord) → e ≡ errors.Bad b
    → slots ≡ shelf.slots → units ≡ shelf.units → IsEffective shelf (seen bytes answered) slot body → Fails e (read_record slots units body)
    → (fault : BadRecord) × IsBadBody shelf bytes answered fault
bad_body shelf bytes answered slot body slots units e b is same_slots same_units effective fails = (
  b,
  record {
    slot = slot;
    body = body;
    effective = effective;
    exact = sym (ap (λ n. read_record n units body) same_slots ∙ ap (λ n. read_record shelf.slots n body) same_units) ∙ subst (λ (f : ReadError). Fails f (read_record slots units body)) is fails;
  },
)
