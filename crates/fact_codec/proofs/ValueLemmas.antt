-- Values: what is put of a value, and zeros behind it.
use Rattle.fact_codec.proofs.Prelude.{nat_tests, ◌≡◌, ℕ, ◌-◌, ◌≤◌, true, List, ◌++◌, length, refl, ap, sym, ◌∙◌, append-nil, arith, length-append, length-replicate, u64, zeros, padded, is_name, NAME_BYTES, ObjectFact, AnyFact, FACT_BYTES, VALUE_BYTES, fact_bytes, value_bytes, IsLawful, IsStatement, head_bytes, head_of, put_bytes}
use Rattle.std.proofs.lemmas.Grind.{common_steps}
use Rattle.pur_base.specs.declared.facts.AnyFact.TheVariants as any
use Rattle.fact_codec.proofs.HeadLemmas.{spelled}

-- a name isn't longer than its room
pub name_fits : (name : List ℕ) → is_name name ≡ true → length name ≤ NAME_BYTES
name_fits name h = grind (arith, common_steps)

-- bytes and zeros that fill their room
pub padded_is : (n : ℕ) (bytes front rest : List ℕ) → length bytes ≡ n → bytes ≡ front ++ rest → rest ≡ zeros (length rest) → bytes ≡ padded n front
padded_is n bytes front rest room e zero = grind (arith, nat_tests, length-append, zeros)

pub length-field : (name : List ℕ) → length name ≤ NAME_BYTES → length (padded NAME_BYTES name) ≡ NAME_BYTES
length-field name fits =
    omega (arith, length-append name (zeros (NAME_BYTES - length name)), length-replicate {A = ℕ} (NAME_BYTES - length name) 0)

-- an object's value fills its room
pub object_fills : (f : ObjectFact) → length f.name ≤ NAME_BYTES → padded VALUE_BYTES (value_bytes (any.Object f)) ≡ value_bytes (any.Object f)
object_fills f fits = grind (arith, nat_tests, length-field, zeros, append-nil)

-- what is put of a value, with zeros behind it, is the value with zeros behind it
put_padded : (f : AnyFact) → IsStatement f → padded VALUE_BYTES (put_bytes f) ≡ padded VALUE_BYTES (value_bytes f)
put_padded (any.Object f) h =
    let fits : length f.name ≤ NAME_BYTES = name_fits f.name h.3 in
    let front : List ℕ = u64 f.medium.0 ++ f.name in
    let room : VALUE_BYTES - length front ≡ NAME_BYTES - length f.name = omega arith in
    ap (λ (n : ℕ). front ++ zeros n) room ∙ sym (object_fills f fits)
put_padded (any.Medium f) h = refl
put_padded (any.Address f) h = refl
put_padded (any.Segment f) h = refl
put_padded (any.Elision f) h = refl

-- the head and what is put of the value, with zeros behind them, spell the fact
pub written : (f : AnyFact) → IsLawful f → padded FACT_BYTES (head_bytes (head_of f) ++ put_bytes f) ≡ fact_bytes f
written f lawful = grind (arith, nat_tests, zeros, put_padded, spelled)
