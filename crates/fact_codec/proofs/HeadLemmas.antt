-- The head that stands in front of a value, and the fact that both spell.
use Rattle.fact_codec.proofs.Prelude.{nat_tests, ◌≡◌, ℕ, List, ◌++◌, refl, arith, u8, u32, u64, padded, tag_of, same_u8, same_u32, same_u64, Table, AnyFact, VALUE_BYTES, Head, fact_bytes, value_bytes, IsFact, Decodes, head_bytes, head_of, FitsHead, IsHeaded, IsSpelled, IsValueOf}
use Rattle.pur_base.specs.declared.request.Table.TheVariants as table
use Rattle.pur_base.specs.declared.facts.AnyFact.TheVariants as any

-- a fact's spelling: its head, and its value
pub spelled : (f : AnyFact) → fact_bytes f ≡ head_bytes (head_of f) ++ padded VALUE_BYTES (value_bytes f)
unfolding fact_bytes
spelled f = refl

pub fits_head : (f : AnyFact) → IsFact f → FitsHead (head_of f)
fits_head (any.Object f) h = record { sectors = omega arith; id = omega arith; second = omega arith; number = omega arith }
fits_head (any.Medium f) h = record { sectors = omega arith; id = omega arith; second = omega arith; number = omega arith }
fits_head (any.Address f) h = record { sectors = omega arith; id = omega arith; second = omega arith; number = omega arith }
fits_head (any.Segment f) h = record { sectors = omega arith; id = omega arith; second = omega arith; number = omega arith }
fits_head (any.Elision f) h = record { sectors = omega arith; id = omega arith; second = omega arith; number = omega arith }

-- the head with the fields of a head
abbrev whole : Head → Head
whole h =
    record { tag = h.tag; kind = h.kind; name_len = h.name_len; zero = h.zero; sectors = h.sectors; id = h.id; second = h.second; number = h.number }

-- what begins with a head begins with no other
one_head : (h k : Head) (r s : List ℕ) → FitsHead h → FitsHead k → head_bytes h ++ r ≡ head_bytes k ++ s → (h ≡ k) × (r ≡ s)
one_head h k r s h-fits k-fits e = grind (arith, nat_tests, u64, u32, u8, same_u8, same_u32, same_u64)

-- bytes that spell a fact: their head is its head, and their value its value
pub is_spelled : (bytes : List ℕ) (head : Head) (value : List ℕ) (f : AnyFact) → bytes ≡ head_bytes head ++ value → FitsHead head → Decodes bytes f → IsSpelled head value f
is_spelled bytes head value f field fits spells = grind (arith, nat_tests, one_head, padded, fits_head, spelled)

-- a lawful fact with their head and their value is the one that they spell
pub decodes : (bytes : List ℕ) (head : Head) (value : List ℕ) (f : AnyFact) → bytes ≡ head_bytes head ++ value → IsValueOf value f → IsHeaded head f → Decodes bytes f
decodes bytes head value f field of headed = grind (arith, nat_tests, spelled)

-- the table of a fact
abbrev pub table_of : AnyFact → Table
table_of (any.Object f) = table.Object
table_of (any.Medium f) = table.Medium
table_of (any.Address f) = table.Address
table_of (any.Segment f) = table.Segment
table_of (any.Elision f) = table.Elision

-- the tag in front of a fact is that of its table
pub tag_is : (head : Head) (value : List ℕ) (f : AnyFact) → IsSpelled head value f → tag_of (table_of f) ≡ head.tag
tag_is head value (any.Object f) spells = cc
tag_is head value (any.Medium f) spells = cc
tag_is head value (any.Address f) spells = cc
tag_is head value (any.Segment f) spells = cc
tag_is head value (any.Elision f) spells = cc
