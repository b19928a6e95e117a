-- What steps take up together.
use Rattle.command_spec.proofs.Prelude.{nat_tests, ◌≡◌, ◌∙◌, ℕ, ◌+◌, ◌≤◌, List, ◌++◌, length, ap, arith, AddressFact, Layers, NOTHING, Kept, with_more, with_rooms, AtMost, TakesOnly}
use Rattle.command_spec.specs.declared.amounts.Amounts.{Amounts}
use Rattle.command_spec.proofs.PutLemmas.{staging, putting}

-- one step behind another
pub takes_then : (a b c : Kept) (x y z : Amounts) → AtMost (with_more x y) z → TakesOnly a b x → TakesOnly b c y → TakesOnly a c z
takes_then a b c x y z few ab bc = grind (arith, nat_tests)

-- no step
pub takes_none : (k : Kept) (x : Amounts) → TakesOnly k k x
takes_none k x = grind (arith, nat_tests)

-- putting addresses
pub put_takes : (was now : Kept) (a : Layers AddressFact) (count : ℕ) → now ≡ putting was a count → was.memory.tables.addresses.room ≤ a.room + count
    → length a.unflushed ≤ length was.memory.tables.addresses.unflushed + count
    → length was.memory.tables.addresses.unflushed + was.memory.tables.addresses.room ≤ length a.unflushed + a.room → TakesOnly was now (record NOTHING { addresses = count })
put_takes was now a count done left few capacity = grind (arith, nat_tests)

-- staging sectors, and putting as many addresses then
pub staged_then : (k mid now : Kept) (more : List (List ℕ)) (n room : ℕ) → mid ≡ staging k more room → k.staged_room ≤ room + n → length (k.memory.staged ++ more) ≤ length k.memory.staged + n
    → length k.memory.staged + k.staged_room ≤ length (k.memory.staged ++ more) + room → TakesOnly mid now (record NOTHING { addresses = n }) → TakesOnly k now (record NOTHING { addresses = n; staged = n })
staged_then k mid now more n room same left long capacity put = grind (arith, nat_tests, takes_then)

-- an object fact, and so many names
pub object_takes : (was now : Kept) (count : ℕ) → now.memory.tables ≡ record was.memory.tables { objects = now.memory.tables.objects } → now.memory.staged ≡ was.memory.staged → now.staged_room ≡ was.staged_room → now.elided ≡ was.elided
    → was.memory.tables.objects.room ≤ now.memory.tables.objects.room + 1 → was.name_room ≤ now.name_room + count
    → length now.memory.tables.objects.unflushed ≤ length was.memory.tables.objects.unflushed + 1
    → length was.memory.tables.objects.unflushed + was.memory.tables.objects.room ≤ length now.memory.tables.objects.unflushed + now.memory.tables.objects.room
    → TakesOnly was now (record NOTHING { objects = 1; names = count })
object_takes was now count tables staged staged_room elided objects names few capacity = grind (arith, nat_tests)

-- so many facts of ranges
pub ranges_take : (was now : Kept) (count : ℕ) → now.memory.tables ≡ record was.memory.tables { mediums = now.memory.tables.mediums } → now.memory.staged ≡ was.memory.staged → now.staged_room ≡ was.staged_room → now.elided ≡ was.elided → now.name_room ≡ was.name_room
    → was.memory.tables.mediums.room ≤ now.memory.tables.mediums.room + count
    → length now.memory.tables.mediums.unflushed ≤ length was.memory.tables.mediums.unflushed + count
    → length was.memory.tables.mediums.unflushed + was.memory.tables.mediums.room ≤ length now.memory.tables.mediums.unflushed + now.memory.tables.mediums.room
    → TakesOnly was now (record NOTHING { mediums = count })
ranges_take was now count tables staged staged_room elided names mediums few capacity = grind (arith, nat_tests)

-- other room, twice
pub roomed_then : (a b c : Kept) → b ≡ with_rooms a b → c ≡ with_rooms b c → c ≡ with_rooms a c
roomed_then a b c ab bc = bc ∙ ap (λ (k : Kept). with_rooms k c) ab
