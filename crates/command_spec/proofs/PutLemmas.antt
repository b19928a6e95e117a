-- Steps of putting and of creating, as the calls of the tables leave them.
use Rattle.command_spec.proofs.Prelude.{nat_tests, arith, ◌≡◌, ◌≢◌, ◌⊎◌, ◌↔◌, ℕ, ◌+◌, false, List, [], ◌++◌, length, sym, ap, ◌∙◌, inl, inr, subst, Contains, Result, Ok, Err, OnOk, is_err, append-nil, Contains-append_left, Contains-append_right, Contains-append_cases, Target, AddressFact, Layers, facts_in, facts_of, address_facts, pairs_of, AreNamesDistinct, HasSpan, Kept, IsPut, run_long}
use Rattle.memory_spec.specs.Prelude.{ObjectFact}

-- what holds at an Ok holds where there was no error
pub at_ok : {T E : Type 0} (r : Result T E) (P : Type 0) → is_err r ≡ false → OnOk r P → P
at_ok (Ok x) P e h = h
at_ok (Err x) P e h = absurd cc

-- objects of one name are one
pub one_named : (xs : List ObjectFact) (x y : ObjectFact) → AreNamesDistinct xs → Contains xs x → Contains xs y → x.name ≡ y.name → x ≡ y
one_named xs x y h c d e = elim (pairs_of (λ (x y : ObjectFact). x.name ≢ y.name) xs x y h c d) [
  | inl same ↦ same
  | inr either ↦ elim either [ inl ne ↦ absurd (ne e) | inr ne ↦ absurd (ne (sym e)) ]
]

-- facts that were taken into the unflushed ones were taken into the table
pub taken_behind : {F : Type 0} (was now : Layers F) (New : F → Type 0) → now.patches ≡ was.patches → ((f : F) → Contains now.unflushed f ↔ (Contains was.unflushed f ⊎ New f))
    → (f : F) → Contains (facts_in now) f ↔ (Contains (facts_in was) f ⊎ New f)
taken_behind {F} was now New same h f = (
  (λ c. elim (Contains-append_cases (facts_of now.patches) now.unflushed f c) [
    | inl a ↦ inl (Contains-append_left (facts_of was.patches) was.unflushed f (subst (λ (ps : List (List F)). Contains (facts_of ps) f) same a))
    | inr a ↦ elim ((h f).0 a) [ inl b ↦ inl (Contains-append_right (facts_of was.patches) was.unflushed f b) | inr b ↦ inr b ]
  ]),
  (λ c. elim c [
    | inl a ↦ elim (Contains-append_cases (facts_of was.patches) was.unflushed f a) [
      | inl b ↦ Contains-append_left (facts_of now.patches) now.unflushed f (subst (λ (ps : List (List F)). Contains (facts_of ps) f) (sym same) b)
      | inr b ↦ Contains-append_right (facts_of now.patches) now.unflushed f ((h f).1 (inl b))
    ]
    | inr b ↦ Contains-append_right (facts_of now.patches) now.unflushed f ((h f).1 (inr b))
  ]),
)

-- with so many staged sectors more
abbrev pub staging : Kept → List (List ℕ) → ℕ → Kept
staging k more room = record k { memory = record k.memory { staged = k.memory.staged ++ more }; staged_room = room }

-- with these addresses, and as many numbers given
abbrev pub putting : Kept → Layers AddressFact → ℕ → Kept
putting k a count = record k {
  memory = record k.memory {
    tables = record k.memory.tables { addresses = a };
    next = record k.memory.next { sequence = k.memory.next.sequence + count };
  };
}

module _ (k mid now : Kept) (name : List ℕ) (lba count medium room : ℕ) (targets : List Target) (more : List (List ℕ)) (span : HasSpan k.objects name lba count)
    (its : medium ≡ span.volume.medium.0) (staged : mid ≡ staging k more room) (done : now ≡ putting mid now.memory.tables.addresses count) (long : length targets ≡ count)
    (added : (f : AddressFact) → Contains (facts_in now.memory.tables.addresses) f ↔ (Contains (facts_in mid.memory.tables.addresses) f ⊎ Contains (address_facts medium lba mid.memory.next.sequence targets) f))
    (patches : now.memory.tables.addresses.patches ≡ mid.memory.tables.addresses.patches) where
  whole : now ≡ putting (staging k more room) now.memory.tables.addresses count
  whole = done ∙ ap (λ x. putting x now.memory.tables.addresses count) staged

  added_to : (f : AddressFact) → Contains (facts_in now.memory.tables.addresses) f
      ↔ (Contains (facts_in k.memory.tables.addresses) f ⊎ Contains (address_facts span.volume.medium.0 lba k.memory.next.sequence targets) f)
  added_to f =
      let P : Kept → Type 0 = λ x. Contains (facts_in now.memory.tables.addresses) f ↔ (Contains (facts_in x.memory.tables.addresses) f ⊎ Contains (address_facts span.volume.medium.0 lba x.memory.next.sequence targets) f) in
      let Q : ℕ → Type 0 = λ m. Contains (facts_in now.memory.tables.addresses) f ↔ (Contains (facts_in mid.memory.tables.addresses) f ⊎ Contains (address_facts m lba mid.memory.next.sequence targets) f) in
      subst P staged (subst Q its (added f))

  count_is : length (address_facts span.volume.medium.0 lba k.memory.next.sequence targets) ≡ count
  count_is = run_long span.volume.medium.0 lba k.memory.next.sequence targets ∙ long

  -- the span was put
  pub put_done : IsPut k now name lba count targets more
  put_done = record {
    span = span;
    put = record {
      objects = ap (λ (x : Kept). facts_in x.memory.tables.objects) whole;
      mediums = ap (λ (x : Kept). facts_in x.memory.tables.mediums) whole;
      segments = ap (λ (x : Kept). facts_in x.memory.tables.segments) whole;
      elisions = ap (λ (x : Kept). facts_in x.memory.tables.elisions) whole;
      addresses = added_to;
      staged = ap (λ (x : Kept). x.memory.staged) whole;
      next = ap (λ (x : Kept). x.memory.next) whole ∙ ap (λ n. record k.memory.next { sequence = k.memory.next.sequence + n }) (sym count_is);
    };
    patches = grind (arith, nat_tests);
    objects = ap (λ (x : Kept). x.objects) whole;
    segments = ap (λ (x : Kept). x.segments) whole;
    elided = ap (λ (x : Kept). x.elided) whole;
  }

-- the numbers that are given next
pub put_next : (was now : Kept) (name : List ℕ) (lba count : ℕ) (targets : List Target) (more : List (List ℕ)) → IsPut was now name lba count targets more → length targets ≡ count
    → now.memory.next ≡ record was.memory.next { sequence = was.memory.next.sequence + count }
put_next was now name lba count targets more h long = grind (arith, nat_tests, run_long)

-- nothing staged more
pub none_staged : (k : Kept) → k ≡ staging k [] k.staged_room
none_staged k = ap (λ st. record k { memory = record k.memory { staged = st } }) (sym (append-nil k.memory.staged))
