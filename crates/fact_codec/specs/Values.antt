-- The value of a fact, as it is written and read table by table.
use Rattle.std.specs.Prelude.{◌≡◌, ℕ, true, List, ◌++◌, length}
use Rattle.pur_base.specs.Prelude.{u64, padded, is_name}
use Rattle.pur_base.specs.declared.limits.TheConstants.{NAME_BYTES}
use Rattle.pur_base.specs.declared.facts.AnyFact.{AnyFact}
use Rattle.pur_base.specs.declared.facts.AnyFact.TheVariants as any
use Rattle.fact_codec.specs.declared.limits.TheConstants.{VALUE_BYTES}
use Rattle.fact_codec.specs.declared.head.Head.{Head}
use Rattle.fact_codec.specs.Fact.{value_bytes, IsTarget, FitsTypes, IsLawful, IsFact}
use Rattle.fact_codec.specs.Heads.{head_of}

-- what is put of a value: all up to the zeros in which it ends
abbrev pub put_bytes : AnyFact → List ℕ
put_bytes (any.Object f) = u64 f.medium.0 ++ f.name
put_bytes f = value_bytes f

-- what the reader of a value judges: the name of an object, and where a sector stands
abbrev pub IsJudged : AnyFact → Type 0
IsJudged (any.Object f) = is_name f.name ≡ true
IsJudged (any.Address f) = IsTarget f.target
IsJudged _ = Unit {0}

-- the bytes hold this lawful name of that length
pub record IsNameIn (len : ℕ) (field : List ℕ) (name : List ℕ) : Type 0 where
  pub lawful : is_name name ≡ true
  pub size : len ≡ length name
  pub bytes : field ≡ padded NAME_BYTES name

-- the bytes of an address that no field uses
abbrev pub UNUSED_BYTES : ℕ
UNUSED_BYTES = 22

-- the value is that of this fact
pub record IsValueOf (value : List ℕ) (f : AnyFact) : Type 0 where
  pub fits : FitsTypes f
  pub judged : IsJudged f
  pub bytes : value ≡ padded VALUE_BYTES (value_bytes f)

-- the fact is in bounds, and has this head
pub record IsHeaded (head : Head) (f : AnyFact) : Type 0 where
  pub lawful : IsLawful f
  pub same_head : head ≡ head_of f

-- the head and the value spell this fact
pub record IsSpelled (head : Head) (value : List ℕ) (f : AnyFact) : Type 0 where
  pub fact : IsFact f
  pub same_head : head ≡ head_of f
  pub bytes : value ≡ padded VALUE_BYTES (value_bytes f)
