-- What is said of memory is said of it with no room told.
use Rattle.array_engine.proofs.Prelude.{inl, inr, ℕ, Bool, List, refl, sym, ap, subst, Reply, Contents, Memory, Point, ReadsAs, ReadsAt, Shelved, told_of, FlattensTo, FrontFits, FrontPasses, IsFront, IsMediumOf, MayFlatten, TakesFront, front_end, Array, StandsAt}
use Rattle.pur_base.specs.declared.reply.Reply.TheVariants as reply
use Rattle.pur_base.specs.Plain as plain
use Rattle.memory_spec.specs.Prelude.{AddressFact, MediumFact}
use Rattle.command_spec.proofs.SoundLemmas.{sound_as}

pub told_reads : (contents : Contents) (m : Memory) (x : plain.Array) → ReadsAs contents m x → ReadsAs contents (told_of m) x
told_reads contents m x r = record { sound = sound_as m (told_of m) refl refl refl r.sound; reads = r.reads }

pub told_medium : (m : Memory) (name : List ℕ) (medium : ℕ) → IsMediumOf m name medium → IsMediumOf (told_of m) name medium
told_medium m name medium is = record { object = is.object; there = is.there; named = is.named; its = is.its }

module _ (m : Memory) (medium : ℕ) where
  told_may : (r : MediumFact) (until : ℕ) (given : List AddressFact) → MayFlatten m r until given → MayFlatten (told_of m) r until given
  told_may r until given may = record {
    there = may.there;
    of_object = may.of_object;
    some = may.some;
    within = may.within;
    each = may.each;
    all = may.all;
    numbers = may.numbers;
    distinct = may.distinct;
    left = may.left;
  }

  told_front : (r : MediumFact) (given : List AddressFact) → IsFront m medium r given → IsFront (told_of m) medium r given
  told_front r given front = record { lowest = front.lowest; may = told_may r (front_end r) given front.may; ascends = front.ascends }

  pub told_fits : (before : ℕ) → FrontFits medium m before → FrontFits medium (told_of m) before
  told_fits before (inl none) = inl none
  told_fits before (inr (r, given, front, fits)) = inr (r, given, told_front r given front, fits)

  pub told_passes : (before : ℕ) → FrontPasses medium m before → FrontPasses medium (told_of m) before
  told_passes before (r, given, front, passes) = (r, given, told_front r given front, passes)

  module _ (now : Memory) (before after : ℕ) where
    told_takes : TakesFront medium m now before after → TakesFront medium (told_of m) (told_of now) before after
    told_takes t = record {
      range = t.range;
      given = t.given;
      front = told_front t.range t.given t.front;
      made = record {
        objects = t.made.objects;
        mediums = t.made.mediums;
        addresses = t.made.addresses;
        segments = t.made.segments;
        elisions = t.made.elisions;
        staged = t.made.staged;
        next = t.made.next;
      };
      counted = t.counted;
    }

    pub told_flattens : (said : Reply) → FlattensTo said medium m now before after → FlattensTo said medium (told_of m) (told_of now) before after
    told_flattens reply.Idle (none, same, count) = (none, ap told_of same, count)
    told_flattens reply.Done (takes, none) = (told_takes takes, none)
    told_flattens reply.Left (takes, left) = (told_takes takes, left)
    told_flattens _ h = absurd h.1

-- so at a point at which an array stands
pub stood_reads : {told : Bool} {shelf : Shelved} {a : Array} {p : Point} → StandsAt told shelf a p → ReadsAt p
stood_reads {told} {shelf} {a} {p} s = (s.contents, subst (λ (m : Memory). ReadsAs s.contents m p.array) (sym s.memory) (told_reads s.contents a.memory.memory p.array s.reads))
