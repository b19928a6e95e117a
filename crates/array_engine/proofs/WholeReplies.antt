-- What memory reads as is given in whole replies: its names are lawful.
use Rattle.array_engine.proofs.Prelude.{◌≡◌, ℕ, List, [], ◌∷◌, sym, subst, arith, true, Contains, AllByRecursion, AllZip, Facts, objects, Entries, ObjectFact, is_name, IsFact, IsAnswer, IsEntry, facts, Memory, Contents, EntryReads, IsSound, ReadsAs, all_objects, each_by_recursion, object_is, of_objects}
use Rattle.std.proofs.lemmas.Slice.Zip.{AllZip-long}
use Rattle.session_spec.specs.Prelude.{Array}
use Rattle.pur_base.specs.declared.facts.AnyFact.TheVariants as any

-- a visible object is one of the facts
visible_fits : (m : Memory) → IsSound m → (x : ObjectFact) → Contains (objects (facts m.tables) m.next.object) x → IsFact (any.Object x)
visible_fits m sound x c = sound.fit (any.Object x) (all_objects (facts m.tables) x (object_is (facts m.tables) x.object.0 x (of_objects (facts m.tables) m.next.object x c).0).0)

entries_whole : (contents : Contents) (staged : List (List ℕ)) (f : Facts) (xs : List ObjectFact) (es : Array) → AllByRecursion (λ x. IsFact (any.Object x)) xs → AllZip (EntryReads contents staged f) xs es → AllByRecursion IsEntry es
entries_whole contents staged f [] [] all zip = tt
entries_whole contents staged f [] (e ∷ es) all zip = absurd zip
entries_whole contents staged f (x ∷ xs) [] all zip = absurd zip
entries_whole contents staged f (x ∷ xs) (e ∷ es) all zip = (
  record {
    name = subst (λ (n : List ℕ). is_name n ≡ true) (sym zip.0.name) all.0.lawful.statement.3;
    sectors = omega (arith, zip.0.size, all.0.lawful.statement.1);
  },
  entries_whole contents staged f xs es all.1 zip.1,
)

pub names_whole : (contents : Contents) (m : Memory) (array : Array) → ReadsAs contents m array → IsAnswer (Entries array)
names_whole contents m array r = (
  omega (arith, AllZip-long (EntryReads contents m.staged (facts m.tables)) (objects (facts m.tables) m.next.object) array r.reads, r.sound.objects.most),
  entries_whole contents m.staged (facts m.tables) (objects (facts m.tables) m.next.object) array
      (each_by_recursion (λ x. IsFact (any.Object x)) (objects (facts m.tables) m.next.object) (λ x c. visible_fits m r.sound x c)) r.reads,
)
