-- The visible objects, one by one.
use Rattle.std.proofs.lemmas.Bool.Decides.{nat_tests}
use Rattle.std.proofs.Common.{◌≡◌, ℕ, ◌<◌, ap, ◌∙◌, arith, Some, filter_map, Contains}
use Rattle.array_spec.specs.Prelude.{Facts, object_key, never, key_of, objects, object, ids_below, is_elided, ObjectFact, says_is}
use Rattle.pur_base.specs.declared.request.Table.TheVariants as table
use Rattle.memory_spec.specs.lemmas.Lists.{each_by_recursion, in_filter_map, of_filter_map, in_range, of_range}

-- facts that say the same of each id show the same objects
pub same_objects : (old new : Facts) → ((id : ℕ) → object new id ≡ object old id) → (next : ℕ) → objects new next ≡ objects old next
same_objects old new same next = grind (arith, nat_tests, ids_below, filter_map, object)

-- the object of an id is a fact, of that id
pub object_is : (f : Facts) (id : ℕ) (x : ObjectFact) → object f id ≡ Some x → Contains f.objects x × (x.object.0 ≡ id)
object_is f id x e =
    let is = says_is object_key (λ g. g.seq.0) never (λ g. Contains f.objects g) f.objects (is_elided f.elisions table.Object) (key_of id 0) x
    (each_by_recursion (λ g. Contains f.objects g) f.objects (λ g c. c)) e in
    (is.0, omega (arith, is.1))

-- a visible object is that of its id
pub of_objects : (f : Facts) (next : ℕ) (x : ObjectFact) → Contains (objects f next) x → (object f x.object.0 ≡ Some x) × (x.object.0 < next)
of_objects f next x c =
    let w = of_filter_map (object f) (ids_below next) x c in
    let is = object_is f w.0 x w.2 in
    let low = of_range 0 next w.0 w.1 in
    (ap (object f) is.1 ∙ w.2, omega (arith, is.1, low.1))

pub in_objects : (f : Facts) (next id : ℕ) (x : ObjectFact) → object f id ≡ Some x → id < next → Contains (objects f next) x
in_objects f next id x e l = in_filter_map (object f) (ids_below next) id x (in_range 0 next id (omega arith) (omega (arith, l))) e
