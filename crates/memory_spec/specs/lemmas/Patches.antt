-- The facts of patches, table by table.
use Rattle.std.proofs.Common.{arith}
use Rattle.std.proofs.lemmas.Bool.Decides.{nat_tests}
use Rattle.std.proofs.Common.{◌≡◌, ◌≢◌, ℕ, false, List, [], ◌∷◌, ◌++◌, refl, sym, ap, ◌∙◌, map, filter_map, Option, Some, None, append-nil, subst, All}
use Rattle.std.specs.Prelude.{◌||◌}
use Rattle.std.specs.List.{cons_option}
use Rattle.std.proofs.lemmas.Grind.{flat_map-append}
use Rattle.std.proofs.lemmas.List.Elements.{filter_map-append, All-head, All-tail}
use Rattle.array_spec.specs.Prelude.{Facts, Table, segment_key, never, key_of, says, elides, is_elided, segment, segments, ids_below, by_table, as_object, as_medium, AnyFact, ElisionFact, in_patches, all_facts}
use Rattle.pur_base.specs.declared.request.Table.TheVariants as table
use Rattle.pur_base.specs.declared.facts.AnyFact.TheVariants as any
use Rattle.pyramid.specs.Prelude.{Layers, facts_of, facts_in}
use Rattle.memory_spec.specs.Tables.{Tables, facts, flushed, patches, all_of}
use Rattle.memory_spec.specs.Memory.{Memory, FactsRead}
use Rattle.memory_spec.specs.Whole.{IsWhole, PatchesAreFlushed, PatchesAreAll, PatchesRead}

-- ---- patches as one list

map-append : {A B : Type 0} (f : A → B) (xs ys : List A) → map f (xs ++ ys) ≡ map f xs ++ map f ys
map-append f [] ys = refl
map-append f (x ∷ xs) ys = ap (λ l. f x ∷ l) (map-append f xs ys)

one_table : {F : Type 0} (c : F → AnyFact) (ps : List (List F)) → in_patches (map (map c) ps) ≡ map c (facts_of ps)
one_table c [] = refl
one_table c (p ∷ ps) = ap (λ l. map c p ++ l) (one_table c ps) ∙ sym (map-append c p (facts_of ps))

joined : (ps qs : List (List AnyFact)) (xs ys : List AnyFact) → in_patches ps ≡ xs → in_patches qs ≡ ys → in_patches (ps ++ qs) ≡ xs ++ ys
joined ps qs xs ys e f = flat_map-append (λ l. l) ps qs ∙ ap (λ l. l ++ in_patches qs) e ∙ ap (λ l. xs ++ l) f

-- the facts in the patches are those of the tables, one table behind another
pub in_patches_are : (t : Tables) → in_patches (patches t) ≡ all_of (flushed t)
in_patches_are t = grind (arith, nat_tests, one_table, joined, facts_of)

-- ---- one list by its tables

own : {F : Type 0} (h : AnyFact → Option F) (c : F → AnyFact) → ((f : F) → h (c f) ≡ Some f) → (fs : List F) → filter_map h (map c fs) ≡ fs
own h c is [] = refl
own h c is (f ∷ fs) = ap (λ o. cons_option o (filter_map h (map c fs))) (is f) ∙ ap (λ l. f ∷ l) (own h c is fs)

other : {F G : Type 0} (h : AnyFact → Option G) (c : F → AnyFact) → ((f : F) → h (c f) ≡ None) → (fs : List F) → filter_map h (map c fs) ≡ []
other h c is [] = refl
other h c is (f ∷ fs) = ap (λ o. cons_option o (filter_map h (map c fs))) (is f) ∙ other h c is fs

five : {G : Type 0} (h : AnyFact → Option G) (f : Facts) (o m a s e : List G) → filter_map h (map any.Object f.objects) ≡ o → filter_map h (map any.Medium f.mediums) ≡ m
    → filter_map h (map any.Address f.addresses) ≡ a → filter_map h (map any.Segment f.segments) ≡ s → filter_map h (map any.Elision f.elisions) ≡ e
    → filter_map h (all_of f) ≡ o ++ (m ++ (a ++ (s ++ e)))
five {G} h f o m a s e po pm pa ps pe = grind (arith, nat_tests, filter_map, filter_map-append)

same_facts : (f g : Facts) → f.objects ≡ g.objects → f.mediums ≡ g.mediums → f.addresses ≡ g.addresses → f.segments ≡ g.segments → f.elisions ≡ g.elisions → f ≡ g
same_facts f g o m a s e = grind (arith, nat_tests)

pub by_table_all : (f : Facts) → by_table (all_of f) ≡ f
by_table_all f = grind (arith, nat_tests, same_facts, by_table, five, as_object, own, other, append-nil, as_medium)

pub patches_are_flushed : PatchesAreFlushed
patches_are_flushed t = ap by_table (in_patches_are t) ∙ by_table_all (flushed t)

-- a table without unflushed facts
pub whole_table : {F : Type 0} (l : Layers F) → l.unflushed ≡ [] → facts_of l.patches ≡ facts_in l
whole_table l e = sym (ap (λ u. facts_of l.patches ++ u) e ∙ append-nil (facts_of l.patches))

pub flushed_are_all : (m : Memory) → IsWhole m → flushed m.tables ≡ facts m.tables
flushed_are_all m w = same_facts (flushed m.tables) (facts m.tables) (whole_table m.tables.objects w.objects) (whole_table m.tables.mediums w.mediums) (whole_table m.tables.addresses w.addresses)
    (whole_table m.tables.segments w.segments) (whole_table m.tables.elisions w.elisions)

pub patches_are_all : PatchesAreAll
patches_are_all m w = patches_are_flushed m.tables ∙ flushed_are_all m w

pub patches_read : PatchesRead
patches_read contents m array w r =
    subst (λ f. FactsRead contents [] f m.next.object array) (sym (patches_are_all m w)) (subst (λ s. FactsRead contents s (facts m.tables) m.next.object array) w.staged r.reads)

-- ---- what patches elide, and the segments that they show

-- elisions of objects elide nothing of another table
not_of : (t : Table) → t ≢ table.Object → (f : ElisionFact) (id : ℕ) → f.table ≡ table.Object → elides t id f ≡ false
not_of table.Object isnt f id is = absurd (isnt refl)
not_of table.Medium isnt f id is = rw is refl
not_of table.Address isnt f id is = rw is refl
not_of table.Segment isnt f id is = rw is refl
not_of table.Elision isnt f id is = rw is refl

none_elided : (t : Table) → t ≢ table.Object → (es : List ElisionFact) (id : ℕ) → All (λ e. e.table ≡ table.Object) es → is_elided es t id ≡ false
none_elided t isnt [] id objects = refl
none_elided t isnt (e ∷ es) id objects =
    rw (not_of t isnt e id (All-head (λ (f : ElisionFact). f.table ≡ table.Object) e es objects)) (none_elided t isnt es id (All-tail (λ (f : ElisionFact). f.table ≡ table.Object) e es objects))

elided_beside : (t : Table) → t ≢ table.Object → (fs es : List ElisionFact) (id : ℕ) → All (λ e. e.table ≡ table.Object) es → is_elided fs t id ≡ is_elided (fs ++ es) t id
elided_beside t isnt [] es id objects = sym (none_elided t isnt es id objects)
elided_beside t isnt (f ∷ fs) es id objects = ap (λ b. elides t id f || b) (elided_beside t isnt fs es id objects)

-- Where of elisions those of objects alone are unflushed, patches show what is elided of isnt tables.
pub same_elisions : (ts : Tables) → All (λ e. e.table ≡ table.Object) ts.elisions.unflushed → (t : Table) → t ≢ table.Object → (id : ℕ) → is_elided (all_facts (patches ts)).elisions t id ≡ is_elided (facts ts).elisions t id
same_elisions ts only_objects t isnt id = ap (λ (f : Facts). is_elided f.elisions t id) (patches_are_flushed ts) ∙ elided_beside t isnt (facts_of ts.elisions.patches) ts.elisions.unflushed id only_objects

-- Where no segment is unflushed, and of elisions those of objects alone, patches show the segments that there are.
pub same_segment : (t : Tables) → t.segments.unflushed ≡ [] → All (λ e. e.table ≡ table.Object) t.elisions.unflushed → (id : ℕ) → segment (all_facts (patches t)) id ≡ segment (facts t) id
same_segment t no_segments only_objects id =
    ap (λ (f : Facts). segment f id) (patches_are_flushed t)
    ∙ (λ i. says segment_key (λ f. f.seq.0) never (whole_table t.segments no_segments i) (λ k. elided_beside table.Segment (λ e. cc) (facts_of t.elisions.patches) t.elisions.unflushed k only_objects i) (key_of id 0))

pub patches_show : (t : Tables) (n : ℕ) → t.segments.unflushed ≡ [] → All (λ e. e.table ≡ table.Object) t.elisions.unflushed → segments (all_facts (patches t)) n ≡ segments (facts t) n
patches_show t n no_segments only_objects = λ i. filter_map (λ id. same_segment t no_segments only_objects id i) (ids_below n)
