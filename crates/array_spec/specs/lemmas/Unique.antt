-- In a view a record's patches hold one list of facts, and its tables one array.
use Rattle.std.proofs.lemmas.Bool.Decides.{nat_tests}
use Rattle.std.proofs.Common.{◌≡◌, ℕ, suc, ◌*◌, ◌/◌, ◌%◌, ◌<◌, List, [], ◌∷◌, length, refl, sym, subst, ◌∙◌, arith}
use Rattle.std.specs.Prelude.{Option, Some, slice_get, slice_index_or}
use Rattle.std.specs.List.{AllZip}
use Rattle.std.proofs.lemmas.List.{ext_get_or}
use Rattle.boot_codec.specs.Prelude.{bytes_at, View, Entry, Facts, segment, objects, AnyFact, ObjectFact, SegmentFact, Target, Stored, Zero}
use Rattle.boot_codec.specs.declared.patch.Patch.{Patch}
use Rattle.segment_codec.specs.Prelude.{SectorStands}
use Rattle.fact_codec.specs.Fact.{Decodes}
use Rattle.fact_codec.proofs.OneFact.{one_fact}
use Rattle.array_spec.specs.Base.{TargetStands, MediumReads, EntryStands, BaseStands}
use Rattle.array_spec.specs.Sound.{AreMediumsSound}
use Rattle.array_spec.specs.Stored.{FactStands, PatchStands, all_facts, places_of_part}
use Rattle.array_spec.specs.lemmas.Mediums.{reads_one}
use Rattle.array_spec.specs.lemmas.OneSector.{one_sector}
use Rattle.array_spec.specs.StoredLaws.{OnePatches, OneBase}

-- ---- lists

pub same_lists : {A : Type 0} (xs ys : List A) → length xs ≡ length ys → ((k : ℕ) (x y : A) → slice_get xs k ≡ Some x → slice_get ys k ≡ Some y → x ≡ y) → xs ≡ ys
same_lists [] [] e each = refl
same_lists [] (y ∷ ys) e each = absurd (omega (arith, e))
same_lists (x ∷ xs) [] e each = absurd (omega (arith, e))
same_lists (x ∷ xs) (y ∷ ys) e each =
    let first : x ≡ y = each 0 x y refl refl in
    let others : xs ≡ ys = same_lists xs ys (omega (arith, e)) (λ k a b p q. each (suc k) a b p q) in
    λ i. first i ∷ others i

-- ---- patches

one_at : (view : View) (p : Patch) (k : ℕ) (f g : AnyFact) → FactStands view p k f → FactStands view p k g → f ≡ g
one_at view p k f g a b =
    let same : a.0 ≡ b.0 = one_sector view (places_of_part p (k / 8 / 840)) (k / 8 % 840) a.0 b.0 a.1 b.1 in
    one_fact (bytes_at (64 * (k % 8)) 64 b.0) f g (subst (λ (s : List ℕ). Decodes (bytes_at (64 * (k % 8)) 64 s) f) same a.2) b.2

one_patch : (view : View) (p : Patch) (fs gs : List AnyFact) → PatchStands view p fs → PatchStands view p gs → fs ≡ gs
one_patch view p fs gs a b = same_lists fs gs (a.count ∙ sym b.count) (λ k f g x y. one_at view p k f g (a.each k f x) (b.each k g y))

pub all_patches : (view : View) (ps : List Patch) (fss gss : List (List AnyFact)) → AllZip (PatchStands view) ps fss → AllZip (PatchStands view) ps gss → fss ≡ gss
all_patches view [] [] [] a b = refl
all_patches view [] [] (g ∷ gss) a b = absurd b
all_patches view [] (f ∷ fss) gss a b = absurd a
all_patches view (p ∷ ps) [] gss a b = absurd a
all_patches view (p ∷ ps) (f ∷ fss) [] a b = absurd b
all_patches view (p ∷ ps) (f ∷ fss) (g ∷ gss) a b =
    let first : f ≡ g = one_patch view p f g a.0 b.0 in
    let others : fss ≡ gss = all_patches view ps fss gss a.1 b.1 in
    λ i. first i ∷ others i

pub one_patches : OnePatches
one_patches shelf members boot ps qs a b = all_patches members boot.patches ps qs a.patches_stand b.patches_stand

-- ---- the base

one_target : (view : View) (facts : Facts) (t : Target) (a b : List ℕ) → TargetStands view facts t a → TargetStands view facts t b → a ≡ b
one_target view facts (Stored at) a b (d, is, s) (e, is2, t) =
    let same : d ≡ e = one_of d e (segment facts at.segment.0) is is2 in
    one_sector view e.places at.index a b (subst (λ (x : SegmentFact). SectorStands view x.places at.index a) same s) t
  where
    one_of : (d e : SegmentFact) (o : Option SegmentFact) → o ≡ Some d → o ≡ Some e → d ≡ e
    one_of d e o p q = cc
one_target view facts Zero a b s t = s ∙ sym t

one_reading : (view : View) (facts : Facts) (medium place : ℕ) (a b : List ℕ) → AreMediumsSound facts → MediumReads view facts medium place a → MediumReads view facts medium place b → a ≡ b
one_reading view facts medium place a b sound r s = grind (arith, nat_tests, reads_one, one_target)

one_entry : (view : View) (facts : Facts) (x : ObjectFact) (e f : Entry) → AreMediumsSound facts → EntryStands view facts x e → EntryStands view facts x f → e ≡ f
one_entry view facts x e f sound a b =
    let names : e.name ≡ f.name = a.name ∙ sym b.name in
    let kinds : e.snapshot ≡ f.snapshot = a.snapshot ∙ sym b.snapshot in
    let sizes : length e.sectors ≡ length f.sectors = a.size ∙ sym b.size in
    let sectors : e.sectors ≡ f.sectors = ext_get_or [] e.sectors f.sectors sizes
    (λ i lt. let below : i < x.sectors = omega (arith, lt, a.size) in
    one_reading view facts x.medium.0 i (slice_index_or e.sectors i []) (slice_index_or f.sectors i []) sound (a.sectors i below) (b.sectors i below)) in
    λ i. record { name = names i; snapshot = kinds i; sectors = sectors i }

all_entries : (view : View) (facts : Facts) (xs : List ObjectFact) (es fs : List Entry) → AreMediumsSound facts → AllZip (EntryStands view facts) xs es → AllZip (EntryStands view facts) xs fs → es ≡ fs
all_entries view facts [] [] [] sound a b = refl
all_entries view facts [] [] (f ∷ fs) sound a b = absurd b
all_entries view facts [] (e ∷ es) fs sound a b = absurd a
all_entries view facts (x ∷ xs) [] fs sound a b = absurd a
all_entries view facts (x ∷ xs) (e ∷ es) [] sound a b = absurd b
all_entries view facts (x ∷ xs) (e ∷ es) (f ∷ fs) sound a b =
    let first : e ≡ f = one_entry view facts x e f sound a.0 b.0 in
    let others : es ≡ fs = all_entries view facts xs es fs sound a.1 b.1 in
    λ i. first i ∷ others i

pub one_base : OneBase
one_base shelf members boot a b h k =
    let same : h.patches ≡ k.patches = one_patches shelf members boot h.patches k.patches h.tables k.tables in
    all_entries members (all_facts k.patches) (objects (all_facts k.patches) boot.next.object) a b k.tables.sound.mediums
    (subst (λ (ps : List (List AnyFact)). BaseStands members (all_facts ps) boot.next.object a) same h.base_stands) k.base_stands
