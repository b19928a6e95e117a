-- What the visible objects tell of the array.
use Rattle.std.proofs.Common.{◌≡◌, ◌≢◌, ℕ, zero, suc, ◌<◌, ◌≤◌, Bool, List, [], ◌∷◌, inl, inr, length, refl, sym, ap, ◌∙◌, arith, subst, All, Contains, Option, Some, None, option_map, slice_get, IfSome, IfNone}
use Rattle.std.proofs.lemmas.Bool.{false_from_ne_true, cases_lt}
use Rattle.std.proofs.lemmas.Option.{slice_get_past}
use Rattle.std.proofs.lemmas.List.Elements.{All-contains}
use Rattle.memory_spec.specs.Prelude.{Array, has, sectors_of, is_snapshot, objects, ObjectFact, facts, EntryReads, IsEntry, AreEntries, zip_left, entries_read, not_both}
use Rattle.array_spec.specs.Base.{is_snapshot as is_snapshot_kind}
use Rattle.array_memory.specs.Prelude.{Kept, IsKept}
use Rattle.command_spec.proofs.KeptLemmas.{visible_are}
use Rattle.volume_ops.specs.declared.listing.ObjectEntry.{ObjectEntry}
use Rattle.volume_ops.specs.OfArray.{OfArray, HasObject, HasFound, line_of}

-- the visible objects are the entries of the array
pub entries_are : (k : Kept) → IsKept k → OfArray k.memory (AreEntries k.objects)
entries_are k h contents array r = subst (λ l. AreEntries l array) (sym (visible_are k h)) (entries_read contents k.memory array r)

object_under : (array : Array) (name : List ℕ) (x : ObjectFact) → x.name ≡ name → IsEntry array x → HasObject array name x
object_under array name x named e = record {
  there = ap (has array) (sym named) ∙ e.there;
  kind = ap (is_snapshot array) (sym named) ∙ e.kind;
  size = ap (λ n. length (sectors_of array n)) (sym named) ∙ e.size;
}

-- the object that a look-up by name finds, or none
pub found_has : (k : Kept) (name : List ℕ) (o : Option ObjectFact) → IsKept k → IfSome o (λ x. Contains k.objects x × (x.name ≡ name)) → IfNone o (All (λ x. x.name ≢ name) k.objects)
    → OfArray k.memory (λ array. HasFound array name o)
found_has k name (Some x) h some none contents array r = object_under array name x some.1 ((entries_are k h contents array r).each x some.0)
found_has k name None h some none contents array r = false_from_ne_true (has array name) (λ there.
    let w = (entries_are k h contents array r).all name there in
    All-contains (λ (x : ObjectFact). x.name ≢ name) k.objects w.0 none w.1 w.2)

pub len_is : (k : Kept) (n : ℕ) → IsKept k → n ≡ length k.objects → OfArray k.memory (λ array. n ≡ length array)
len_is k n h e contents array r = e ∙ (entries_are k h contents array r).count

-- ---- the list of names

abbrev pub entry_of_object : ObjectFact → ObjectEntry
entry_of_object x = record { name = x.name; snapshot = is_snapshot_kind x.kind; sectors = x.sectors }

same_line : (n m : List ℕ) (s t : Bool) (a b : ℕ) → n ≡ m → s ≡ t → a ≡ b → ◌≡◌ {A = ObjectEntry} (record { name = n; snapshot = s; sectors = a }) (record { name = m; snapshot = t; sectors = b })
same_line n m s t a b i j k = rw (i, j, k) refl

pub line_at : (k : Kept) (i : ℕ) (x : ObjectFact) → IsKept k → Some x ≡ slice_get k.objects i → OfArray k.memory (λ array. Some (entry_of_object x) ≡ option_map line_of (slice_get array i))
line_at k i x h e contents array r =
    let at : slice_get (objects (facts k.memory.tables) k.memory.next.object) i ≡ Some x = ap (λ l. slice_get l i) (sym (visible_are k h)) ∙ sym e in
    let w = zip_left (EntryReads contents k.memory.staged (facts k.memory.tables)) (objects (facts k.memory.tables) k.memory.next.object) array i x r.reads at in
    ap (λ z. Some z) (same_line x.name w.0.name (is_snapshot_kind x.kind) w.0.snapshot x.sectors (length w.0.sectors) (sym w.2.name) (sym w.2.snapshot) (sym w.2.size)) ∙ sym (ap (option_map line_of) w.1)

slice_get_at : {X : Type 0} (xs : List X) (i : ℕ) → i < length xs → (x : X) × (slice_get xs i ≡ Some x)
slice_get_at [] i l = absurd (omega (arith, l))
slice_get_at (x ∷ xs) zero l = (x, refl)
slice_get_at (x ∷ xs) (suc i) l = slice_get_at xs i (omega (arith, l))

past : {X : Type 0} (xs : List X) (i : ℕ) → slice_get xs i ≡ None → length xs ≤ i
past xs i e = elim (cases_lt i (length xs)) [
  | inl less ↦ absurd (not_both (slice_get xs i) (slice_get_at xs i less).1 e)
  | inr high ↦ high
]

pub no_line : (k : Kept) (i : ℕ) → IsKept k → ◌≡◌ {A = Option ObjectFact} None (slice_get k.objects i) → OfArray k.memory (λ array. None ≡ option_map line_of (slice_get array i))
no_line k i h e contents array r =
    let long = past k.objects i (sym e) in
    let count = (entries_are k h contents array r).count in
    sym (ap (option_map line_of) (slice_get_past array i (omega (arith, long, count))))
