-- A new volume reads as zeros, and all else as it was.
use Rattle.memory_spec.proofs.Prelude.{nat_tests, ◌≡◌, ℕ, zero, suc, ◌+◌, ◌≤◌, false, [], ◌∷◌, ◌++◌, refl, sym, ap, ◌∙◌, arith, replicate, Some, filter_map, eq-eqb, ne_eqb, cons_option, range_with_len, length-replicate, get_or-replicate, filter_map-append, filled, Facts, objects, object, unwritten, Zero, ObjectFact, is_snapshot, not_both, EntryReads, IsCreated, CreateReads, range_more, zip_append, zip_weaker, over_before, entry_same}

module _ (old new : Facts) (x : ObjectFact) (made : IsCreated old new x) where
  object_new : object new x.object.0 ≡ Some x
  object_new = made.objects x.object.0 ∙ rw (eq-eqb x.object.0 x.object.0 refl) refl

  object_same : (id : ℕ) → (id ≡ x.object.0 → ⊥) → object new id ≡ object old id
  object_same id ne = made.objects id ∙ rw (ne_eqb id x.object.0 ne) refl

  objects_kept : (a n : ℕ) → a + n ≤ x.object.0 → filter_map (object new) (range_with_len a n) ≡ filter_map (object old) (range_with_len a n)
  objects_kept a zero l = refl
  objects_kept a (suc n) l = rw (object_same a (λ e. omega (arith, l, e))) (ap (λ l. cons_option (object old a) l) (objects_kept (a + 1) n (omega (arith, l))))

  -- the new one is the last of the visible objects
  pub objects_more : objects new (x.object.0 + 1) ≡ objects old x.object.0 ++ x ∷ []
  objects_more =
      let next : ℕ = x.object.0 in
      let add : x.object.0 + 1 ≡ suc x.object.0 = omega arith in
      let at : 0 + x.object.0 ≡ x.object.0 = omega arith in
      ap (λ n. filter_map (object new) (range_with_len 0 n)) add
      ∙ ap (λ l. filter_map (object new) l) (range_more 0 x.object.0)
      ∙ filter_map-append (object new) (range_with_len 0 x.object.0) ((0 + x.object.0) ∷ [])
      ∙ ap (λ l. l ++ filter_map (object new) ((0 + x.object.0) ∷ [])) (objects_kept 0 x.object.0 (omega arith))
      ∙ ap (λ o. filter_map (object old) (range_with_len 0 x.object.0) ++ cons_option o []) (ap (object new) at ∙ object_new)

pub create_reads : CreateReads
create_reads contents staged old new x array fresh volume made read =
    rw (objects_more old new x made)
    (zip_append (EntryReads contents staged new) (objects old x.object.0) array x (record { name = x.name; snapshot = false; sectors = replicate x.sectors (filled 0) })
    (zip_weaker (EntryReads contents staged old) (EntryReads contents staged new) (λ y e r. entry_same contents staged old new made.ranges made.addresses y e r) (objects old x.object.0) array read) empty)
  where
    empty : EntryReads contents staged new x (record { name = x.name; snapshot = false; sectors = replicate x.sectors (filled 0) })
    empty = grind (arith, nat_tests, length-replicate, unwritten, not_both, over_before, get_or-replicate)
