-- A unit that the tables leave free is used by no record that may be given.
use Rattle.array_spec.proofs.Prelude.{◌≡◌, inl, List, subst, sym, View, Conditions, AnyFact, BootSlot, of_members, BootRecord, IsFree, TablesStand, IsViewOf, all_facts, FreeIsUnused, one_patches}
use Rattle.array_spec.specs.lemmas.Members.{are_enough, are_some}

pub free_is_unused : FreeIsUnused
free_is_unused shelf image missing slot boot patches base at unit sound none_left tables alone free = record {
  data_unit = free.data_unit;
  unused = λ slot2 boot2 more view patches2 g v there. inl (same slot2 boot2 more view patches2 (alone slot2 boot2 g) v there);
}
  where
    same : (slot2 : BootSlot) (boot2 : BootRecord) (more : Conditions) (view : View) (patches2 : List (List AnyFact)) → (slot2 ≡ slot) × (boot2 ≡ boot)
        → IsViewOf shelf image missing more view → TablesStand shelf (of_members slot2 boot2 view) boot2 patches2 → IsFree boot2 (all_facts patches2) at unit
    same slot2 boot2 more view patches2 e v there =
        let here : TablesStand shelf (of_members slot boot view) boot patches2 = subst (λ (b : BootRecord). TablesStand shelf (of_members slot b view) b patches2) e.1
        (subst (λ (t : BootSlot). TablesStand shelf (of_members t boot2 view) boot2 patches2) e.0 there) in
        let held = tables.each (of_members slot boot view) (are_some shelf image missing slot boot sound more view v none_left) (are_enough shelf image missing slot boot sound more view v) in
        let ps : patches2 ≡ patches = one_patches shelf (of_members slot boot view) boot patches2 patches here held.0 in
        subst (λ (b : BootRecord). IsFree b (all_facts patches2) at unit) (sym e.1)
        (subst (λ (fs : List (List AnyFact)). IsFree boot (all_facts fs) at unit) (sym ps) free)
