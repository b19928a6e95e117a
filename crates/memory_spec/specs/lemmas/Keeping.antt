-- What facts say depends on the facts of some tables alone.
use Rattle.std.proofs.Common.{◌≡◌, ℕ, false, refl, sym, ap, ◌∙◌, Option, Some, None, option_map, Contains, IsSome}
use Rattle.std.specs.List.{AllByRecursion}
use Rattle.array_spec.specs.Prelude.{Facts, Table, medium_key, address_key, never, is_empty_range, key_of, says, objects, object, range, address, segment, is_elided, Target, ObjectFact, MediumFact, AddressFact, says_is, AreObjectsSound, AreMediumsSound}
use Rattle.pur_base.specs.declared.request.Table.TheVariants as table
use Rattle.memory_spec.specs.lemmas.Lists.{each_by_recursion, of_each}
use Rattle.memory_spec.specs.lemmas.Moved.{over_before}

-- the same objects, with mediums that are elided where they were
pub objects_as : (old new : Facts) (next : ℕ) → objects new next ≡ objects old next
    → ((x : ObjectFact) → Contains (objects old next) x → is_elided new.elisions table.Medium x.medium.0 ≡ is_elided old.elisions table.Medium x.medium.0)
    → ((x : ObjectFact) → Contains (objects old next) x → is_elided new.elisions table.Address x.medium.0 ≡ is_elided old.elisions table.Address x.medium.0)
    → AreObjectsSound old next → AreObjectsSound new next
objects_as old new next same mediums addresses h = record {
  names = rw same h.names;
  mediums = rw same h.mediums;
  range_kept = rw same (kept table.Medium mediums h.range_kept);
  address_kept = rw same (kept table.Address addresses h.address_kept);
  most = rw same h.most;
}
  where
    kept : (t : Table) → ((x : ObjectFact) → Contains (objects old next) x → is_elided new.elisions t x.medium.0 ≡ is_elided old.elisions t x.medium.0)
        → AllByRecursion (λ x. is_elided old.elisions t x.medium.0 ≡ false) (objects old next) → AllByRecursion (λ x. is_elided new.elisions t x.medium.0 ≡ false) (objects old next)
    kept t as_was all = each_by_recursion (λ x. is_elided new.elisions t x.medium.0 ≡ false) (objects old next)
        (λ x c. as_was x c ∙ of_each (λ x. is_elided old.elisions t x.medium.0 ≡ false) (objects old next) x all c)

-- ---- a table that is as it was

module _ (old new : Facts) (elisions : new.elisions ≡ old.elisions) where
  pub object_kept : new.objects ≡ old.objects → (id : ℕ) → object new id ≡ object old id
  object_kept e id = rw (e, elisions) refl

  pub range_kept : new.mediums ≡ old.mediums → (m start : ℕ) → range new m start ≡ range old m start
  range_kept e m start = rw (e, elisions) refl

  pub address_kept : new.addresses ≡ old.addresses → (m x : ℕ) → address new m x ≡ address old m x
  address_kept e m x = rw (e, elisions) refl

  pub segment_kept : new.segments ≡ old.segments → (id : ℕ) → segment new id ≡ segment old id
  segment_kept e id = rw (e, elisions) refl

  pub objects_sound : (next : ℕ) → objects new next ≡ objects old next → AreObjectsSound old next → AreObjectsSound new next
  objects_sound next same h = objects_as old new next same (λ x c. rw elisions refl) (λ x c. rw elisions refl) h

pub mediums_sound : (old new : Facts) → ((id : ℕ) → object new id ≡ object old id) → ((m start : ℕ) → range new m start ≡ range old m start) → AreMediumsSound old → AreMediumsSound new
mediums_sound old new same ranges h = record {
  disjoint = λ m x r s o p. h.disjoint m x r s (over_before old new ranges m x r o) (over_before old new ranges m x s p);
  within = λ id start x r e l f. h.within id start x r (sym (same id) ∙ e) l (sym (ranges x.medium.0 start) ∙ f);
  frozen = λ id m start x r e kind f. h.frozen id m start x r (sym (same id) ∙ e) kind (sym (ranges m start) ∙ f);
}

-- ---- what is said is said by a fact

-- the range is a fact of its key
pub range_is : (f : Facts) (m start : ℕ) (r : MediumFact) → range f m start ≡ Some r → Contains f.mediums r × (medium_key r ≡ key_of m start)
range_is f m start r e =
    says_is medium_key (λ g. g.seq.0) is_empty_range (λ g. Contains f.mediums g) f.mediums (is_elided f.elisions table.Medium) (key_of m start) r
    (each_by_recursion (λ g. Contains f.mediums g) f.mediums (λ g c. c)) e

-- the fact that the address is of
abbrev fact_at : Facts → ℕ → Option AddressFact
fact_at f k = says address_key (λ g. g.seq.0) never f.addresses (is_elided f.elisions table.Address) k

-- a fact says the address, under its own key too
pub address_is : (f : Facts) (m x : ℕ) (t : Target) → address f m x ≡ Some t
    → (g : AddressFact) × Contains f.addresses g × (address_key g ≡ key_of m x) × (address f g.medium.0 g.sector ≡ Some t)
address_is f m x t e = one (fact_at f (key_of m x)) refl e
  where
    found : (g : AddressFact) → fact_at f (key_of m x) ≡ Some g → Contains f.addresses g × (address_key g ≡ key_of m x)
    found g is = says_is address_key (λ h. h.seq.0) never (λ h. Contains f.addresses h) f.addresses (is_elided f.elisions table.Address) (key_of m x) g
        (each_by_recursion (λ h. Contains f.addresses h) f.addresses (λ h c. c)) is

    one : (o : Option AddressFact) → fact_at f (key_of m x) ≡ o → option_map (λ h. h.target) o ≡ Some t
        → (g : AddressFact) × Contains f.addresses g × (address_key g ≡ key_of m x) × (address f g.medium.0 g.sector ≡ Some t)
    one None is said = cc
    one (Some g) is said =
        let w = found g is in
        let key : key_of g.medium.0 g.sector ≡ key_of m x = w.1 in
        (g, w.0, w.1, ap (λ k. option_map (λ h. h.target) (fact_at f k)) key ∙ ap (λ o. option_map (λ h. h.target) o) is ∙ said)

-- nothing is what is left where there is no something
pub none_since : {X : Type 0} (o : Option X) → ((x : X) → o ≡ Some x → ⊥) → o ≡ None
none_since None h = refl
none_since (Some x) h = absurd (h x refl)

pub some_since : {X : Type 0} (o : Option X) → IsSome o → (x : X) × (o ≡ Some x)
some_since None h = cc
some_since (Some x) h = (x, refl)
