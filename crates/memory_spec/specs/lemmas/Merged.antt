-- A merge leaves out facts alone, and says the same.
use Rattle.std.proofs.lemmas.Bool.Decides.{nat_tests}
use Rattle.std.proofs.Common.{◌≡◌, ℕ, suc, ◌+◌, ◌<◌, Bool, true, false, List, [], ◌++◌, length, take, drop, get_or, refl, sym, ap, ◌∙◌, arith, inl, inr, subst, Option, option_map, Contains, IsTrue, ◌==◌}
use Rattle.std.specs.Prelude.{◌&&◌}
use Rattle.std.proofs.lemmas.Bool.{or_left, false≢true}
use Rattle.std.proofs.lemmas.List.Elements.{Contains-append_left, Contains-append_right, Contains-append_cases}
use Rattle.std.proofs.lemmas.List.Folds.{list_any-append}
use Rattle.array_spec.specs.Prelude.{elision_key, never, apart, is_narrower, narrower_is_transitive, key_of, id_of, says, elides, is_elided, Table, AddressFact, ElisionFact}
use Rattle.pur_base.specs.Prelude.{IsTransitive}
use Rattle.pur_base.specs.declared.request.Table.TheVariants as table
use Rattle.pyramid.specs.Prelude.{Layers, IsLayered, IsApart, AreCovered, Grow, stays, facts_of, facts_in, patch_facts, patches_of, SaysTheSame}
use Rattle.pyramid.proofs.CoverLemmas.{cover_replaced}
use Rattle.pyramid.proofs.ElisionLemmas.{same_ids}
use Rattle.pyramid.proofs.PlaceLemmas.{facts_replaced, facts_split, says_merged}
use Rattle.memory_spec.specs.Tables.{Tables, FactOf, kind_of, layers_of, facts}
use Rattle.memory_spec.specs.Whole.{AreLayered}
use Rattle.memory_spec.specs.Flushing.{AreOf, HaveShrunk, IsShrunk}
use Rattle.memory_spec.specs.Merging.{IsMadeOfTwo, MergeShrinks, elided_by, with_patch, with_merged}
use Rattle.memory_spec.specs.lemmas.Elided.{says_where}
use Rattle.memory_spec.specs.lemmas.Flushed.{grows_all}

-- ---- of each table

-- it holds of the layers of all
abbrev pub Each : ((t : Table) → Layers (FactOf t) → Type 0) → Tables → Type 0
Each P ts = P table.Object ts.objects × P table.Medium ts.mediums × P table.Address ts.addresses × P table.Segment ts.segments × P table.Elision ts.elisions

-- of the one with the patch, and of the others as they were
pub each_with : (P : (t : Table) → Layers (FactOf t) → Type 0) (ts : Tables) (t : Table) (i : ℕ) (patch : Option (List (FactOf t))) → ((u : Table) → P u (layers_of u ts)) → P t (with_merged (layers_of t ts) i patch) → Each P (with_patch ts t i patch)
each_with P ts table.Object i patch old new = (new, old table.Medium, old table.Address, old table.Segment, old table.Elision)
each_with P ts table.Medium i patch old new = (old table.Object, new, old table.Address, old table.Segment, old table.Elision)
each_with P ts table.Address i patch old new = (old table.Object, old table.Medium, new, old table.Segment, old table.Elision)
each_with P ts table.Segment i patch old new = (old table.Object, old table.Medium, old table.Address, new, old table.Elision)
each_with P ts table.Elision i patch old new = (old table.Object, old table.Medium, old table.Address, old table.Segment, new)

pub layered_at : (ts : Tables) → AreLayered ts → (t : Table) → IsLayered (kind_of t).key (kind_of t).number (layers_of t ts).patches (layers_of t ts).unflushed
layered_at ts l table.Object = l.objects
layered_at ts l table.Medium = l.mediums
layered_at ts l table.Address = l.addresses
layered_at ts l table.Segment = l.segments
layered_at ts l table.Elision = l.elisions

-- ---- what is kept of one

-- no fact is new, they say the same, and where newer facts are wider they cover what was covered
record Keeps (ts : Tables) (t : Table) (l : Layers (FactOf t)) : Type 0 where
  within : AreOf (facts_in (layers_of t ts)) (facts_in l)
  same : IsApart (kind_of t).within → SaysTheSame (kind_of t).key (kind_of t).number (kind_of t).empty (elided_by ts t) (facts_in (layers_of t ts)) (facts_in l)
  covers : IsTransitive (kind_of t).within → ((oldest : Bool) (f : FactOf t) → IsTrue (stays (kind_of t).key (kind_of t).empty oldest (elided_by ts t) f)) → Grow (kind_of t).key (kind_of t).number (kind_of t).within (facts_in (layers_of t ts))
      → AreCovered (kind_of t).within (facts_in (layers_of t ts)) (facts_in l)

module _ {F : Type 0} where
  of_replaced : (ps : List (List F)) (i : ℕ) (patch : Option (List F)) (us : List F) → suc i < length ps → ((f : F) → Contains (patch_facts patch) f → Contains (get_or ps i [] ++ get_or ps (suc i) []) f)
      → AreOf (facts_of ps ++ us) (facts_of (take i ps ++ (patches_of patch ++ drop (suc (suc i)) ps)) ++ us)
  of_replaced ps i patch us l source f c = subst (λ l. Contains l f) (sym (facts_split ps i us l)) (elim (Contains-append_cases (facts_of (take i ps)) (patch_facts patch ++ behind) f (subst (λ l. Contains l f) (facts_replaced ps i patch us) c)) [
    | inl a ↦ Contains-append_left (facts_of (take i ps)) (two ++ behind) f a
    | inr b ↦ Contains-append_right (facts_of (take i ps)) (two ++ behind) f (elim (Contains-append_cases (patch_facts patch) behind f b) [
      | inl d ↦ Contains-append_left two behind f (source f d)
      | inr d ↦ Contains-append_right two behind f d
    ])
  ])
    where
      two : List F
      two = get_or ps i [] ++ get_or ps (suc i) []

      behind : List F
      behind = facts_of (drop (suc (suc i)) ps) ++ us

module _ (ts : Tables) (t : Table) (i : ℕ) (patch : Option (List (FactOf t))) (l : AreLayered ts) (h : IsMadeOfTwo ts t i patch) where
  keeps : Keeps ts t (with_merged (layers_of t ts) i patch)
  keeps =
      let k = kind_of t in
      let was = layers_of t ts in
      let there = h.0 in
      let one : suc i ≡ i + 1 = omega arith in
      let two : suc (suc i) ≡ i + 2 = omega arith in
      record {
        within = subst (λ n. AreOf (facts_in was) (facts_of (take i was.patches ++ (patches_of patch ++ drop n was.patches)) ++ was.unflushed)) two
            (of_replaced was.patches i patch was.unflushed (omega (arith, there)) (subst (λ n. (f : FactOf t) → Contains (patch_facts patch) f → Contains (get_or was.patches i [] ++ get_or was.patches n []) f) (sym one) h.1.source));
        same = λ apart. says_merged k.key k.number k.empty k.within (elided_by ts t) was.patches i patch was.unflushed there (layered_at ts l t).rises h.1 apart;
        covers = λ trans stay grow. cover_replaced k.key k.number k.within k.empty trans (i == 0) (elided_by ts t) (stay (i == 0)) was.patches i patch was.unflushed there h.1 grow;
      }

-- elisions stay in any patch
stay_all : (oldest : Bool) (f : ElisionFact) → IsTrue (stays elision_key never oldest (λ id. false) f)
stay_all true f = refl
stay_all false f = refl

none_lies : {F : Type 0} → IsApart {F = F} apart
none_lies f g e = cc

both_right : (a b : Bool) → IsTrue (a && b) → IsTrue b
both_right true b h = h
both_right false b h = absurd (false≢true h)

-- what elisions of patches elide is elided
stored_elide : (ts : Tables) (t : Table) (id : ℕ) → IsTrue (elided_by ts t id) → IsTrue (is_elided (facts ts).elisions t id)
stored_elide ts t id e = grind (arith, nat_tests, facts_of, list_any-append, elides, or_left, is_elided, both_right)

-- ---- of all

module _ (ts : Tables) (t : Table) (i : ℕ) (patch : Option (List (FactOf t))) (l : AreLayered ts) (h : IsMadeOfTwo ts t i patch) (grow : Grow elision_key (λ f. f.seq.0) is_narrower (facts ts).elisions) where
  abbrev Now : Tables
  Now = with_patch ts t i patch

  each : Each (Keeps ts) Now
  each = each_with (Keeps ts) ts t i patch (λ u. record { within = λ f c. c; same = λ apart wider more k. refl; covers = λ trans stay grow f c. inl c }) (keeps ts t i patch l h)

  same_elided : (u : Table) (id : ℕ) → is_elided (facts Now).elisions u id ≡ is_elided (facts ts).elisions u id
  same_elided u id = same_ids (facts ts).elisions (facts Now).elisions (each.4.covers narrower_is_transitive stay_all grow) each.4.within u id

  same_says : (u : Table) (now : Layers (FactOf u)) → Keeps ts u now → IsApart (kind_of u).within → (k : ℕ)
      → says (kind_of u).key (kind_of u).number (kind_of u).empty (facts_in now) (is_elided (facts Now).elisions u) k ≡ says (kind_of u).key (kind_of u).number (kind_of u).empty (facts_in (layers_of u ts)) (is_elided (facts ts).elisions u) k
  same_says u now keeps none k = says_where (kind_of u).key (kind_of u).number (kind_of u).empty (facts_in now) (is_elided (facts ts).elisions u) (is_elided (facts Now).elisions u) k (same_elided u (id_of k))
      ∙ keeps.same none (is_elided (facts ts).elisions u) (stored_elide ts u) k

  -- of tables that need not be sound, if newer elisions of a key are wider
  pub facts_shrink : HaveShrunk (facts ts) (facts Now)
  facts_shrink = record {
    objects = each.0.within;
    mediums = each.1.within;
    addresses = each.2.within;
    segments = each.3.within;
    elisions = each.4.within;
    same = record {
      objects = λ id. same_says table.Object Now.objects each.0 none_lies (key_of id 0);
      ranges = λ m start. same_says table.Medium Now.mediums each.1 none_lies (key_of m start);
      addresses = λ m x. ap (λ o. option_map (λ (f : AddressFact). f.target) o) (same_says table.Address Now.addresses each.2 none_lies (key_of m x));
    };
    same_segments = λ id. same_says table.Segment Now.segments each.3 none_lies (key_of id 0);
    same_elided = same_elided;
  }

pub merge_shrinks : MergeShrinks
merge_shrinks t i was now s l h = subst (λ n. IsShrunk was n) (sym h.2) (record { facts = facts_shrink was.tables t i h.0 l h.1 (grows_all (facts was.tables).elisions s.elisions); staged = refl; next = refl })
