-- Which mediums the visible objects reach.
use Rattle.table_planner.proofs.Prelude.{◌≡◌, ◌↔◌, ℕ, List, map, sym, ap, subst, ◌∙◌, arith, Some, Contains, key_of, range, objects, is_elided, is_within, within_elided, ObjectFact, MediumFact, IsFact, facts_in, in_map, of_map, facts, IsSound, all_mediums, range_is, IsReached, of_object, of_range, MediumId, ranges_of, ELIDED_MEDIUMS, AreLowestUnreachedOf, Kept, IsKept}
use Rattle.pur_base.specs.declared.request.Table.TheVariants as table
use Rattle.pur_base.specs.declared.facts.AnyFact.TheVariants as any
use Rattle.medium_table.specs.Prelude.{LeadsTo, itself, onward, IsVisible, AreDescending, AreLowestUnreached, unreached_alike}
use Rattle.medium_table.specs.Reaching as reaching
use Rattle.medium_table.proofs.ReachLemmas.{leads_further}
use Rattle.command_spec.proofs.KeptLemmas.{visible_are}
use Rattle.command_spec.proofs.FlattenedLemmas.{leads_down}
use Rattle.array_memory.proofs.ResolveLemmas.{seen_range}

module _ (k : Kept) (h : IsKept k) where
  -- a range that is seen by the ranges of elided mediums
  abbrev Seen : MediumFact → Type 0
  Seen r = IsVisible (facts_in k.memory.tables.mediums) (is_within (ranges_of k.elided table.Medium)) r

  abbrev Reached : ℕ → Type 0
  Reached id = IsReached (facts k.memory.tables) k.memory.next.object id

  -- what a reached medium leads to is reached
  reached_on : (a b : ℕ) → LeadsTo Seen a b → Reached a → Reached b
  reached_on a b itself c = c
  reached_on a b (onward r seen rest) c = reached_on r.target.0 b rest (of_range {medium = r.medium.0} {r = r} c (sym (seen_range k h r.medium.0 r.start) ∙ seen))

  abbrev From : List MediumId
  From = map (λ (x : ObjectFact). x.medium) k.objects

  -- some object's medium leads to it
  abbrev Led : ℕ → Type 0
  Led id = (first : MediumId) × Contains From first × LeadsTo Seen first.0 id

  led_reached : (id : ℕ) → Led id → Reached id
  led_reached id w =
      let x = of_map (λ (y : ObjectFact). y.medium) k.objects w.0 w.1 in
      let there : Contains (objects (facts k.memory.tables) k.memory.next.object) x.0 = subst (λ l. Contains l x.0) (visible_are k h) x.1 in
      reached_on w.0.0 id w.2 (subst Reached (ap (λ (m : MediumId). m.0) (sym x.2)) (of_object there))

  reached_led : (id : ℕ) → Reached id → Led id
  reached_led id (of_object {x = x} c) = (x.medium, in_map (λ (y : ObjectFact). y.medium) k.objects x (subst (λ l. Contains l x) (sym (visible_are k h)) c), itself)
  reached_led id (of_range {medium = m} {r = r} c e) =
      let w = reached_led m c in
      let key : key_of r.medium.0 r.start ≡ key_of m r.start = (range_is (facts k.memory.tables) m r.start r e).1 in
      let at : m ≡ r.medium.0 = omega (arith, key) in
      (w.0, w.1, leads_further Seen w.0.0 m r (seen_range k h r.medium.0 r.start ∙ ap (λ n. range (facts k.memory.tables) n r.start) (sym at) ∙ e) at w.2)

  -- the same, told of all tables
  pub led_is : (id : ℕ) → reaching.IsReached Seen From (record { 0 = id }) ↔ Reached id
  led_is id = (led_reached id, reached_led id)

  -- so these are the lowest that aren't reached
  pub lowest_of : (from : List MediumId) (reached : List MediumId) (ids : List ℕ) → from ≡ From → ((m : MediumId) → Contains reached m ↔ reaching.IsReached Seen from m)
      → AreLowestUnreached (is_within (ranges_of k.elided table.Medium)) (λ id. Contains reached (record { 0 = id })) k.memory.next.medium ELIDED_MEDIUMS ids → AreLowestUnreachedOf k.memory ids
  lowest_of from reached ids is all lowest =
      unreached_alike (is_within (ranges_of k.elided table.Medium)) (is_elided (facts k.memory.tables).elisions table.Medium) (λ id. Contains reached (record { 0 = id })) Reached k.memory.next.medium ELIDED_MEDIUMS ids
      (λ id. sym (within_elided (facts k.memory.tables).elisions table.Medium (ranges_of k.elided table.Medium) id (h.elided table.Medium (λ e. cc))))
      (λ id.
      let a = all (record { 0 = id }) in
      let b = led_is id in (
        λ c. b.0 (subst (λ (l : List MediumId). reaching.IsReached Seen l (record { 0 = id })) is (a.0 c)),
        λ c. a.1 (subst (λ (l : List MediumId). reaching.IsReached Seen l (record { 0 = id })) (sym is) (b.1 c)),
      ))
      lowest

  -- visible ranges lead down
  pub descending : IsSound k.memory → AreDescending (facts_in k.memory.tables.mediums) (is_within (ranges_of k.elided table.Medium))
  descending sound = record {
    down = λ r v. (leads_down k.memory sound r.medium.0 r (said r v)).0.down;
    mediums = λ r v. let fact = is_fact r (said r v) in let id = fact.lawful.id.1 in omega (arith, id);
    starts = λ r v. (is_fact r (said r v)).fits;
  }
    where
      said : (r : MediumFact) → Seen r → range (facts k.memory.tables) r.medium.0 r.start ≡ Some r
      said r v = sym (seen_range k h r.medium.0 r.start) ∙ v

      is_fact : (r : MediumFact) → range (facts k.memory.tables) r.medium.0 r.start ≡ Some r → IsFact (any.Medium r)
      is_fact r e = sound.fit (any.Medium r) (all_mediums (facts k.memory.tables) r (range_is (facts k.memory.tables) r.medium.0 r.start r e).0)
