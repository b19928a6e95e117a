use Rattle.segment_writer.proofs.Prelude.{◌≡◌, List, map, sym, subst, ap, ◌∙◌, arith, AnyFact, bytes_of, MayBeStored, HoldsPatch, facts_of_tag}
use Rattle.pur_base.specs.declared.facts.AnyFact.TheVariants as any
use Rattle.segment_writer.proofs.CheckpointTags.{of_objects, of_mediums, of_addresses, of_segments, of_elisions}
use Rattle.segment_writer.proofs.checkpoint_appending.append_table.Goals as goal

pub append_patch-requires-clause-stored : goal.append_patch-requires-clause-stored
append_patch-requires-clause-stored g c =
    subst (MayBeStored (g.S.Shelf.shelf c.args.shelf.now) c.args.patch.now) (ap (facts_of_tag c.args.plan.now) c.in-1.is ∙ of_objects c.args.plan.now ∙ ap (map any.Object) (sym c.facts_of.ensures)) c.requires.stored

pub returns-in-1-clause-stand : goal.returns-in-1-clause-stand
returns-in-1-clause-stand g c h =
    subst (λ (l : List AnyFact). HoldsPatch (bytes_of (g.S.Shelf.shelf c.append_patch.new.shelf)) c.args.patch.now c.append_patch.new.lost.drives l)
    (sym (ap (facts_of_tag c.args.plan.now) c.in-1.is ∙ of_objects c.args.plan.now ∙ ap (map any.Object) (sym c.facts_of.ensures))) (c.append_patch.ensures.stand h)

pub append_patch-requires-in-2-clause-stored : goal.append_patch-requires-in-2-clause-stored
append_patch-requires-in-2-clause-stored g c =
    subst (MayBeStored (g.S.Shelf.shelf c.args.shelf.now) c.args.patch.now) (ap (facts_of_tag c.args.plan.now) c.in-2.is ∙ of_mediums c.args.plan.now ∙ ap (map any.Medium) (sym c.facts_of-in-2.ensures)) c.requires.stored

pub returns-in-2-clause-stand : goal.returns-in-2-clause-stand
returns-in-2-clause-stand g c h =
    subst (λ (l : List AnyFact). HoldsPatch (bytes_of (g.S.Shelf.shelf c.append_patch-in-2.new.shelf)) c.args.patch.now c.append_patch-in-2.new.lost.drives l)
    (sym (ap (facts_of_tag c.args.plan.now) c.in-2.is ∙ of_mediums c.args.plan.now ∙ ap (map any.Medium) (sym c.facts_of-in-2.ensures))) (c.append_patch-in-2.ensures.stand h)

pub append_patch-requires-in-3-clause-stored : goal.append_patch-requires-in-3-clause-stored
append_patch-requires-in-3-clause-stored g c =
    subst (MayBeStored (g.S.Shelf.shelf c.args.shelf.now) c.args.patch.now) (ap (facts_of_tag c.args.plan.now) c.in-3.is ∙ of_addresses c.args.plan.now ∙ ap (map any.Address) (sym c.facts_of-in-3.ensures)) c.requires.stored

pub returns-in-3-clause-stand : goal.returns-in-3-clause-stand
returns-in-3-clause-stand g c h =
    subst (λ (l : List AnyFact). HoldsPatch (bytes_of (g.S.Shelf.shelf c.append_patch-in-3.new.shelf)) c.args.patch.now c.append_patch-in-3.new.lost.drives l)
    (sym (ap (facts_of_tag c.args.plan.now) c.in-3.is ∙ of_addresses c.args.plan.now ∙ ap (map any.Address) (sym c.facts_of-in-3.ensures))) (c.append_patch-in-3.ensures.stand h)

pub append_patch-requires-in-4-clause-stored : goal.append_patch-requires-in-4-clause-stored
append_patch-requires-in-4-clause-stored g c =
    subst (MayBeStored (g.S.Shelf.shelf c.args.shelf.now) c.args.patch.now) (ap (facts_of_tag c.args.plan.now) c.in-4.is ∙ of_segments c.args.plan.now ∙ ap (map any.Segment) (sym c.facts_of-in-4.ensures)) c.requires.stored

pub returns-in-4-clause-stand : goal.returns-in-4-clause-stand
returns-in-4-clause-stand g c h =
    subst (λ (l : List AnyFact). HoldsPatch (bytes_of (g.S.Shelf.shelf c.append_patch-in-4.new.shelf)) c.args.patch.now c.append_patch-in-4.new.lost.drives l)
    (sym (ap (facts_of_tag c.args.plan.now) c.in-4.is ∙ of_segments c.args.plan.now ∙ ap (map any.Segment) (sym c.facts_of-in-4.ensures))) (c.append_patch-in-4.ensures.stand h)

pub append_patch-requires-in_default-clause-stored : goal.append_patch-requires-in_default-clause-stored
append_patch-requires-in_default-clause-stored g c =
    subst (MayBeStored (g.S.Shelf.shelf c.args.shelf.now) c.args.patch.now) (ap (facts_of_tag c.args.plan.now) (let e : c.args.patch.now.tag ≡ 5 = omega (arith, c.requires.headed.some_tag, c.requires.stored.lawful.tag) in e) ∙ of_elisions c.args.plan.now ∙ ap (map any.Elision) (sym c.facts_of-in_default.ensures)) c.requires.stored

pub returns-in_default-clause-stand : goal.returns-in_default-clause-stand
returns-in_default-clause-stand g c h =
    subst (λ (l : List AnyFact). HoldsPatch (bytes_of (g.S.Shelf.shelf c.append_patch-in_default.new.shelf)) c.args.patch.now c.append_patch-in_default.new.lost.drives l)
    (sym (ap (facts_of_tag c.args.plan.now) (let e : c.args.patch.now.tag ≡ 5 = omega (arith, c.requires.headed.some_tag, c.requires.stored.lawful.tag) in e) ∙ of_elisions c.args.plan.now ∙ ap (map any.Elision) (sym c.facts_of-in_default.ensures))) (c.append_patch-in_default.ensures.stand h)
