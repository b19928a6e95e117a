-- The facts of the new patches that a checkpoint plans.
use Rattle.std.specs.Prelude.{ℕ, List, [], ◌++◌, ◌==◌, if◌then◌else◌, map}
use Rattle.array_spec.specs.Prelude.{AnyFact}
use Rattle.pur_base.specs.declared.facts.AnyFact.TheVariants as any
use Rattle.pyramid.specs.Prelude.{patch_facts, patches_of}
use Rattle.array_memory.specs.declared.plan.Plan.{Plan}

-- the facts of each new patch, by table
abbrev pub new_facts : Plan → List (List AnyFact)
new_facts plan =
    map (map any.Object) (patches_of plan.objects)
    ++ (map (map any.Medium) (patches_of plan.mediums)
    ++ (map (map any.Address) (patches_of plan.addresses)
    ++ (map (map any.Segment) (patches_of plan.segment_facts)
    ++ map (map any.Elision) (patches_of plan.elisions))))

-- the facts of the new patch of the table with that tag
unfoldable pub facts_of_tag : Plan → ℕ → List AnyFact
facts_of_tag plan tag =
    if tag == 1 then map any.Object (patch_facts plan.objects)
    else if tag == 2 then map any.Medium (patch_facts plan.mediums)
    else if tag == 3 then map any.Address (patch_facts plan.addresses)
    else if tag == 4 then map any.Segment (patch_facts plan.segment_facts)
    else if tag == 5 then map any.Elision (patch_facts plan.elisions)
    else []
