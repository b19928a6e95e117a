use Rattle.table_planner.proofs.Prelude.{rules, arith, ◌≡◌, length, common_steps, facts, eliding}
use Rattle.table_planner.proofs.ElidingLemmas.{elided_now, made_all, say_addresses}
use Rattle.table_planner.proofs.unused.eliding.Goals as goal

pub returns : goal.returns
returns c =
    let k = c.args.memory.now in
    let kept = c.kept.ensures in
    let mediums = c.in_ok-mediums.mediums.items in
    let segments = c.in_ok-looked.looked.ids.items in
    let first = c.in_ok-facts.facts.items in
    let copy = c.in_ok-elided.elided in
    let mid = c.elide_all.new.elided in
    let now = c.elide_segments.new.elided in
    let w = c.in_ok-elide_segments.ensures.facts in
    let fs = c.elide_segments.new.facts.items in
    let copied = rw c.elided.ensures at c.in_ok-elided.ensures in
    let made_first = rw (c.deref-2.ensures.value, c.in_ok-items.ensures.items, c.deref.ensures.value, c.next-first.ensures) at c.in_ok-facts.ensures.facts in
    let ids_first = rw (c.deref-2.ensures.value, c.in_ok-items.ensures.items, c.deref.ensures.value) at c.in_ok-facts.ensures.ids in
    let long : c.len.result ≡ length first = first_of (search rules, grind (arith, common_steps)) in
    let made_more = rw (c.deref-3.ensures.value, long, c.next-first.ensures) at w.2 in
    let ids_more = rw c.deref-3.ensures.value at c.in_ok-elide_segments.ensures.ids in
    let apart = rw c.reserve_objects.ensures.rest at c.are_apart.ensures in
    record {
      unreached = c.in_ok-mediums.ensures;
      unused = c.in_ok-looked.ensures (facts (eliding k.memory fs).tables) (say_addresses k kept mediums segments first w.0 fs w.1 copy mid now copied made_first ids_first made_more ids_more apart);
      made = made_all k kept mediums segments first w.0 fs w.1 copy mid now copied made_first ids_first made_more ids_more apart;
      elided = rw c.reserve_objects.ensures.rest (elided_now k kept mediums segments first w.0 fs w.1 copy mid now copied made_first ids_first made_more ids_more apart);
      room = c.in_ok-reserve_objects.ensures.room;
    }
