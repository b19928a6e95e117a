use Rattle.table_planner.proofs.planning.new_patches.Goals as goal

pub newest_with-requires-clause-last : goal.newest_with-requires-clause-last
newest_with-requires-clause-last c = rw c.segment_table.ensures c.requires.last

pub newest_elisions-requires : goal.newest_elisions-requires
newest_elisions-requires c = rw c.deref.ensures.value c.requires.elisions

pub returns : goal.returns
returns c = record {
  objects = rw (c.facts.ensures, c.objects.ensures) at c.in_ok-objects.ensures;
  mediums = rw c.mediums.ensures at c.in_ok-mediums.ensures;
  addresses = c.in_ok-addresses.ensures;
  segments = rw c.segment_table.ensures at c.in_ok-segments.ensures;
  elisions = rw c.deref.ensures.value at c.in_ok-elisions.ensures;
}
