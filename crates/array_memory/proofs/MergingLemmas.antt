-- What is kept when a merged patch is put.
use Rattle.array_memory.proofs.Prelude.{◌≡◌, ℕ, ◌+◌, ◌<◌, refl, sym, ◌∙◌, subst, NUMBER_LIMIT, Memory, facts, IsSound, HaveShrunk, AreLayered, merge_shrinks, shrunk_sound, ranges_of, Merged, memory_with, table_of, IsMergedOf, Kept, IsKept, numbered_sound, sound_as, sound_ranges, sound_sizes}
use Rattle.table_plan.proofs.MergeLemmas.{is_merge}
use Rattle.array_memory.proofs.FinishLemmas.{ranges_where}

-- two patches of a table stand as one, and so many ids were given to segments of patches
module _ (k n : Kept) (i count : ℕ) (p : Merged) where
  abbrev With : Memory
  With = memory_with k.memory i p count

  abbrev pub Put : Kept
  Put = record k { memory = record With { tables = n.memory.tables }; name_room = n.name_room; segment_room = n.segment_room }

  pub merge_kept : IsKept k → IsSound k.memory → AreLayered k.memory.tables → IsMergedOf k.memory i p → k.memory.next.patch_segment + count < NUMBER_LIMIT → facts n.memory.tables ≡ facts With.tables → n ≡ Put → IsKept n
  merge_kept h s l made left same rest =
      let shrunk = merge_shrinks (table_of p) i k.memory (record k.memory { tables = With.tables }) s l (is_merge k.memory i p made) in
      let says : HaveShrunk (facts k.memory.tables) (facts n.memory.tables) = subst (λ f. HaveShrunk (facts k.memory.tables) f) (sym same) shrunk.facts in
      let sound : IsSound Put.memory = sound_as With Put.memory same refl refl (numbered_sound (record k.memory { tables = With.tables }) count (shrunk_sound k.memory _ s shrunk) left) in
      subst IsKept (sym rest) (record {
        objects = record {
          ascends = h.objects.ascends;
          said = λ f c. says.same.objects f.object.0 ∙ h.objects.said f c;
          all = λ f few said. h.objects.all f few (sym (says.same.objects f.object.0) ∙ said);
        };
        segments = record {
          ascends = h.segments.ascends;
          said = λ f c. says.same_segments f.segment.0 ∙ h.segments.said f c;
          all = λ f few said. h.segments.all f few (sym (says.same_segments f.segment.0) ∙ said);
        };
        elided = λ x ne. ranges_where (facts k.memory.tables).elisions (facts n.memory.tables).elisions x (ranges_of k.elided x) (says.same_elided x) (h.elided x ne);
        next = sound.next;
        ids = sound.ids;
        numbers = sound.numbers;
        sizes = sound_sizes Put.memory sound;
        ranges = sound_ranges Put.memory sound;
      })
