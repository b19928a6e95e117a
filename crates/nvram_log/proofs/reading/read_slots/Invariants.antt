use Rattle.nvram_log.proofs.Prelude.{◌≡◌, ◌<◌, ℕ, false, length, slice_index_or, is_open, nvram, AreNumbered, AreShownAs, LOG_SLOTS, OnlyReads}
use Rattle.nvram_log.proofs.reading.read_slots.Given as goal

abbrev pub invariant-loop-i : goal.invariant-loop-i
invariant-loop-i g l =
    let a = g.S.Shelf.shelf l.initial.shelf in
    let bytes = (a.disk (nvram l.device.0)).bytes in
    record {
      reads : OnlyReads g.S.Shelf.shelf g.S.Shelf.shelf_rest l.initial.shelf l.shelf;
      size : length l.records.items ≡ l.i;
      numbered : AreNumbered l.flushed l.records.items;
      shows : a.honest → ((k : ℕ) → k < LOG_SLOTS → slice_index_or l.flags k false ≡ is_open k bytes) → AreShownAs bytes l.flushed l.records.items;
    }
