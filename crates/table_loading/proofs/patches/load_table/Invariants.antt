use Rattle.table_loading.proofs.Prelude.{map, take, AllZip, IsLoaded, OnlyReads, of_tag}
use Rattle.table_loading.proofs.patches.load_table.Given as goal

abbrev pub invariant-loop-index : goal.invariant-loop-index
invariant-loop-index g l =
    let a = g.S.Shelf.shelf l.fn.shelf in
    let b = g.S.Shelf.shelf l.shelf in
    record {
      reads : OnlyReads a b;
      loaded : AllZip (IsLoaded a b l.missing) (of_tag l.tag (take l.index l.patches)) (map (map g.F.TableFact.any) l.loaded.items);
      rest : g.S.Shelf.shelf_rest l.fn.shelf l.shelf;
    }
