use Rattle.shelf_init.proofs.Prelude.{inl, inr, ◌≡◌, ◌<◌, ℕ, List, Bool, length, ap, ◌∙◌, subst, arith, OnOk, drive, SECTOR_BYTES, B, gate_place, Written, ran_then, ran_more, all_drives, IsMember}
use Rattle.shelf_init.proofs.FirstLemmas.{named_below}
use Rattle.shelf_init.proofs.CallLemmas.{storing_first, storing_both, if_stored, one_drive, on_there, wrote_there, written_there}
use Rattle.shelf_init.proofs.storing.store_first.Goals as goal

pub write_chosen-requires-2-clause-chosen : goal.write_chosen-requires-2-clause-chosen
write_chosen-requires-2-clause-chosen g c i member =
    let below : i < (g.S.Shelf.shelf c.args.shelf.now).drives = named_below (g.S.Shelf.shelf c.args.shelf.now).drives i (subst (λ (l : List Bool). IsMember l i) (c.all_drives-drives.ensures ∙ ap all_drives c.drives.ensures) member) in
    omega (arith, below, c.write_chosen.ensures.ran.on.continues.drives)

pub returns-in_err-write_chosen-clause-ran : goal.returns-in_err-write_chosen-clause-ran
returns-in_err-write_chosen-clause-ran g c =
    let flags : c.all_drives-drives.result ≡ all_drives (g.S.Shelf.shelf c.args.shelf.now).drives = c.all_drives-drives.ensures ∙ ap all_drives c.drives.ensures in
    ran_more (one_drive c.all_drives-drives.result) (λ d i w. inr (on_there flags c.body.ensures c.requires d i w)) c.write_chosen.ensures.ran

pub returns-clause-ran : goal.returns-clause-ran
returns-clause-ran g c =
    let flags : c.all_drives-drives.result ≡ all_drives (g.S.Shelf.shelf c.args.shelf.now).drives = c.all_drives-drives.ensures ∙ ap all_drives c.drives.ensures in
    let size : length c.as_bytes.result.now ≡ SECTOR_BYTES = ap length c.as_bytes.ensures.bytes ∙ c.as_bytes.ensures.len in
    ran_then g.met.S.Shelf.shelf_rest_stays
    (ran_more (one_drive c.all_drives-drives.result) (λ d i w. inr (on_there flags c.body.ensures c.requires d i w)) c.write_chosen.ensures.ran)
    (ran_more (one_drive c.all_drives-drives.result) (λ d i w. inl (on_there flags c.gate.ensures size d i w)) c.write_chosen-2.ensures.ran)

pub returns-in_err-write_chosen-clause-any_moment : goal.returns-in_err-write_chosen-clause-any_moment
returns-in_err-write_chosen-clause-any_moment g c h empty spells =
    let a = g.S.Shelf.shelf c.args.shelf.now in
    let b = g.S.Shelf.shelf c.write_chosen.new.shelf in
    let flags : c.all_drives-drives.result ≡ all_drives a.drives = c.all_drives-drives.ensures ∙ ap all_drives c.drives.ensures in
    storing_first a b b (g.met.S.Shelf.is_shelf c.args.shelf.now) (g.met.S.Shelf.is_shelf c.write_chosen.new.shelf) h c.write_chosen.ensures.ran.on.continues empty
    (wrote_there flags c.body.ensures c.requires (c.write_chosen.ensures.ran.on.writes h))

pub returns-clause-any_moment : goal.returns-clause-any_moment
returns-clause-any_moment g c h empty spells =
    let a = g.S.Shelf.shelf c.args.shelf.now in
    let b = g.S.Shelf.shelf c.write_chosen.new.shelf in
    let on = c.write_chosen.ensures.ran.on.continues in
    let flags : c.all_drives-drives.result ≡ all_drives a.drives = c.all_drives-drives.ensures ∙ ap all_drives c.drives.ensures in
    let size : length c.as_bytes.result.now ≡ SECTOR_BYTES = ap length c.as_bytes.ensures.bytes ∙ c.as_bytes.ensures.len in
    storing_both a b (g.S.Shelf.shelf c.write_chosen-2.new.shelf) (g.met.S.Shelf.is_shelf c.args.shelf.now) (g.met.S.Shelf.is_shelf c.write_chosen.new.shelf) h on empty
    (wrote_there flags c.body.ensures c.requires (c.write_chosen.ensures.ran.on.writes h)) c.args.body.now spells c.requires (c.in_ok-write_chosen.ensures.clean h empty.clean)
    (written_there a b flags c.body.ensures (c.in_ok-write_chosen.ensures.written h))
    (wrote_there flags c.gate.ensures size (c.write_chosen-2.ensures.ran.on.writes (on.honest h)))

pub returns-clause-made : goal.returns-clause-made
returns-clause-made g c h empty spells =
    let a = g.S.Shelf.shelf c.args.shelf.now in
    let b = g.S.Shelf.shelf c.write_chosen.new.shelf in
    let e = g.S.Shelf.shelf c.write_chosen-2.new.shelf in
    let on = c.write_chosen.ensures.ran.on.continues in
    let flags : c.all_drives-drives.result ≡ all_drives a.drives = c.all_drives-drives.ensures ∙ ap all_drives c.drives.ensures in
    let size : length c.as_bytes.result.now ≡ SECTOR_BYTES = ap length c.as_bytes.ensures.bytes ∙ c.as_bytes.ensures.len in
    if_stored a b e (g.met.S.Shelf.is_shelf c.args.shelf.now) (g.met.S.Shelf.is_shelf c.write_chosen.new.shelf) h on empty
    (wrote_there flags c.body.ensures c.requires (c.write_chosen.ensures.ran.on.writes h)) c.write_chosen-2.result c.args.body.now spells c.requires (c.in_ok-write_chosen.ensures.clean h empty.clean)
    (written_there a b flags c.body.ensures (c.in_ok-write_chosen.ensures.written h))
    (g.met.S.Shelf.is_shelf c.write_chosen-2.new.shelf) c.write_chosen-2.ensures.ran.on.continues (wrote_there flags c.gate.ensures size (c.write_chosen-2.ensures.ran.on.writes (on.honest h)))
    (c.write_chosen-2.ensures.clean (on.honest h)) c.as_bytes.result.now (c.as_bytes.ensures.bytes ∙ c.gate_sector-opened.ensures)
    (subst (λ (l : List Bool). OnOk c.write_chosen-2.result ((i : ℕ) → IsMember l i → Written (gate_place B) c.as_bytes.result.now (b.disk (drive i)).bytes (e.disk (drive i)).bytes)) flags
    (subst (λ (at : ℕ). OnOk c.write_chosen-2.result ((i : ℕ) → IsMember c.all_drives-drives.result i → Written at c.as_bytes.result.now (b.disk (drive i)).bytes (e.disk (drive i)).bytes)) c.gate.ensures
    (c.write_chosen-2.ensures.written (on.honest h))))
