use Rattle.record_tables.proofs.Prelude.{◌≡◌, ℕ, ◌+◌, ◌-◌, ◌++◌, ◌<◌, List, length, get_or, refl, ap, ◌∙◌, arith, take, drop, Patch, segments_for, new_patch, added_from}
use Rattle.record_tables.proofs.Added.{one_more, fewer_left}
use Rattle.record_tables.proofs.patches.added_patches.Goals as goal

pub loop-table-preserved : goal.loop-table-preserved
loop-table-preserved c =
    let counts : List ℕ = c.counts_of.result in
    let table = c.loop-table.table in
    let first = c.args.first in
    let used = c.loop-table.used in
    let units = c.args.units.now in
    let n = get_or counts table 0 in
    let within : table < length counts = let long : length counts ≡ 5 = ap length c.counts_of.ensures in omega (arith, long, c.loop-table-test.true) in
    let takes : c.segments_for.result ≡ segments_for n = c.segments_for.ensures in
    let part : used + c.segments_for.result - used ≡ segments_for n = omega (arith, takes) in
    let rest : ℕ → List Patch = λ k. added_from (table + 1 + 1) (drop (table + 1) counts) (first + (used + k)) (drop (used + k) units) in
    let pushed : c.push_new.new.patches ≡ c.loop-table.added ++ new_patch (table + 1) n (first + used) (take (segments_for n) (drop used units)) =
    c.in_ok-push_new.ensures ∙ ap (λ k. c.loop-table.added ++ new_patch (table + 1) n (first + used) (take k (drop used units))) part in
    record {
      so_far = ap (λ ps. ps ++ rest c.segments_for.result) pushed
          ∙ ap (λ k. (c.loop-table.added ++ new_patch (table + 1) n (first + used) (take (segments_for n) (drop used units))) ++ rest k) takes
          ∙ one_more c.loop-table.added _ counts table n first used units within refl c.loop-table.invariant.so_far;
      left = omega (arith, takes, fewer_left counts table n used (length units) within refl c.loop-table.invariant.left);
    }
