use Rattle.record_tables.proofs.Prelude.{◌≡◌, ◌∷◌, [], ◌++◌, ◌<◌, length, cond, true, not, sym, ap, ◌∙◌, arith, rules, subst, SEGMENT_SHARDS}
use Rattle.std.specs.Result.{is_ok}
use Rattle.record_tables.proofs.Taking.{AreTaken, one_more, taken_first}
use Rattle.record_tables.proofs.units.take_units.Goals as goal

pub loop-segment-preserved : goal.loop-segment-preserved
loop-segment-preserved c =
    let units = c.loop-segment.units.items in
    let places = c.in-Some.places in
    let pushed : is_ok c.push.result ≡ true = c.is_err.ensures.negation ∙ ap not c.if-is_err.false in
    let nine : length places ≡ SEGMENT_SHARDS = search rules in
    let less : length units < c.args.count = omega arith in
    let items : c.push.new.self.items ≡ units ++ places ∷ [] = c.push.ensures.items ∙ ap (λ b. cond b (units ++ places ∷ []) units) pushed in
    record {
      taken = subst (λ l. AreTaken c.args.map.now c.take.new.self c.args.count l) (sym items)
          (one_more c.args.map.now c.loop-segment.map c.take.new.self c.args.count units places nine less c.loop-segment.invariant.taken c.in-Some.ensures.taken c.in-Some.ensures.used c.in-Some.ensures.lowers);
      long = search rules;
      room = search rules;
    }

pub returns-clause-units : goal.returns-clause-units
returns-clause-units c = taken_first c.args.map.now c.loop-segment.map c.args.count c.loop-segment.units.items c.loop-segment.invariant.taken
