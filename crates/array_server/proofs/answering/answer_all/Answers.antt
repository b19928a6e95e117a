use Rattle.array_server.proofs.Prelude.{◌≡◌, ◌↔◌, ◌+◌, ◌++◌, ℕ, List, Bool, false, true, length, refl, sym, ap, subst, ◌∙◌, arith, inl, inr, Ok, Err, Continues, continues_refl, continues_trans, Status, Geometry, Point, is_cut, text, nothing-after-cut, Rises, RisesIf, SameStream, is_sink, stream_then, Gave, item_read, both, IsOf, BeginsAt, IsServedFrom, end_of}
use Rattle.pur_base.specs.declared.reply.Status.TheVariants as status
use Rattle.array_server.proofs.SoFar.{SoFar, begun_so_far, taken_so_far, answered, sank, stopped_source, stopped_limit, stopped_done, stopped_cut}
use Rattle.array_server.proofs.ItemsRead.{reads_item, uncut, is_answered, cut_is_no_limit, end_is_no_limit}
use Rattle.array_server.proofs.MadeLemmas.{same-honest}
use Rattle.array_server.proofs.answering.answer_all.Given as given
use Rattle.array_server.proofs.answering.answer_all.Goals as goal
use Rattle.array_server.proofs.answering.answer_all.Goals.{After-give}
use Rattle.register.proofs.Rounds.{same_shelf}

-- no sink failed at the end of the input
well_given : (halted : Bool) (before now : ℕ) → now ≡ before → RisesIf (is_sink (end_of halted)) before now
well_given true before now same = same
well_given false before now same = same

pub items-init : goal.items-init
items-init g c =
    let shelf = g.W.Shelf.shelf c.args.world.now in
    let source = g.W.Source.source c.args.world.now in
    record {
      is_of = c.requires.is_of;
      continues = continues_refl shelf;
      tells = λ h. record { honest = h; ended = λ e. absurd (let f = sym c.requires.begun ∙ e in cc) };
      so_far = λ h hs hk unlapsed told first begins. rw c.requires.pending (begun_so_far told shelf _ source.bytes first (g.met.W.Shelf.is_shelf c.args.world.now) h begins);
      total = λ h. rw c.requires.taken (omega arith);
      limited = rw c.requires.taken (omega arith);
      empty = c.requires.empty;
      source_faults = refl;
      sink_faults = refl;
      source_honest = (λ h. h, λ h. h);
      sink_honest = (λ h. h, λ h. h);
    }

pub returns-in_default-clause-continues : goal.returns-in_default-clause-continues
returns-in_default-clause-continues g c = continues_trans c.items.invariant.continues (g.met.W.World.take_keeps_shelf c.items.world c.next.new.source c.in_default.ensures.asks.went.rest).continues

pub returns-in-End-clause-continues : goal.returns-in-End-clause-continues
returns-in-End-clause-continues g c = continues_trans c.items.invariant.continues (g.met.W.World.take_keeps_shelf c.items.world c.next.new.source c.in-Ok.ensures.asks.went.rest).continues

pub returns-in-Limit-clause-continues : goal.returns-in-Limit-clause-continues
returns-in-Limit-clause-continues g c = continues_trans c.items.invariant.continues (g.met.W.World.take_keeps_shelf c.items.world c.next.new.source c.in-Ok.ensures.asks.went.rest).continues

pub returns-in_default-clause-served : goal.returns-in_default-clause-served
returns-in_default-clause-served g c = λ h hs hk unlapsed told first begins.
    let inv = c.items.invariant in
    let takes = g.met.W.World.take_keeps_shelf c.items.world c.next.new.source c.in_default.ensures.asks.went.rest in
    let so = inv.so_far h hs hk (λ l. unlapsed (takes.continues.lapsed l)) told first begins in
    stopped_source _ _ _ _ _ _ _ _ _ _ (taken_so_far _ _ _ _ _ _ _ _ _ _ so takes unlapsed) begins.stop (c.in_default.ensures.failed (inv.tells hs)).1

pub returns-in-End-clause-served : goal.returns-in-End-clause-served
returns-in-End-clause-served g c = λ h hs hk unlapsed told first begins.
    let inv = c.items.invariant in
    let takes = g.met.W.World.take_keeps_shelf c.items.world c.next.new.source c.in-Ok.ensures.asks.went.rest in
    let so = inv.so_far h hs hk (λ l. unlapsed (takes.continues.lapsed l)) told first begins in
    let read = rw c.in-End.is at (c.in-Ok.ensures.told (inv.tells hs)) in
    let none = read.0.ended (c.in-Ok.ensures.stops.end (inl c.in-End.is)) in
    let total = (rw c.in-End.is at (c.in-Ok.ensures.total (inv.tells hs))).same end_is_no_limit in
    let done = stopped_done _ _ _ _ _ _ _ _ _ _ (taken_so_far _ _ _ _ _ _ _ _ _ _ so takes unlapsed) begins.stop read.1.0 none
    (omega (arith, total, inv.total hs, ap length none, c.in-Ok.ensures.asks.limited inv.limited)) refl in
    subst (λ (s : Status). IsServedFrom told (g.W.Shelf.shelf c.args.world.now) (g.W.Shelf.shelf c.next.new.source) c.args.engine.now (g.W.Source.source c.args.world.now).bytes (g.W.Source.source c.next.new.source).bytes s first) (sym (c.ended.ensures ∙ ap end_of c.is_halted.ensures)) done

pub returns-in-Limit-clause-served : goal.returns-in-Limit-clause-served
returns-in-Limit-clause-served g c = λ h hs hk unlapsed told first begins.
    let inv = c.items.invariant in
    let takes = g.met.W.World.take_keeps_shelf c.items.world c.next.new.source c.in-Ok.ensures.asks.went.rest in
    let so = inv.so_far h hs hk (λ l. unlapsed (takes.continues.lapsed l)) told first begins in
    let read = rw c.in-Limit.is at (c.in-Ok.ensures.told (inv.tells hs)) in
    let over = rw (c.in-Ok.ensures.stops.limit c.in-Limit.is) at read.1 in
    let total = rw c.in-Limit.is at (c.in-Ok.ensures.total (inv.tells hs)) in
    stopped_limit _ _ _ _ _ _ _ _ _ _ (taken_so_far _ _ _ _ _ _ _ _ _ _ so takes unlapsed) begins.stop over.0 over.1 over.2 over.3 (omega (arith, total.most refl, total.probed refl, inv.total hs))

pub returns-in-End-clause-sink : goal.returns-in-End-clause-sink
returns-in-End-clause-sink g c =
    let sink = g.W.Sink.sink in
    let same = (g.met.W.World.take_keeps_sink c.items.world c.next.new.source c.in-Ok.ensures.asks.went.rest).faults ∙ c.items.invariant.sink_faults in
    subst (λ (s : Status). RisesIf (is_sink s) (sink c.args.world.now).faults (sink c.next.new.source).faults) (sym (c.ended.ensures ∙ ap end_of c.is_halted.ensures)) (well_given c.items.engine.halted (sink c.args.world.now).faults (sink c.next.new.source).faults same)

pub respond-said-requires : goal.respond-said-requires
respond-said-requires g c =
    let takes = g.met.W.World.take_keeps_shelf c.items.world c.next.new.source c.in-Ok.ensures.asks.went.rest in
    record {
      is_of = subst (λ (k : Geometry). IsOf k c.items.engine) (same_shelf takes.continues) c.items.invariant.is_of;
      item = is_answered c.in-Ok.item c.in_default-item.not-End c.in_default-item.not-Limit c.in-Ok.ensures.complete.served;
      written = rw c.sectors.ensures c.in-Ok.ensures.complete.has_data;
      spelled = c.in-Ok.ensures.complete.spelled;
    }

-- ---- a reply was given, whole or in part

source_kept : (g : given.Over) (c : After-give g) → SameStream (g.W.Source.source c.next.new.source) (g.W.Source.source c.give.new.sink)
source_kept g c = stream_then (g.met.W.World.shelf_keeps_source c.next.new.source c.respond-said.new.shelf c.respond-said.ensures.rest) (g.met.W.World.give_keeps_source c.respond-said.new.shelf c.give.new.sink c.give.ensures.went.rest)

-- until then the sink is as it was
sink_kept : (g : given.Over) (c : After-give g) → SameStream (g.W.Sink.sink c.items.world) (g.W.Sink.sink c.respond-said.new.shelf)
sink_kept g c = stream_then (g.met.W.World.take_keeps_sink c.items.world c.next.new.source c.in-Ok.ensures.asks.went.rest) (g.met.W.World.shelf_keeps_sink c.next.new.source c.respond-said.new.shelf c.respond-said.ensures.rest)

honest_all : (g : given.Over) (c : After-give g) → ((g.W.Source.source c.args.world.now).honest ↔ (g.W.Source.source c.give.new.sink).honest) × ((g.W.Sink.sink c.args.world.now).honest ↔ (g.W.Sink.sink c.give.new.sink).honest)
honest_all g c = (
  both c.items.invariant.source_honest (both c.in-Ok.ensures.asks.went.honest (same-honest (source_kept g c))),
  both c.items.invariant.sink_honest (both (same-honest (sink_kept g c)) c.give.ensures.went.honest),
)

continues_all : (g : given.Over) (c : After-give g) → Continues (g.W.Shelf.shelf c.args.world.now) (g.W.Shelf.shelf c.give.new.sink)
continues_all g c =
    let takes = g.met.W.World.take_keeps_shelf c.items.world c.next.new.source c.in-Ok.ensures.asks.went.rest in
    let gives = g.met.W.World.give_keeps_shelf c.respond-said.new.shelf c.give.new.sink c.give.ensures.went.rest in
    continues_trans (continues_trans (continues_trans c.items.invariant.continues takes.continues) c.respond-said.ensures.continues) gives.continues

-- the sink failed in it, or the session goes on from there
reply_given : (g : given.Over) (c : After-give g) → (g.W.Shelf.shelf c.args.world.now).honest → (g.W.Source.source c.args.world.now).honest → (g.W.Sink.sink c.args.world.now).honest → ¬ (g.W.Shelf.shelf c.give.new.sink).lapsed
    → (told : Bool) (first : Point) → BeginsAt told (g.W.Shelf.shelf c.args.world.now) c.args.engine.now first
    → ((e : _) → c.give.result ≡ Err e → IsServedFrom told (g.W.Shelf.shelf c.args.world.now) (g.W.Shelf.shelf c.give.new.sink) c.args.engine.now (g.W.Source.source c.args.world.now).bytes (g.W.Source.source c.give.new.sink).bytes status.Sink first)
    × ((u : _) → c.give.result ≡ Ok u → (cut : Bool) → is_cut (item_read c.in-Ok.item c.sectors.result.now) ≡ cut
    → SoFar told (g.W.Shelf.shelf c.args.world.now) (g.W.Shelf.shelf c.give.new.sink) c.args.engine.now c.respond-said.new.self (g.W.Source.source c.args.world.now).bytes (c.next.new.self.ahead.pending ++ (g.W.Source.source c.next.new.source).bytes) first cut)
reply_given g c h hs hk unlapsed told first begins =
    let inv = c.items.invariant in
    let source = g.W.Source.source in
    let sink = g.W.Sink.sink in
    let shelf = g.W.Shelf.shelf in
    let world = g.met.W.World in
    let x = c.respond-said.ensures in
    let takes = world.take_keeps_shelf c.items.world c.next.new.source c.in-Ok.ensures.asks.went.rest in
    let gives = world.give_keeps_shelf c.respond-said.new.shelf c.give.new.sink c.give.ensures.went.rest in
    let honest_mid = (continues_trans inv.continues takes.continues).honest h in
    let unlapsed_between = λ (l : (shelf c.respond-said.new.shelf).lapsed). unlapsed (gives.continues.lapsed l) in
    let unlapsed_mid = λ (l : (shelf c.next.new.source).lapsed). unlapsed_between (x.continues.lapsed l) in
    let so = inv.so_far h hs hk (λ l. unlapsed_mid (takes.continues.lapsed l)) told first begins in
    let at_mid = taken_so_far _ _ _ _ _ _ _ _ _ _ so takes unlapsed_mid in
    let read = c.in-Ok.ensures.told (inv.tells hs) in
    let item = reads_item c.in-Ok.item c.sectors.result.now (c.items.reader.ahead.pending ++ (source c.items.world).bytes) (c.next.new.self.ahead.pending ++ (source c.next.new.source).bytes) c.in_default-item.not-End c.in_default-item.not-Limit (rw c.sectors.ensures read.1) in
    let y = x.answers told at_mid.last (λ is. honest_mid) at_mid.at in
    let tells_between = (sink_kept g c).honest (inv.sink_honest.0 hk) in
    let said = c.give.ensures.gave tells_between y.reply y.says in
    let clock = world.one_clock c.give.new.sink (c.give.ensures.went.honest.0 tells_between) in
    let clock_before = sym (world.one_clock c.respond-said.new.shelf tells_between) in (
      λ e is.
          let cut = subst (λ r. Gave r (sink c.respond-said.new.shelf).bytes (sink c.give.new.sink).bytes (text y.reply)) is said in
          let gave : (shelf c.give.new.sink).output ≡ (shelf c.respond-said.new.shelf).output ++ cut.0 = clock ∙ cut.4 ∙ ap (λ (l : List ℕ). l ++ cut.0) clock_before in
          sank _ _ _ _ _ _ _ _ _ _ _ (item_read c.in-Ok.item c.sectors.result.now) c.respond-said.result at_mid item.0 item.1 x.continues (x.moments honest_mid) honest_mid y (x.kept honest_mid) unlapsed_between
          _ gives unlapsed begins.stop cut.0 cut.1 gave cut.3 cut.2 _,
      λ u is cut cuts.
          let whole = subst (λ r. Gave r (sink c.respond-said.new.shelf).bytes (sink c.give.new.sink).bytes (text y.reply)) is said in
          let gave : (shelf c.give.new.sink).output ≡ (shelf c.respond-said.new.shelf).output ++ text y.reply = clock ∙ whole ∙ ap (λ (l : List ℕ). l ++ text y.reply) clock_before in
          answered _ _ _ _ _ _ _ _ _ _ _ (item_read c.in-Ok.item c.sectors.result.now) c.respond-said.result at_mid item.0 item.1 x.continues (x.moments honest_mid) honest_mid y (x.kept honest_mid) unlapsed_between
          _ gives unlapsed gave (g.met.W.Shelf.is_shelf c.give.new.sink) ((continues_all g c).honest h) cut cuts,
    )

pub returns-in-Err : goal.returns-in-Err
returns-in-Err g c =
    let k = (goal.at.returns-in-Err g c).After-give in
    let inv = c.items.invariant in
    record {
      served = λ h hs hk unlapsed told first begins. (reply_given g k h hs hk unlapsed told first begins).0 _ c.in-Err.is;
      status = tt;
      source = (source_kept g k).faults ∙ c.in-Ok.ensures.asks.went.counts ∙ inv.source_faults;
      sink = subst (λ (n : ℕ). Rises n (g.W.Sink.sink c.give.new.sink).faults) ((sink_kept g k).faults ∙ inv.sink_faults) c.in-Err.ensures.went.counts;
      honest_source = (honest_all g k).0;
      honest_sink = (honest_all g k).1;
      continues = continues_all g k;
    }

pub returns-in-Cut : goal.returns-in-Cut
returns-in-Cut g c =
    let k = (goal.at.returns-in-Cut g c).After-give in
    let inv = c.items.invariant in
    let source = g.W.Source.source in
    let kept = source_kept g k in
    record {
      served = λ h hs hk unlapsed told first begins.
          let next = (reply_given g k h hs hk unlapsed told first begins).1 _ c.in-Ok-give.is true (rw c.in-Cut.is refl) in
          let read = c.in-Ok.ensures.told (inv.tells hs) in
          let none = read.0.ended (c.in-Ok.ensures.stops.end (inr c.in-Cut.is)) in
          let total = (rw c.in-Cut.is at (c.in-Ok.ensures.total (inv.tells hs))).same cut_is_no_limit in
          let nothing = nothing-after-cut (c.items.reader.ahead.pending ++ (source c.items.world).bytes) (c.next.new.self.ahead.pending ++ (source c.next.new.source).bytes) (rw c.in-Cut.is at read.1).1 in
          stopped_cut _ _ _ _ _ _ _ _ _ _ next begins.stop nothing (kept.bytes ∙ none) (omega (arith, total, inv.total hs, ap length none, c.in-Ok.ensures.asks.limited inv.limited)) refl;
      status = tt;
      source = kept.faults ∙ c.in-Ok.ensures.asks.went.counts ∙ inv.source_faults;
      sink = c.in-Ok-give.ensures.went.counts ∙ (sink_kept g k).faults ∙ inv.sink_faults;
      honest_source = (honest_all g k).0;
      honest_sink = (honest_all g k).1;
      continues = continues_all g k;
    }

pub items-preserved : goal.items-preserved
items-preserved g c =
    let k = (goal.at.items-preserved g c).After-give in
    let inv = c.items.invariant in
    let source = g.W.Source.source in
    let shelf = g.W.Shelf.shelf in
    let gives = g.met.W.World.give_keeps_shelf c.respond-said.new.shelf c.give.new.sink c.in-Ok-give.ensures.went.rest in
    let kept = source_kept g k in
    record {
      is_of = subst (λ (k : Geometry). IsOf k c.respond-said.new.self) (same_shelf gives.continues) c.respond-said.ensures.is_of;
      continues = continues_all g k;
      tells = λ h.
          let read = c.in-Ok.ensures.told (inv.tells h) in
          record { honest = kept.honest read.0.honest; ended = λ e. kept.bytes ∙ read.0.ended e };
      so_far = λ h hs hk unlapsed told first begins.
          subst (λ (l : List ℕ). SoFar told (shelf c.args.world.now) (shelf c.give.new.sink) c.args.engine.now c.respond-said.new.self (source c.args.world.now).bytes (c.next.new.self.ahead.pending ++ l) first false) (sym kept.bytes)
          ((reply_given g k h hs hk unlapsed told first begins).1 _ c.in-Ok-give.is false (uncut c.in-Ok.item c.sectors.result.now c.in_default-item-2.not-Cut));
      total = λ h.
          ap (λ (l : List ℕ). c.next.new.self.ahead.taken + length l) kept.bytes ∙ ((c.in-Ok.ensures.total (inv.tells h)).same c.in_default-item.not-Limit) ∙ inv.total h;
      limited = c.in-Ok.ensures.asks.limited inv.limited;
      empty = c.in-Ok-give.ensures.emptied;
      source_faults = kept.faults ∙ c.in-Ok.ensures.asks.went.counts ∙ inv.source_faults;
      sink_faults = c.in-Ok-give.ensures.went.counts ∙ (sink_kept g k).faults ∙ inv.sink_faults;
      source_honest = (honest_all g k).0;
      sink_honest = (honest_all g k).1;
    }
