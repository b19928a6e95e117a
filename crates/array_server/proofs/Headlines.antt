-- What a session does, put together: the opening, and what was served after it.
use Rattle.array_server.proofs.Prelude.{nat_tests, ◌≡◌, ◌⊎◌, inl, inr, ⊎_elim, ℕ, ◌≤◌, List, [], length, drop, refl, sym, ap, subst, arith, Bool, true, false, Contains, Status, after_all, Conditions, Geometry, requests, HoldsBase, members_view, all_facts, geometry_of, IsLater, Shelved, Stop, IsShelf, MayStop, Continues, LeavesOnly, IsCountedBy, IsQuietBy, Contents, FactsRead, facts, patches, Enters, IsStanding, read_now, failed_since, IsOutput, is_source, is_sink, Point, Unopened, Served, Serving, Outlasts, Opening, IsInOpening, IsOpenedBearably, Replied, StandsOn, IsBearable, ReadsAs, named_sound, told_of, IsRegisterOf, array_of, Array, SegmentsHold, bearable_or_not, named_enough, NamesHolders, HasEnough, Engine, BeginsAt, IsHeldAt, IsServedFrom, IsSessionEnd}
use Rattle.register.proofs.Rounds.{same_shelf}
use Rattle.pur_base.specs.Plain as plain
use Rattle.memory_spec.proofs.Sound.{sound_tables_read}
use Rattle.session_spec.specs.Headline.{Keeps}
use Rattle.array_core.specs.declared.array.Background.{Background}
use Rattle.array_engine.proofs.Told.{told_reads}
use Rattle.takeover.specs.declared.faults.OpenFault.{OpenFault}
use Rattle.takeover.specs.declared.faults.OpenFault.TheVariants as open_fault
use Rattle.takeover.specs.Opened.{IsOpened, IsShut, IsRecovered, status_of}
use Rattle.array_server.specs.Serving.{IsNeverOpened, IsServeStatus}

-- an engine over the array that was opened, and where the replies begin
abbrev pub engine_of : Engine → Array → Engine
engine_of e a = record e { array = a; halted = false }

abbrev pub first_of : Shelved → Array → plain.Array → Point
first_of start a array = record {
  array = array;
  logged = a.log.count;
  boot = a.register.record;
  memory = told_of a.memory.memory;
  background = a.background.facts;
  halted = false;
  stop = read_now start;
}

module _ (shelf : Geometry) (a : Array) (is_of : IsRegisterOf shelf a.register) (named : NamesHolders a) where
  pub begins : (told : Bool) (start : Shelved) (e : Engine) (array : plain.Array) (contents : Contents) → geometry_of start ≡ shelf → HasEnough a.register → ReadsAs contents a.memory.memory array
      → (told ≡ true → SegmentsHold contents start a.register (facts a.memory.memory.tables)) → BeginsAt told start (engine_of e a) (first_of start a array)
  begins told start e array contents size enough reads hold = record {
    at = record {
      halted = refl;
      stands = λ awake. record {
        logged = refl;
        boot = refl;
        memory = refl;
        background = refl;
        contents = contents;
        reads = reads;
        hold = hold;
        names_holders = named;
        enough = enough;
        borne = subst (λ (g : Geometry). IsBearable g (named_sound a.register.record)) (sym size) (named_enough shelf a.register is_of named.0 enough);
      };
    };
    awake = refl;
    stop = refl;
  }

-- ---- not opened

-- it's no end of a source or a sink
pub no_stream : (e : OpenFault) → (is_source (status_of e) ≡ false) × (is_sink (status_of e) ≡ false)
no_stream (open_fault.Memory m) = (refl, refl)
no_stream _ = (refl, refl)

-- an end of a session is an end of serving
pub serves : (s : Status) → IsSessionEnd s → IsServeStatus s
serves s h = grind (arith, nat_tests)

-- which was opened
pub was_opened : (s : Status) → IsSessionEnd s → ¬ (IsNeverOpened s)
was_opened s h = grind (arith, nat_tests)

module _ (old new : Shelved) (e : OpenFault) (input : List ℕ) (is : IsShelf new) (on : Continues old new) (moments : LeavesOnly old new (IsCountedBy old)) (shut : IsShut old new e) where
  -- a stop now, with the counts as they are
  abbrev as_counted : Stop → Stop
  as_counted stop = record stop { faults = λ d. (new.disk d).faults; write_faults = λ d. (new.disk d).write_faults }

  may_too : (stop : Stop) → MayStop new stop → MayStop new (as_counted stop)
  may_too stop may = record { device = may.device; counts = record { faults = λ d. omega arith; write_faults = λ d. omega arith }; output = may.output; taken = may.taken }

  pub unopened : Unopened old new input input (status_of e)
  unopened = record {
    by = shut.by;
    untaken = refl;
    quiet = moments.quiet;
    each = λ stop left. (moments.each stop left).0;
    found = shut.found;
    silent = shut.silent;
    shut = λ missing arrays enters.
        let all = shut.each missing arrays enters in
        record {
          cause = shut.cause missing arrays enters;
          each = λ stop left. (all.each stop left).1;
          at_end = λ bears. record {
            standing = λ stop may. subst (λ (g : Geometry). IsStanding g stop.image (failed_since old new missing) arrays) (same_shelf on)
                ((all.each (as_counted stop) (is.counts_now old.moment (as_counted stop) on.later (may_too stop may))).1.standing bears);
            clean = shut.clean missing arrays enters bears;
          };
        };
  }

-- ---- opened and served

-- what is served from any point at which the engine stands then
abbrev ServesFrom : Shelved → Shelved → Array → Engine → List ℕ → List ℕ → Status → Type 0
ServesFrom start new a e input left ended = (told : Bool) (first : Point) → BeginsAt told start (engine_of e a) first → IsServedFrom told start new (engine_of e a) input left ended first

-- the tables that were found read as some array, whatever segments hold
abbrev pub ReadsSome : (old start : Shelved) (a : Array) → IsOpened old start a → Type 0
ReadsSome old start a o = (contents : Contents) → (base : plain.Array) × FactsRead contents [] (all_facts (patches a.memory.memory.tables)) o.found.effective.boot.next.object base

pub reads_some : (old start : Shelved) (a : Array) (o : IsOpened old start a) → ReadsSome old start a o
reads_some old start a o contents = sound_tables_read (geometry_of old) o.found.effective.boot (patches a.memory.memory.tables) contents o.tables_sound o.lawful

-- what is known of the opening, which ends at that moment, and of what was served then
abbrev ServesAfter : Shelved → Shelved → Shelved → Array → Engine → List ℕ → List ℕ → Status → Type 0
ServesAfter old start new a e input left ended = (o : IsOpened old start a) → ReadsSome old start a o → IsRegisterOf (geometry_of start) a.register → NamesHolders a → old.moment ≤ start.moment → LeavesOnly old start (IsCountedBy old)
    → ServesFrom start new a e input left ended → Served old new input left ended

module _ (old mid new : Shelved) (a : Array) (e : Engine) (input left : List ℕ) (ended : Status) where
  -- it has the size of the shelf at the entry
  abbrev start : Shelved
  start = record mid { drives = old.drives; units = old.units }

  module _ (o : IsOpened old start a) (some : ReadsSome old start a o) (is_of : IsRegisterOf (geometry_of start) a.register) (named : NamesHolders a) (later : old.moment ≤ start.moment) (moments : LeavesOnly old start (IsCountedBy old))
      (all : ServesFrom start new a e input left ended) where
    abbrev opening : Opening old
    opening = record { found = o.found; moment = start.moment; stop = read_now start }

    quiet_by : (stop : Stop) → start.left_since old.moment stop → IsQuietBy old stop
    quiet_by stop was = (moments.each stop was).0

    -- By contents and a base that the tables read as.
    module _ (told : Bool) (contents : Contents) (base : plain.Array) (reads : FactsRead contents [] (all_facts (patches a.memory.memory.tables)) o.found.effective.boot.next.object base)
        (known : told ≡ true → HoldsBase (geometry_of old) (members_view o.found.view o.found.effective) o.found.effective.boot base) (hold : told ≡ true → SegmentsHold contents start a.register (facts a.memory.memory.tables)) where
      abbrev first : Point
      first = first_of start a (after_all base o.log)

      s : IsServedFrom told start new (engine_of e a) input left ended first
      s = all told first (begins (geometry_of start) a is_of named told start e (after_all base o.log) contents refl o.enough (o.reads contents base reads).1 hold)

      output : IsOutput ended told (geometry_of old) s.last (read_now new) (drop (length s.replies) (requests input)) old.output new.output s.replies
      output = subst (λ (l : List ℕ). IsOutput ended told (geometry_of old) s.last (read_now new) (drop (length s.replies) (requests input)) l new.output s.replies) moments.quiet.output s.output

      abbrev serving : Serving told old new input left ended opening
      serving = record {
        first = first;
        opens = record {
          holds = record {
            not_spent = o.not_spent;
            no_other = o.no_other;
            sound = o.tables_sound;
            contents = contents;
            base = base;
            reads = reads;
            known = known;
            log = o.log;
            log_stands = (o.reads contents base reads).0;
            result = refl;
            count = o.count;
            next = o.next contents base reads;
            background = ap (λ (b : Background). b.facts) o.background;
            memory = (contents, told_reads contents a.memory.memory (after_all base o.log) (o.reads contents base reads).1);
            boot_is = o.boot_is;
            later = o.later;
            few = o.few;
          };
          taken_over = o.taken_over;
          shown = o.shown;
          none_joins = o.none_joins;
          unlost = o.unlost;
          enough = named_enough (geometry_of start) a.register is_of named.0 o.enough;
          reached = s.reached;
          quiet = record { output = moments.quiet.output; taken = moments.quiet.taken };
          at = refl;
          awake = refl;
        };
        replied = λ stop left. (s.replied.each stop left).1;
        replies = s.replies;
        last = s.last;
        run = s.run;
        output = output;
        ends = s.ends;
      }

    -- whatever segments hold
    abbrev blank : Contents
    blank = λ id index. []

    not_told : {P : Type 0} → false ≡ true → P
    not_told e = absurd (cc e)

    abbrev untold : Serving false old new input left ended opening
    untold = serving false blank (some blank).0 (some blank).1 not_told not_told

    abbrev untold_from : IsServedFrom false start new (engine_of e a) input left ended (first_of start a (after_all (some blank).0 o.log))
    untold_from = s false blank (some blank).0 (some blank).1 not_told not_told

    module _ (missing : Conditions) (arrays : List plain.Array) (enters : Enters old missing arrays) where
      in_opening : (stop : Stop) → start.left_since old.moment stop → IsInOpening old opening missing arrays stop
      in_opening stop was = record { quiet = quiet_by stop was; stands = ((o.each missing arrays enters).each stop was).1 }

      -- as what the segments hold, where no more failed than is borne
      module _ (it : IsRecovered old start o.found a o.log (failed_since old start missing) arrays) where
        abbrev told_from : IsServedFrom true start new (engine_of e a) input left ended (first_of start a (after_all it.held.base o.log))
        told_from = s true it.base_held.contents it.held.base it.base_held.reads (λ t. it.base_held.holds) (λ t. it.base_held.hold)

        abbrev told_serving : Serving true old new input left ended opening
        told_serving = serving true it.base_held.contents it.held.base it.base_held.reads (λ t. it.base_held.holds) (λ t. it.base_held.hold)

        is_held : after_all it.held.base o.log ≡ array_of it.held
        is_held = ap (λ l. after_all it.held.base l) (sym it.log_is)

        held_at : IsHeldAt start (engine_of e a) (first_of start a (after_all it.held.base o.log))
        held_at = (it.held, it.ready, is_held)

        one_of : Contains arrays (after_all it.held.base o.log)
        one_of = subst (λ (x : plain.Array). Contains arrays x) (sym is_held) it.one_of

        abbrev keeps : Keeps old new input left ended opening missing arrays
        keeps = record { s = told_serving; one_of = one_of; serving = λ stop left. let there = (told_from.stands held_at).each stop left in (there.1, there.2); at_end = told_from.at_end held_at }

      -- whether what failed is borne was decided
      abbrev Decided : Type 0
      Decided = IsOpenedBearably old opening missing ⊎ (IsOpenedBearably old opening missing → ⊥)

      abbrev keeps_by : Decided → IsOpenedBearably old opening missing → Keeps old new input left ended opening missing arrays
      keeps_by (inl bears) borne = keeps (o.recovered missing arrays enters bears)
      keeps_by (inr none) borne = absurd (none borne)

      each_by : (d : Decided) (stop : Stop) → new.left_since old.moment stop → IsInOpening old opening missing arrays stop
          ⊎ (IsLater opening.stop stop × ((borne : IsOpenedBearably old opening missing) → (at : Replied true (geometry_of old) (new.left_since opening.moment) (keeps_by d borne).s.first (requests input) stop)
          × StandsOn true (geometry_of old) (new.left_since opening.moment) (keeps_by d borne).s.first (requests input) stop at))
      each_by (inl bears) stop since = ⊎_elim (λ was. inl (in_opening stop was)) (λ on. inr (on.0, λ borne. (on.1, on.2)))
          (((told_from (o.recovered missing arrays enters bears)).stands (held_at (o.recovered missing arrays enters bears))).before old.moment stop later since)
      each_by (inr none) stop since = ⊎_elim (λ was. inl (in_opening stop was)) (λ at. inr (at.0, λ borne. absurd (none borne))) (untold_from.replied.before old.moment stop later since)

      outlasts : Outlasts old new input left ended opening missing arrays
      outlasts =
          let d = bearable_or_not (geometry_of old) (failed_since old start missing) in
          record { keeps = keeps_by d; each = each_by d }

    served_here : Served old new input left ended
    unfolding s output
    served_here = record {
      opening = opening;
      serving = untold;
      stops = λ stop since. ⊎_elim (λ was. inl (quiet_by stop was)) (λ at. inr at.1) (untold_from.replied.before old.moment stop later since);
      outlasts = outlasts;
    }

  pub served : Continues old mid → ServesAfter old mid new a e input left ended
  served on = subst (λ (m : Shelved). ServesAfter old m new a e input left ended) sizes (λ o some is_of named later moments all. served_here o some is_of named later moments all)
    where
      sizes : start ≡ mid
      sizes = λ k. record mid { drives = sym on.drives k; units = sym on.units k }
