-- What was told since a moment at which the devices were as before is told since before.
use Rattle.shelf_look.proofs.Prelude.{◌≡◌, ◌∙◌, inl, inr, ℕ, ◌≤◌, Bool, List, sym, ap, subst, arith, Result, Ok, Err, Some, IfOk, IfErr, cases_lt, Device, Geometry, View, drive, nvram, BootRecord, AreSound, Rises, geometry_of, Shelved, Disk, Continues, IsSame, IsShelf, Ran, Loaded, IsFaultOf, IsGiven, IsRead, NvLog, OnNothing, TablesFault, OnlyReads, IsFault, Kept, Cause, IsLogOf, IsOutcome, IsTold, IsAny, IsCauseOf, IsOpeningOf, AreTablesOn, IsMemoryOf, IsTablesCause, ShowsThose, rises_first}
use Rattle.table_loading.specs.declared.fault.TablesFault.TheVariants as tables
use Rattle.shelf_look.specs.declared.cause.Cause.TheVariants as cause
use Rattle.shelf_look.specs.declared.finding.Opening.{Opening}
use Rattle.shelf_look.specs.declared.found.Found.{Found}

pub same_geometry : {old new : Shelved} → Continues old new → geometry_of new ≡ geometry_of old
same_geometry {old} {new} on = ap (λ (n : ℕ). record { slots = n; units = new.units }) on.drives ∙ ap (λ (n : ℕ). record { slots = old.drives; units = n }) on.units

pub same_then : {a b c : Disk} → IsSame a b → IsSame b c → IsSame a c
same_then first next = record { bytes = next.bytes ∙ first.bytes; dirty = next.dirty ∙ first.dirty }

-- reads of drives are calls that write nothing
pub ran_by_reads : {X : Type 0} {shelf : X → Shelved} {same_rest : X → X → Type 0} {a b : X} → OnlyReads (shelf a) (shelf b) → same_rest a b → Ran shelf same_rest IsAny OnNothing a b
ran_by_reads reads rest = record {
  on = record { continues = reads.continues; others = λ d none. absurd (none tt); writes = reads.writes };
  rest = rest;
}

-- and before
pub rises_before : (a b c : ℕ) → a ≤ b → Rises b c → Rises a c
rises_before a b c le (inl lt) = inl (omega (arith, lt, le))
rises_before a b c le (inr (at, is)) = elim (cases_lt a b) [
  | inl lt ↦ inl (omega (arith, lt, is))
  | inr past ↦ inr (omega (arith, at, le, past), omega (arith, is, le, past))
]

-- what the boot region of a drive gave
pub read_later : (old mid new : Shelved) (bytes : List ℕ) (answered : List Bool) (i : ℕ) → Continues mid new → IsShelf new → IsRead old mid bytes answered i → IsRead old new bytes answered i
read_later old mid new bytes answered i on is (inl shows) = inl shows
read_later old mid new bytes answered i on is (inr (none, up)) = inr (none, rises_first _ _ _ up (on.faults (drive i)) (is.faults (drive i)))

module _ (a b n : Shelved) (on : Continues a b) (same : (d : Device) → IsSame (a.disk d) (b.disk d)) where
  size : geometry_of b ≡ geometry_of a
  size = same_geometry on

  shows : (drives : List Bool) (view : View) → ShowsThose a drives view → ShowsThose b drives view
  shows drives view shown slot lt is = shown slot (omega (arith, lt, on.drives)) is ∙ ap Some (sym (same (drive slot)).bytes)

  tables_on : (drives : List Bool) (boot : BootRecord) (k : Kept) → AreTablesOn b drives boot k → AreTablesOn a drives boot k
  tables_on drives boot k t = record {
    memory = subst (λ (g : Geometry). IsMemoryOf g boot k) size t.memory;
    stand = λ view shown stripes. t.stand view (shows drives view shown) stripes;
  }

  log_on : (boot : BootRecord) (log : NvLog) → IsLogOf b n boot log → IsLogOf a n boot log
  log_on boot log l = record {
    flushed = l.flushed;
    named = l.named;
    some = l.some;
    dropped = λ k lt m. elim (l.dropped k lt m) [
      | inl is ↦ inl is
      | inr up ↦ inr (rises_before (a.disk (nvram k)).faults (b.disk (nvram k)).faults (n.disk (nvram k)).faults (on.faults (nvram k)) up)
    ];
    read = record { commands = l.read.commands; has = l.read.has; shown = λ h. l.read.shown (on.honest h); ends = λ h. l.read.ends (on.honest h) };
  }

  tables_too : (drives : List Bool) (boot : BootRecord) (fault : TablesFault) → IsTablesCause b n drives boot fault → IsTablesCause a n drives boot fault
  tables_too drives boot (tables.BadPatch t) is = (is.0, λ view ps shown stand. is.1 view ps (shows drives view shown) stand)
  tables_too drives boot (tables.Unsound t) is = (
    (is.0.0, subst (λ (g : Geometry). IsFault g boot is.0.0 t) size is.0.1),
    λ view ps shown stand sound. is.1 view ps (shows drives view shown) stand (subst (λ (g : Geometry). AreSound g boot ps) (sym size) sound),
  )
  tables_too drives boot (tables.Lost lost) is =
      let since = is.2.2.2 in (
        is.0,
        is.1,
        (
          is.2.0,
          is.2.1,
          (
            is.2.2.0,
            is.2.2.1,
            record {
              faults = since.faults;
              since = λ d. omega (arith, on.faults d, since.since d);
              three = since.three;
              no_other = since.no_other;
              cause = since.cause;
              reported = since.reported;
            },
          ),
        ),
      )
  tables_too drives boot (tables.Memory m) is = tt

  given_too : (bytes : List ℕ) (answered : List Bool) (x : Loaded) → IsGiven (geometry_of b) bytes answered x → IsGiven (geometry_of a) bytes answered x
  given_too bytes answered x given = subst (λ (g : Geometry). IsGiven g bytes answered x) size given

  cause_too : (bytes : List ℕ) (answered : List Bool) (c : Cause) → IsCauseOf b n bytes answered c → IsCauseOf a n bytes answered c
  cause_too bytes answered (cause.Memory m) is = tt
  cause_too bytes answered (cause.Record fault) is = subst (λ (g : Geometry). IsFaultOf g bytes answered fault) size is
  cause_too bytes answered (cause.Tables fault) is = record { loaded = is.loaded; given = given_too bytes answered is.loaded is.given; cause = tables_too is.loaded.drives is.loaded.record fault is.cause }
  cause_too bytes answered cause.BothLost is = record {
    loaded = is.loaded;
    given = given_too bytes answered is.loaded is.given;
    failed = λ k lt m. rises_before (a.disk (nvram k)).faults (b.disk (nvram k)).faults (n.disk (nvram k)).faults (on.faults (nvram k)) (is.failed k lt m);
  }

  opening_too : (bytes : List ℕ) (answered : List Bool) (o : Opening) → IsOpeningOf b n bytes answered o → IsOpeningOf a n bytes answered o
  opening_too bytes answered o is = record {
    given = given_too bytes answered o.loaded is.given;
    tables = tables_on o.loaded.drives o.loaded.record o.memory is.tables;
    visible = is.visible;
    log = log_on o.loaded.record o.log is.log;
  }

  -- what is told of it
  pub outcome : (bytes : List ℕ) (answered : List Bool) (r : Result Opening Cause) (told : Result Found Cause) → IsTold r told
      → IfOk r (IsOpeningOf b n bytes answered) → IfErr r (IsCauseOf b n bytes answered) → IsOutcome a n bytes answered told
  outcome bytes answered (Ok o) (Ok f) is found why = (o, opening_too bytes answered o found, is)
  outcome bytes answered (Ok o) (Err c) is found why = absurd is
  outcome bytes answered (Err (cause.Memory m)) told is found why = absurd is
  outcome bytes answered (Err (cause.Record e)) (Ok f) is found why = absurd is
  outcome bytes answered (Err (cause.Record e)) (Err c) is found why = subst (λ (d : Cause). IsOutcome a n bytes answered (Err d)) (sym is) (cause_too bytes answered (cause.Record e) why)
  outcome bytes answered (Err (cause.Tables e)) (Ok f) is found why = absurd is
  outcome bytes answered (Err (cause.Tables e)) (Err c) is found why = subst (λ (d : Cause). IsOutcome a n bytes answered (Err d)) (sym is) (cause_too bytes answered (cause.Tables e) why)
  outcome bytes answered (Err cause.BothLost) (Ok f) is found why = absurd is
  outcome bytes answered (Err cause.BothLost) (Err c) is found why = subst (λ (d : Cause). IsOutcome a n bytes answered (Err d)) (sym is) (cause_too bytes answered cause.BothLost why)
