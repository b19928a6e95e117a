-- An array goes on, or is to halt, once free units were written and the tables in them were to be stored.
use Rattle.array_core.proofs.Prelude.{◌≡◌, ◌∙◌, ℕ, List, [], ◌∷◌, Bool, sym, subst, Result, OnOk, OnErr, Device, Geometry, View, geometry_of, Shelved, IsShelf, Runs, Continues, Contents, ContentsStand, Facts, ReadsAs, facts, patches, runs_moments, then_run, Keeps, Tables, Content, array_of, on_err, OnlyFaults, StaysOpen, SegmentsHold, Calls, by_faults, Goes, GoesOnMeanwhile, Halts, IsArrayOf, IsReady, AreLost, HasTables, HoldOnLeft, MaySwitch}
use Rattle.pur_base.specs.Plain as plain
use Rattle.register.proofs.Rounds.{same_shelf}
use Rattle.register.proofs.Tabling.{same_array}
use Rattle.array_core.specs.declared.array.Array.{Array}
use Rattle.array_core.specs.Written.{HasWritten}
use Rattle.array_core.proofs.FreeWrites.{free_writes_go_on}
use Rattle.array_core.proofs.GoingOn.{calls_then}
use Rattle.array_core.proofs.Steps.{hands, lost_halts, same_meanwhile}

pub calls_of : {D : Device → Type 0} {W : Device → ℕ → Type 0} {a b : Shelved} → Runs D W a b → Calls a b
calls_of run = record { continues = run.continues; counted = runs_moments run }

-- The array is one, with the patches and the log of the next content. Its memory reads as before, by more contents, and where what segments are to hold by these facts stands, it does by its own.
pub record GoesWith (size : Geometry) (next : Content → Content) (more : Contents → Contents) (fs : Facts) (was now : Array) : Type 0 where
  pub is_of : IsArrayOf size now
  pub reads : (contents : Contents) (x : plain.Array) → ReadsAs contents was.memory.memory x → ReadsAs (more contents) now.memory.memory x
  pub stand : (contents : Contents) (members : View) → ContentsStand contents members fs → ContentsStand contents members (facts now.memory.memory.tables)
  pub patches_are : (held : Content) → (next held).patches ≡ patches now.memory.memory.tables
  pub log : (held : Content) → Keeps was.log held.log → Keeps now.log (next held).log

module _ {T E : Type 0} (r : Result T E) {a m n : Shelved} {lost : List Bool} {tables : Tables} {next : Content → Content} {more : Contents → Contents} {fs : Facts} (was now : Array) (is : IsShelf a) (first : Calls a m) (last : Calls m n)
    (w : HasWritten a m was lost tables next more fs) (f : Continues a m → AreLost a m was.register lost → OnlyFaults r a n was.register now.register was.log.members now.log.members)
    (s : m.honest → (held : Content) → MaySwitch a m was.register was.log lost tables held (next held) → StaysOpen r a m n was.register.record (array_of held ∷ []) now.register now.log (next held) (next held).log) where
  stays : a.honest → (held : Content) → IsReady a was held → StaysOpen r a m n was.register.record (array_of held ∷ []) now.register now.log (next held) (next held).log
  stays h held ready = s (first.continues.honest h) held (w.may h held ready)

  any_moment : GoesOnMeanwhile by_faults a n was []
  any_moment = same_meanwhile a n was (λ h held ready. then_run first.continues
      (free_writes_go_on a m is h was.register was.log.members held ready.is_open (w.may h held ready).wrote.free) (stays h held ready).any_moment)

  -- they were, and the array is what goes with them
  module _ (get : (P : Type 0) → OnOk r P → P) (x : HasTables m n lost tables was.register now.register was.log.members now.log.members) (g : GoesWith (geometry_of a) next more fs was now) where
    hold : a.honest → (contents : Contents) → HoldOnLeft m was.register lost contents fs → SegmentsHold contents n now.register (facts now.memory.memory.tables)
    hold h contents stand = x.segments (first.continues.honest h) contents (facts now.memory.memory.tables) (subst (λ (k : Geometry). IsArrayOf k now) (same_shelf first.continues) g.is_of).segments.places
        (λ left fewer members among enough. g.stand contents members (stand left fewer members among enough))

    -- so it goes on
    pub then_goes : Goes by_faults a n was now []
    then_goes = record {
      ran = calls_then first last;
      is_of = subst (λ (k : Geometry). IsArrayOf k now) (same_shelf (calls_then first last).continues) g.is_of;
      hands_on = hands a n was now (f first.continues w.cause).holders x.joins;
      accepted = λ contents z reads. tt;
      reads = λ contents z reads. record { more = more contents; reads = g.reads contents z reads; hold = λ h stand. hold h (more contents) (w.contents h contents stand) };
      holds = λ h z holds.
          let held = holds.held in
          let ready = holds.ready in
          let opens = get _ (stays h held ready).opens in
          let same = same_array was.register tables held (next held) (w.may h held ready).hold.keeps in
          record {
            held = next held;
            ready = record {
              is_open = opens.is_open;
              held_log = opens.held_log;
              keeps = g.log held ready.keeps;
              flushed = g.is_of.flushed;
              some = g.is_of.some;
              patches_are = g.patches_are held;
              contents = more ready.contents;
              reads = subst (λ (y : plain.Array). ReadsAs (more ready.contents) now.memory.memory y) (sym same) (g.reads ready.contents (array_of held) ready.reads);
              hold = hold h (more ready.contents) (w.contents h ready.contents ready.hold);
            };
            is = holds.is ∙ sym same;
          };
      any_moment = any_moment;
    }

  -- they weren't, and more devices failed than are borne
  pub then_halts : IsArrayOf (geometry_of a) was → OnErr r (Halts by_faults a n was [])
  then_halts of = on_err r (λ too_much. lost_halts a n was [] (calls_then first last) of too_much any_moment) (f first.continues w.cause).lost
