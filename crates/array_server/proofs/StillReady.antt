-- An array stays ready while input is taken and output given, and its segments hold what they held.
use Rattle.array_server.proofs.Prelude.{◌≡◌, ℕ, refl, sym, subst, Device, Shelved, Stop, Disk, MayStop, Contents, facts, Content, Array, SegmentsHold, IsReady}

module _ (was now : Shelved) (a : Array) (held : Content) where
  -- what was, with the devices as they are
  abbrev moved : Shelved
  moved = record was { drives = now.drives; units = now.units; disk = now.disk }

  abbrev like : Stop → Stop
  like stop = record stop { output = was.output; taken = was.taken }

  may_moved : (stop : Stop) → MayStop now stop → MayStop moved (like stop)
  may_moved stop may = record { device = may.device; counts = record { faults = may.counts.faults; write_faults = may.counts.write_faults }; output = refl; taken = refl }

  from_moved : IsReady moved a held → IsReady now a held
  from_moved r =
      let o = r.is_open in
      let l = o.logged in
      record {
        is_open = record {
          logged = record {
            is_of = l.is_of;
            tables = λ start may. l.tables (like start) (may_moved start may);
            bodies = l.bodies;
            holds = record { log = l.holds.log; clean = l.holds.clean };
            accepted = l.accepted;
          };
          drives = o.drives;
          nvrams_are = o.nvrams_are;
          bearable = o.bearable;
          in_force = record {
            lawful = o.in_force.lawful;
            sound = o.in_force.sound;
            clean = o.in_force.clean;
            shown = o.in_force.shown;
            given = λ start may. o.in_force.given (like start) (may_moved start may);
          };
          older = o.older;
          stands = λ stop may. o.stands (like stop) (may_moved stop may);
          alone = λ stop slot2 boot2 may g. o.alone (like stop) slot2 boot2 (may_moved stop may) g;
        };
        held_log = record { log = r.held_log.log; clean = r.held_log.clean };
        keeps = r.keeps;
        flushed = r.flushed;
        some = r.some;
        patches_are = r.patches_are;
        contents = r.contents;
        reads = r.reads;
        hold = r.hold;
      }

  pub ready_still : now.drives ≡ was.drives → now.units ≡ was.units → ((d : Device) → now.disk d ≡ was.disk d) → IsReady was a held → IsReady now a held
  ready_still drives units disk r =
      let disks : now.disk ≡ was.disk = λ k d. disk d k in
      let one : IsReady (record was { drives = now.drives }) a held = subst (λ (n : ℕ). IsReady (record was { drives = n }) a held) (sym drives) r in
      let two : IsReady (record was { drives = now.drives; units = now.units }) a held = subst (λ (n : ℕ). IsReady (record was { drives = now.drives; units = n }) a held) (sym units) one in
      from_moved (subst (λ (f : Device → Disk). IsReady (record was { drives = now.drives; units = now.units; disk = f }) a held) (sym disks) two)

-- what segments hold is a matter of the devices alone
pub segments_still : (was now : Shelved) (a : Array) (contents : Contents) → ((d : Device) → now.disk d ≡ was.disk d) → SegmentsHold contents was a.register (facts a.memory.memory.tables) → SegmentsHold contents now a.register (facts a.memory.memory.tables)
segments_still was now a contents disk h =
    let disks : now.disk ≡ was.disk = λ k d. disk d k in
    subst (λ (f : Device → Disk). SegmentsHold contents (record was { disk = f }) a.register (facts a.memory.memory.tables)) (sym disks) h
