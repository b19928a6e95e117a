-- What the devices stand for, read otherwise.
use Rattle.std.proofs.Common.{◌≡◌, ℕ, List, length, take, ap, subst, inl, inr, arith}
use Rattle.std.proofs.Math.Seq.{take-length}
use Rattle.std.specs.Prelude.{Some}
use Rattle.boot_codec.specs.Prelude.{after_all, Condition, Conditions, Sound, Missing, LeftOut, MayBecome, IsWithin, View, Image, Geometry, MayShowAs}
use Rattle.array_spec.specs.Laws.{StandingMeans, MoreMayGoMissing}
use Rattle.array_spec.specs.Standing.{IsViewOf, MayAppear, MayBeGiven}

becomes_twice : (a b c : Condition) → MayBecome a b → MayBecome b c → MayBecome a c
becomes_twice Sound Sound c first second = second
becomes_twice Sound Missing c first second = inr second
becomes_twice Sound LeftOut c (inl e) second = absurd (left_out_isn't_sound e)
  where
    left_out_isn't_sound : LeftOut ≡ Sound → ⊥
    left_out_isn't_sound e = cc
becomes_twice Sound LeftOut c (inr e) second = absurd (left_out_isn't_missing e)
  where
    left_out_isn't_missing : LeftOut ≡ Missing → ⊥
    left_out_isn't_missing e = cc
becomes_twice Missing b c first second = let P : Condition → Type 0 = λ x. MayBecome x c in subst P first second
becomes_twice LeftOut b c first second = let P : Condition → Type 0 = λ x. MayBecome x c in subst P first second

pub within_twice : (a b c : Conditions) → IsWithin a b → IsWithin b c → IsWithin a c
within_twice a b c first second device = becomes_twice (a device) (b device) (c device) (first device) (second device)

pub sound_shows : (c : Condition) (bytes : List ℕ) (shown : _) → c ≡ Sound → MayShowAs c bytes shown → shown ≡ Some bytes
sound_shows Sound bytes shown e h = h
sound_shows Missing bytes shown e h = cc
sound_shows LeftOut bytes shown e h = cc

appears : {shelf : Geometry} {image : Image} {missing more : Conditions} {view : View} → IsViewOf shelf image missing more view → MayAppear shelf image missing more view
appears {image = image} {more = more} {view = view} v = record {
  within = v.within;
  bearable = v.bearable;
  shown = λ device sound. sound_shows (more device) (image device) (view device) sound (v.shown device);
}

pub standing_means : StandingMeans
standing_means shelf image missing arrays s = record {
  bearable = s.bearable;
  some = s.some;
  each = λ more view v.
      let e = s.gives more view (appears v) in
      let given : MayBeGiven shelf image missing e.slot e.boot = record { more = more; view = view; appears = appears v; lawful = e.lawful; effective = e.effective } in
      let reading = s.reads e.slot e.boot given in
      let r = reading.each more view v in
      record {
        effective = e;
        array = after_all reading.base (take (length r.leads.log) r.leads.log);
        one_of = r.leads.fronts (length r.leads.log) r.leads.enough (omega arith);
        means = record {
          in_force = r.in_force;
          base = reading.base;
          holds = r.holds;
          log = r.leads.log;
          log_stands = r.leads.log_stands;
          devices_agree = r.leads.devices_agree;
          result = ap (after_all reading.base) (take-length r.leads.log);
        };
        all_hold = r.all_hold;
      };
}

view_with_fewer : {shelf : Geometry} {image : Image} {missing more most : Conditions} {view : View} → IsWithin missing more → IsViewOf shelf image more most view → IsViewOf shelf image missing most view
view_with_fewer {missing = missing} {more = more} {most = most} w v = record { within = within_twice missing more most w v.within; bearable = v.bearable; shown = v.shown }

appears_with_fewer : {shelf : Geometry} {image : Image} {missing more most : Conditions} {view : View} → IsWithin missing more → MayAppear shelf image more most view → MayAppear shelf image missing most view
appears_with_fewer {missing = missing} {more = more} {most = most} w v = record { within = within_twice missing more most w v.within; bearable = v.bearable; shown = v.shown }

pub given_with_fewer : {shelf : Geometry} {image : Image} {missing more : Conditions} {slot : _} {boot : _} → IsWithin missing more → MayBeGiven shelf image more slot boot → MayBeGiven shelf image missing slot boot
given_with_fewer w g = record { more = g.more; view = g.view; appears = appears_with_fewer w g.appears; lawful = g.lawful; effective = g.effective }

pub more_may_go_missing : MoreMayGoMissing
more_may_go_missing shelf image missing more arrays w bearable s = record {
  bearable = bearable;
  some = s.some;
  gives = λ most view v. s.gives most view (appears_with_fewer w v);
  reads = λ slot boot g.
      let reading = s.reads slot boot (given_with_fewer w g) in
      record { base = reading.base; each = λ most view v. reading.each most view (view_with_fewer w v) };
  agree = λ slot slot2 boot boot2 g g2.
      let both = s.agree slot slot2 boot boot2 (given_with_fewer w g) (given_with_fewer w g2) in
      record { in_order = both.in_order; same_base = both.same_base; no_log = λ less most view v. both.no_log less most view (view_with_fewer w v) };
}
