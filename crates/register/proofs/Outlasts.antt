-- A store that goes on, whatever fails: a moment of a later round is one of the whole.
use Rattle.register.proofs.Prelude.{◌≡◌, ℕ, List, length, ◌∙◌, sym, subst, Bool, Conditions, Sound, IsBearable, drive, Array, Stands, within_twice, Shelved, Stop, Continues, geometry_of, IsMember, AreEnough, StandsAgain, Register, drives_of, Content, IsFirm, MayStore, MayStoreFirmly}
use Rattle.boot_region.proofs.Stored.{others_lost, others_within, others_not_sound, others_sound, enough_left}
use Rattle.register.proofs.Rounds.{same_shelf}

module _ (old mid : Shelved) (on : Continues old mid) (now : Register) (members nvrams : List Bool) (missing : Conditions) (held : Content) (arrays : List Array)
    (bears : IsBearable (geometry_of old) missing) (sound : (i : ℕ) → IsMember members i → missing (drive i) ≡ Sound) (fewer : (i : ℕ) → IsMember (drives_of now) i → IsMember members i)
    (as_many : length (drives_of now) ≡ mid.drives) (enough : AreEnough (drives_of now)) (firmly : MayStoreFirmly old mid now nvrams missing held arrays) where
  -- those that are left are sound, the others missing
  abbrev pub left : Conditions
  left = others_lost missing (drives_of now)

  still_sound : (i : ℕ) → IsMember (drives_of now) i → missing (drive i) ≡ Sound
  still_sound i m = sound i (fewer i m)

  borne : IsBearable (geometry_of old) left
  borne = enough_left old missing (drives_of now) (as_many ∙ on.drives) enough still_sound bears

  -- the next round may begin
  pub next_round : MayStore mid now nvrams left held arrays × IsFirm mid now left
  next_round = firmly left (others_within missing (drives_of now)) borne (λ i lt s. others_not_sound missing (drives_of now) i s) (λ i m. others_sound missing (drives_of now) i m (still_sound i m))

  pub later_again : (stop : Stop) → StandsAgain mid left arrays stop → StandsAgain old missing arrays stop
  later_again stop x = record {
    later = x.later;
    within = within_twice missing left x.later (others_within missing (drives_of now)) x.within;
    logs = λ n. x.logs n;
    stands = subst (λ g. Stands g stop.image x.later arrays) (sym (same_shelf on)) x.stands;
  }
