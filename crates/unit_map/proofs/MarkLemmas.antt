-- Places marked one by one.
use Rattle.unit_map.proofs.Prelude.{ℕ, true, ◌≡◌, ◌<◌, ◌≤◌, ◌+◌, List, length, get_or, take, ap, ◌∙◌, take_all, Place, Drive, drive_at, with_units}

-- what stands past the last place
abbrev pub no_place : Place
no_place = record { slot = 0; unit = 0 }

abbrev pub place_at : List Place → ℕ → Place
place_at places shard = get_or places shard no_place

pub record IsMarkedUpTo (old now : List Drive) (places : List Place) (shard : ℕ) : Type 0 where
  pub size : length now ≡ length old
  pub marked : now ≡ with_units true old (take shard places)
  pub others : (j : ℕ) → shard ≤ j → j < length places → drive_at now (place_at places j).slot ≡ drive_at old (place_at places j).slot

pub marked-all : (old now : List Drive) (places : List Place) (shard : ℕ) → length places ≤ shard → IsMarkedUpTo old now places shard → now ≡ with_units true old places
marked-all old now places shard le h = h.marked ∙ ap (with_units true old) (take_all shard places le)
