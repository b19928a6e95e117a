-- The drives of a new map, one after another, and those of a changed one.
use Rattle.unit_map.proofs.Prelude.{ℕ, true, Bool, ◌≡◌, ◌≤◌, ◌+◌, List, [], ◌∷◌, ◌++◌, length, replicate, ap, ◌∙◌, arith, replicate-append-replicate, length-replicate, Drive}

abbrev member_with : List Bool → Drive
member_with free = record { member = true; free = free }

pub drives-more : (n : ℕ) (made free : List Bool) (old new : List Drive) → made ≡ free → old ≡ replicate n (member_with free) → new ≡ old ++ member_with made ∷ [] → new ≡ replicate (n + 1) (member_with free)
drives-more n made free old new is so_far e =
    e ∙ ap (λ (drives : List Drive). drives ++ member_with made ∷ []) so_far ∙ ap (λ (units : List Bool). replicate n (member_with free) ++ member_with units ∷ []) is
    ∙ replicate-append-replicate n 1 (member_with free)

pub drives-made : (n slots : ℕ) (drive : Drive) (drives : List Drive) → n ≤ slots → slots ≤ n → drives ≡ replicate n drive → drives ≡ replicate slots drive
drives-made n slots drive drives le ge e = let same : n ≡ slots = omega arith in e ∙ ap (λ (k : ℕ). replicate k drive) same

pub drives-few : (n slots most : ℕ) (drive : Drive) (drives : List Drive) → n ≤ slots → slots ≤ most → drives ≡ replicate n drive → length drives ≤ most
drives-few n slots most drive drives le fits e = omega (arith, ap length e, length-replicate n drive)

pub kept-few : (most : ℕ) (old new : List Drive) → length new ≡ length old → length old ≤ most → length new ≤ most
kept-few most old new e le = omega (arith, e)
