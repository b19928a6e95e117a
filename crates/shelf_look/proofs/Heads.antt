-- What a slot shows, by the head with which it begins.
use Rattle.shelf_look.proofs.Prelude.{◌≡◌, ◌∙◌, ℕ, ◌+◌, ◌*◌, ◌-◌, ◌<◌, Bool, true, false, List, take, drop, ap, subst, sym, refl, arith, inl, inr, IsTrue, slice_index, slice_range, eq-eqb, get_or-take, take-take, Command, is_open, Device, same_device, Head, Decodes, slot_at, ShowsIn, Shelved, Disk, IsSame, OthersStay, IsShownAt}
use Rattle.nvram_log.specs.lemmas.Heads.{head_of, shown_head}

-- by what is shown where the answer is yes, and not shown where it is no
pub shown_if : (bytes : List ℕ) (flushed slot : ℕ) (b : Bool) → (b ≡ true → (c : Command) × ShowsIn bytes flushed slot c) → (b ≡ false → (c : Command) → ¬ ShowsIn bytes flushed slot c) → IsShownAt bytes flushed slot b
shown_if bytes flushed slot true some none = some refl
shown_if bytes flushed slot false some none = none refl

-- a head of another number
pub number_shown : (bytes : List ℕ) (flushed slot : ℕ) (sector : List ℕ) (h : Head) → take 512 (slot_at slot bytes) ≡ sector → ((x : Head) → Decodes sector x → h ≡ x) → (c : Command) → ShowsIn bytes flushed slot c → h.number ≡ flushed + 1 + slot
number_shown bytes flushed slot sector h first one c shows = ap (λ (x : Head). x.number) (one (head_of (flushed + 1 + slot) c) (shown_head bytes flushed slot sector (sym first) c shows))

-- ---- a read of one device

pub same_on : (a b : Shelved) (device : Device) → OthersStay device a b → IsSame (a.disk device) (b.disk device) → (d : Device) → IsSame (a.disk d) (b.disk d)
same_on a b device others here d = elim (same_device d device) [
  | inl e ↦ subst (λ (x : Device). IsSame (a.disk x) (b.disk x)) (sym e) here
  | inr ne ↦ record { bytes = ap (λ (k : Disk). k.bytes) (others d ne); dirty = ap (λ (k : Disk). k.dirty) (others d ne) }
]

pub first_of : (bytes : List ℕ) (at slot : ℕ) → at ≡ 4096 + 33280 * slot → take 512 (slot_at slot bytes) ≡ slice_range bytes at (at + 512)
first_of bytes at slot e =
    take-take 512 33280 (drop (4096 + 33280 * slot) bytes) (omega arith)
    ∙ ap (λ (k : ℕ). take 512 (drop k bytes)) (sym e)
    ∙ ap (λ (n : ℕ). take n (drop at bytes)) (let e2 : 512 ≡ at + 512 - at = omega arith in e2)

pub gate_open : (bytes : List ℕ) (slot gate : ℕ) → slice_index bytes slot ≡ gate → gate ≡ 1 → IsTrue (is_open slot bytes)
gate_open bytes slot gate here one = eq-eqb _ _ (here ∙ one)

pub gate_read : (bytes later gates : List ℕ) (slot : ℕ) → slot < 64 → gates ≡ slice_range bytes 0 64 → later ≡ bytes → slice_index later slot ≡ slice_index gates slot
gate_read bytes later gates slot lt read same =
    ap (λ (l : List ℕ). slice_index l slot) same ∙ sym (get_or-take 64 bytes slot 0 lt) ∙ ap (λ (l : List ℕ). slice_index l slot) (sym read)
