-- What a device shows in a slot, by the head with which the slot begins.
use Rattle.std.proofs.lemmas.Bool.Decides.{nat_tests}
use Rattle.std.proofs.Common.{◌≡◌, ◌∙◌, inl, inr, ℕ, zero, suc, ◌+◌, ◌*◌, ◌<◌, ◌≤◌, List, [], ◌∷◌, ◌++◌, length, take, drop, refl, sym, ap, subst, arith, append-nil, append_assoc, drop-drop, drop_of_length-le, get_or-drop, get_or-take, length-append, length-drop, length-take, take-append-drop, take-take, take_at, IsTrue}
use Rattle.std.proofs.lemmas.Bool.{cases_lt}
use Rattle.std.proofs.lemmas.List.{get_or_past, length-replicate}
use Rattle.std.specs.List.{AllByRecursion, concat}
use Rattle.pur_base.specs.declared.request.Request.TheVariants as request
use Rattle.world.specs.Prelude.{Command, IsBytes, IsBytesOf, Request, SECTOR_BYTES, data_count, is_open, sectors_in}
use Rattle.log_codec.specs.Prelude.{Decodes, HasSpelling, IsCommand, ShowsIn, Spells, slot_at, slot_bytes}
unfoldable use Rattle.log_codec.specs.Prelude.{head_bytes}
use Rattle.log_codec.specs.declared.head.Head.{Head}
use Rattle.log_codec.proofs.FieldLemmas.{length-padded}
use Rattle.nvram_log.specs.Logged.{command_in}

-- a command brings at most 64 sectors
pub few_data : (r : Request) → IsCommand r → data_count r ≤ 64
few_data (request.Write n lba count) is = is.2.1
few_data _ is = omega arith

pub length-head : (h : Head) → IsCommand h.command → length (head_bytes h) ≡ 512
unfolding head_bytes
length-head h is = grind (arith, nat_tests, length-append, length-padded, length-replicate)

pub length-sectors : (sectors : List (List ℕ)) → AllByRecursion (IsBytesOf SECTOR_BYTES) sectors → length (concat sectors) ≡ 512 * length sectors
length-sectors [] all = omega arith
length-sectors (x ∷ xs) all = omega (arith, length-append x (concat xs), all.0.0, length-sectors xs all.1)

pub length-slot : (number : ℕ) (c : Command) → HasSpelling number c → length (slot_bytes number c) ≡ 512 * (1 + length c.sectors)
length-slot number c lawful = grind (arith, nat_tests, length-append, head_bytes, length-head, length-sectors)

-- a slot with that front spells it
pub spells_front : (slot : List ℕ) (n number : ℕ) (c : Command) → HasSpelling number c → take n slot ≡ slot_bytes number c → Spells slot number c
spells_front slot n number c lawful front = record { lawful = lawful; behind = drop n slot; text = sym (take-append-drop n slot) ∙ ap (λ (l : List ℕ). l ++ drop n slot) front }

abbrev pub head_of : ℕ → Command → Head
head_of number c = record { number = number; command = c.request }

split : (slot : List ℕ) (number : ℕ) (c : Command) (s : Spells slot number c) → slot ≡ head_bytes (head_of number c) ++ (concat c.sectors ++ s.behind)
split slot number c s = s.text ∙ append_assoc (head_bytes (head_of number c)) (concat c.sectors) s.behind

pub decoded : (slot : List ℕ) (number : ℕ) (c : Command) → Spells slot number c → Decodes (take 512 slot) (head_of number c)
decoded slot number c s = record {
  head = record { number = s.lawful.fits; command = s.lawful.command };
  bytes = ap (take 512) (split slot number c s) ∙ take_at (head_bytes (head_of number c)) (concat c.sectors ++ s.behind) 512 (length-head (head_of number c) s.lawful.command);
}

-- ---- sectors of bytes

length-sectors_in : (n : ℕ) (bytes : List ℕ) → length (sectors_in n bytes) ≡ n
length-sectors_in zero bytes = refl
length-sectors_in (suc n) bytes = omega (arith, length-sectors_in n (drop 512 bytes))

-- with the sizes named, since omega counts a large number of elements one by one
pub length-front : {A : Type 0} (size : ℕ) (l : List A) → size ≤ length l → length (take size l) ≡ size
length-front size l fits = omega (arith, fits, length-take size l)

length-part : (size from : ℕ) (l : List ℕ) → from + size ≤ length l → length (take size (drop from l)) ≡ size
length-part size from l fits = length-front size (drop from l) (omega (arith, fits, length-drop from l))

front_is_bytes : (n : ℕ) (bytes : List ℕ) → IsBytes bytes → IsBytes (take n bytes)
front_is_bytes n bytes are i = elim (cases_lt i n) [
  | inl lt ↦ omega (arith, get_or-take n bytes i 0 lt, are i)
  | inr ge ↦ omega (arith, get_or_past (take n bytes) i 0 (omega (arith, ge, length-take n bytes)))
]

rest_is_bytes : (n : ℕ) (bytes : List ℕ) → IsBytes bytes → IsBytes (drop n bytes)
rest_is_bytes n bytes are i = omega (arith, get_or-drop n bytes i 0, are (n + i))

are_sectors : (n : ℕ) (bytes : List ℕ) → 512 * n ≤ length bytes → IsBytes bytes → AllByRecursion (IsBytesOf SECTOR_BYTES) (sectors_in n bytes)
are_sectors zero bytes fits are = tt
are_sectors (suc n) bytes fits are = ((omega (arith, fits, length-take 512 bytes), front_is_bytes 512 bytes are), are_sectors n (drop 512 bytes) (omega (arith, fits, length-drop 512 bytes)) (rest_is_bytes 512 bytes are))

joined : (n : ℕ) (bytes : List ℕ) → bytes ≡ concat (sectors_in n bytes) ++ drop (512 * n) bytes
joined zero bytes = refl
joined (suc n) bytes =
    let rest = drop 512 bytes in
    let past : drop (512 * n) rest ≡ drop (512 * suc n) bytes = drop-drop (512 * n) 512 bytes ∙ ap (λ (k : ℕ). drop k bytes) (let e : 512 + 512 * n ≡ 512 * suc n = omega arith in e) in
    sym (take-append-drop 512 bytes) ∙ ap (λ (l : List ℕ). take 512 bytes ++ l) (joined n rest ∙ ap (λ (l : List ℕ). concat (sectors_in n rest) ++ l) past)
    ∙ sym (append_assoc (take 512 bytes) (concat (sectors_in n rest)) (drop (512 * suc n) bytes))

-- so many bytes are the text of the command in them
pub text_of : (bytes : List ℕ) (h : Head) → length bytes ≡ 512 * (1 + data_count h.command) → IsBytes bytes → Decodes (take 512 bytes) h → HasSpelling h.number (command_in bytes h) × (bytes ≡ slot_bytes h.number (command_in bytes h))
text_of bytes h long are decodes =
    let n = data_count h.command in
    let rest = drop 512 bytes in
    let size : length rest ≡ 512 * n = omega (arith, long, length-drop 512 bytes) in (
      record { fits = decodes.head.number; command = decodes.head.command; count = length-sectors_in n rest; sectors = are_sectors n rest (omega (arith, size)) (rest_is_bytes 512 bytes are) },
      sym (take-append-drop 512 bytes) ∙ ap (λ (l : List ℕ). l ++ rest) decodes.bytes ∙ ap (λ (l : List ℕ). head_bytes h ++ l) (joined n rest ∙ ap (λ (l : List ℕ). concat (sectors_in n rest) ++ l) (drop_of_length-le rest (let le : length rest ≤ 512 * n = omega (arith, size) in le)) ∙ append-nil (concat (sectors_in n rest))),
    )

-- ---- what a device shows

-- the head with which a slot begins that shows a command
pub shown_head : (bytes : List ℕ) (flushed i : ℕ) (sector : List ℕ) → sector ≡ take 512 (slot_at i bytes) → (c : Command) → ShowsIn bytes flushed i c → Decodes sector (head_of (flushed + 1 + i) c)
shown_head bytes flushed i sector is c shows = subst (λ (l : List ℕ). Decodes l (head_of (flushed + 1 + i) c)) (sym is) (decoded (slot_at i bytes) (flushed + 1 + i) c shows.spelled)

-- under an open gate a slot that begins with a head of its number shows the command of that head
pub shown_by_head : (bytes : List ℕ) (flushed i : ℕ) (sector : List ℕ) (h : Head) → i < 64 → IsBytesOf 2134016 bytes → IsTrue (is_open i bytes) → sector ≡ take 512 (slot_at i bytes) → Decodes sector h → h.number ≡ flushed + 1 + i
    → (c : Command) × ShowsIn bytes flushed i c
shown_by_head bytes flushed i sector h lt are gate is decodes number =
    let at = slot_at i bytes in
    let n = 512 * (1 + data_count h.command) in
    let few : n ≤ 33280 = omega (arith, few_data h.command decodes.head.command) in
    let rest = drop (4096 + 33280 * i) bytes in
    let long : length (take n at) ≡ n = length-front n at (omega (arith, few, length-part 33280 (4096 + 33280 * i) bytes (omega (arith, are.0, lt)))) in
    let first : take 512 (take n at) ≡ sector = take-take 512 n at (omega arith) ∙ sym is in
    let text = text_of (take n at) h long (front_is_bytes n at (front_is_bytes 33280 rest (rest_is_bytes (4096 + 33280 * i) bytes are.1))) (subst (λ (l : List ℕ). Decodes l h) (sym first) decodes) in (
      command_in (take n at) h,
      record { slot = lt; gate = gate; spelled = subst (λ (k : ℕ). Spells at k (command_in (take n at) h)) number (spells_front at n h.number (command_in (take n at) h) text.0 text.1) },
    )
