-- The fields that stand in a sector, and the head that the sector spells.
use Rattle.std.proofs.lemmas.Bool.Decides.{nat_tests}
use Rattle.std.proofs.Common.{◌≡◌, ℕ, ◌-◌, ◌^◌, ◌<◌, ◌≤◌, List, ◌++◌, length, take, drop, refl, ap, sym, ◌∙◌, append_assoc, arith, codes, length-append, length-take, take_at, drop_at, take-append-drop}
use Rattle.std.proofs.lemmas.List.{length-replicate}
use Rattle.pur_base.specs.Prelude.{u8, u32, u64, zeros, padded, same_front, same_u8, same_u32, same_u64, zeros_are}
use Rattle.pur_base.specs.declared.limits.TheConstants.{SECTOR_BYTES, NAME_BYTES}
use Rattle.pur_base.specs.declared.request.Request.{Request}
use Rattle.pur_base.specs.declared.request.Request.TheVariants as request
use Rattle.log_codec.specs.declared.head.Head.{Head}
use Rattle.log_codec.specs.declared.fields.Fields.{Fields}
use Rattle.log_codec.specs.declared.parts.Parts.{Parts}
use Rattle.log_codec.specs.Head.{kind_code, first_name, second_name, fill_byte, sector_count, first_lba, second_lba, head_fields, head_bytes, IsName, IsCommand, IsHead, Decodes}
use Rattle.log_codec.specs.Fields.{AreFields, IsText, IsFrame, AreIn}
use Rattle.log_codec.specs.Parts.{ArePartsOf}

-- ---- what a command's parts fit

pub record Fits (r : Request) : Type 0 where
  pub first : length (first_name r) ≤ 24
  pub second : length (second_name r) ≤ 24
  pub count : sector_count r < 2 ^ 32
  pub lba : first_lba r < 2 ^ 64
  pub second_lba : second_lba r < 2 ^ 64

name_fits : (n : List ℕ) → IsName n → length n ≤ 24
name_fits n is = grind arith

pub fits : (r : Request) → IsCommand r → Fits r
fits (request.Create n sectors) is = record { first = name_fits n is.0; second = omega arith; count = is.1; lba = omega arith; second_lba = omega arith }
fits (request.Write n lba count) is = record { first = name_fits n is.0; second = omega arith; count = omega (arith, is.2.1); lba = is.1; second_lba = omega arith }
fits (request.Fill n lba count byte) is = record { first = name_fits n is.0; second = omega arith; count = omega (arith, is.2.1); lba = is.1; second_lba = omega arith }
fits (request.Zero n lba count) is = record { first = name_fits n is.0; second = omega arith; count = omega (arith, is.2.1); lba = is.1; second_lba = omega arith }
fits (request.Snapshot n new) is = record { first = name_fits n is.0; second = name_fits new is.1; count = omega arith; lba = omega arith; second_lba = omega arith }
fits (request.Clone n new) is = record { first = name_fits n is.0; second = name_fits new is.1; count = omega arith; lba = omega arith; second_lba = omega arith }
fits (request.Copy n lba m to count) is = record { first = name_fits n is.0; second = name_fits m is.2; count = is.5; lba = is.1; second_lba = is.3 }
fits (request.Destroy n) is = record { first = name_fits n is; second = omega arith; count = omega arith; lba = omega arith; second_lba = omega arith }
fits _ is = absurd is

-- ---- the text in a field

pub length-padded : (n : List ℕ) → length n ≤ 24 → length (padded NAME_BYTES n) ≡ 24
length-padded n within = omega (arith, length-append n (zeros (24 - length n)), length-replicate {A = ℕ} (24 - length n) 0)

text_is : (len : ℕ) (field n : List ℕ) → length n ≤ 24 → len ≡ length n → field ≡ padded NAME_BYTES n → IsText len field
text_is len field n within len_is is = grind (arith, nat_tests, zeros, drop_at, length-padded, zeros_are)

text_of : (len : ℕ) (field n : List ℕ) → len ≡ length n → field ≡ padded NAME_BYTES n → take len field ≡ n
text_of len field n len_is is = rw (len_is, is) (take_at n (zeros (24 - length n)) (length n) refl)

len_of : (len : ℕ) (field n : List ℕ) → length field ≡ 24 → IsText len field → take len field ≡ n → len ≡ length n
len_of len field n size text is = omega (arith, ap length is, length-take len field, text.0)

field_of : (len : ℕ) (field n : List ℕ) → length field ≡ 24 → IsText len field → take len field ≡ n → field ≡ padded NAME_BYTES n
field_of len field n size text is =
    let len_is = len_of len field n size text is in
    let behind : length (drop len field) ≡ 24 - length n = omega (arith, ap length (take-append-drop len field), length-append (take len field) (drop len field), ap length is, size) in
    sym (take-append-drop len field) ∙ ap (λ (x : List ℕ). x ++ drop len field) is ∙ ap (λ (x : List ℕ). n ++ x) (text.1 ∙ ap zeros behind)

-- ---- the fields of a head

-- the zeros behind a head's fields
abbrev pub behind : Head → List ℕ
behind h = zeros (SECTOR_BYTES - length (head_fields h))

-- the fields are those of a head
pub record AreOf (f : Fields) (h : Head) : Type 0 where
  pub magic : f.magic.now ≡ codes "PURNVLOG"
  pub number : f.number ≡ h.number
  pub kind : f.kind ≡ kind_code h.command
  pub first_len : f.first_len ≡ length (first_name h.command)
  pub second_len : f.second_len ≡ length (second_name h.command)
  pub byte : f.byte ≡ fill_byte h.command
  pub count : f.count ≡ sector_count h.command
  pub lba : f.lba ≡ first_lba h.command
  pub second_lba : f.second_lba ≡ second_lba h.command
  pub first : f.first.now ≡ padded NAME_BYTES (first_name h.command)
  pub second : f.second.now ≡ padded NAME_BYTES (second_name h.command)
  pub rest : f.rest.now ≡ behind h

-- a head's spelling, field by field
pub spelled : (h : Head) → head_bytes h
    ≡ codes "PURNVLOG" ++ u64 h.number ++ u8 (kind_code h.command)
    ++ u8 (length (first_name h.command)) ++ u8 (length (second_name h.command)) ++ u8 (fill_byte h.command)
    ++ u32 (sector_count h.command) ++ u64 (first_lba h.command) ++ u64 (second_lba h.command)
    ++ (padded NAME_BYTES (first_name h.command) ++ (padded NAME_BYTES (second_name h.command) ++ behind h))
unfolding head_bytes
spelled h = ap
    (λ (x : List ℕ). codes "PURNVLOG" ++ u64 h.number ++ u8 (kind_code h.command)
    ++ u8 (length (first_name h.command)) ++ u8 (length (second_name h.command)) ++ u8 (fill_byte h.command)
    ++ u32 (sector_count h.command) ++ u64 (first_lba h.command) ++ u64 (second_lba h.command) ++ x)
    (append_assoc (padded NAME_BYTES (first_name h.command)) (padded NAME_BYTES (second_name h.command)) (behind h))

length-head_fields : (h : Head) → Fits h.command → SECTOR_BYTES - length (head_fields h) ≡ 424
length-head_fields h fit =
    omega (arith, length-append (padded NAME_BYTES (first_name h.command)) (padded NAME_BYTES (second_name h.command)), length-padded (first_name h.command) fit.first, length-padded (second_name h.command) fit.second)

pub fields_are_of : (sector : List ℕ) (f : Fields) (h : Head) → AreFields sector f → Decodes sector h → AreOf f h
fields_are_of sector f h are spells =
    let fit = fits h.command spells.head.command in
    let first_fits = length-padded (first_name h.command) fit.first in
    let second_fits = length-padded (second_name h.command) fit.second in
    -- what stands from each field on, as it was read and as the head spells it
    let f-second = f.second.now ++ f.rest.now in
    let h-second = padded NAME_BYTES (second_name h.command) ++ behind h in
    let f-first = f.first.now ++ f-second in
    let h-first = padded NAME_BYTES (first_name h.command) ++ h-second in
    let f-second_lba = u64 f.second_lba ++ f-first in
    let h-second_lba = u64 (second_lba h.command) ++ h-first in
    let f-lba = u64 f.lba ++ f-second_lba in
    let h-lba = u64 (first_lba h.command) ++ h-second_lba in
    let f-count = u32 f.count ++ f-lba in
    let h-count = u32 (sector_count h.command) ++ h-lba in
    let f-byte = u8 f.byte ++ f-count in
    let h-byte = u8 (fill_byte h.command) ++ h-count in
    let f-second_len = u8 f.second_len ++ f-byte in
    let h-second_len = u8 (length (second_name h.command)) ++ h-byte in
    let f-first_len = u8 f.first_len ++ f-second_len in
    let h-first_len = u8 (length (first_name h.command)) ++ h-second_len in
    let f-kind = u8 f.kind ++ f-first_len in
    let h-kind = u8 (kind_code h.command) ++ h-first_len in
    let f-number = u64 f.number ++ f-kind in
    let h-number = u64 h.number ++ h-kind in
    let e : f.magic.now ++ f-number ≡ codes "PURNVLOG" ++ h-number = sym are.bytes ∙ spells.bytes ∙ spelled h in
    let magic = same_front f.magic.now (codes "PURNVLOG") f-number h-number are.magic e in
    let number = same_u64 f.number h.number f-kind h-kind are.number spells.head.number magic.1 in
    let kind = same_u8 f.kind (kind_code h.command) f-first_len h-first_len number.1 in
    let first_len = same_u8 f.first_len (length (first_name h.command)) f-second_len h-second_len kind.1 in
    let second_len = same_u8 f.second_len (length (second_name h.command)) f-byte h-byte first_len.1 in
    let byte = same_u8 f.byte (fill_byte h.command) f-count h-count second_len.1 in
    let count = same_u32 f.count (sector_count h.command) f-lba h-lba are.count fit.count byte.1 in
    let lba = same_u64 f.lba (first_lba h.command) f-second_lba h-second_lba are.lba fit.lba count.1 in
    let second_lba = same_u64 f.second_lba (second_lba h.command) f-first h-first are.second_lba fit.second_lba lba.1 in
    let first = same_front f.first.now (padded NAME_BYTES (first_name h.command)) f-second h-second (are.first ∙ sym first_fits) second_lba.1 in
    let second = same_front f.second.now (padded NAME_BYTES (second_name h.command)) f.rest.now (behind h) (are.second ∙ sym second_fits) first.1 in
    record {
      magic = magic.0;
      number = number.0;
      kind = kind.0;
      first_len = first_len.0;
      second_len = second_len.0;
      byte = byte.0;
      count = count.0;
      lba = lba.0;
      second_lba = second_lba.0;
      first = first.0;
      second = second.0;
      rest = second.1;
    }

pub frame_of : (f : Fields) (h : Head) → IsHead h → AreOf f h → IsFrame f
frame_of f h head of =
    let fit = fits h.command head.command in
    record {
      magic = of.magic;
      first = text_is f.first_len f.first.now (first_name h.command) fit.first of.first_len of.first;
      second = text_is f.second_len f.second.now (second_name h.command) fit.second of.second_len of.second;
      rest = zeros_are f.rest.now (SECTOR_BYTES - length (head_fields h)) of.rest;
    }

pub parts_of : (f : Fields) (h : Head) (p : Parts) → AreOf f h → AreIn f p → ArePartsOf p h.command
parts_of f h p of are = grind (arith, nat_tests, text_of)

pub is_spelled : (sector : List ℕ) (f : Fields) (p : Parts) (r : Request) → AreFields sector f → IsFrame f → AreIn f p → IsCommand r → ArePartsOf p r
    → Decodes sector (record { number = f.number; command = r })
is_spelled sector f p r are frame in_f is of =
    let h : Head = record { number = f.number; command = r } in
    let first_is : take f.first_len f.first.now ≡ first_name r = sym in_f.first ∙ of.first in
    let second_is : take f.second_len f.second.now ≡ second_name r = sym in_f.second ∙ of.second in
    let kind : f.kind ≡ kind_code r = sym in_f.kind ∙ of.kind in
    let first_len = len_of f.first_len f.first.now (first_name r) are.first frame.first first_is in
    let second_len = len_of f.second_len f.second.now (second_name r) are.second frame.second second_is in
    let byte : f.byte ≡ fill_byte r = sym in_f.byte ∙ of.byte in
    let count : f.count ≡ sector_count r = sym in_f.count ∙ of.count in
    let lba : f.lba ≡ first_lba r = sym in_f.lba ∙ of.lba in
    let second_lba : f.second_lba ≡ second_lba r = sym in_f.second_lba ∙ of.second_lba in
    let first = field_of f.first_len f.first.now (first_name r) are.first frame.first first_is in
    let second = field_of f.second_len f.second.now (second_name r) are.second frame.second second_is in
    let rest : f.rest.now ≡ behind h = frame.rest ∙ ap zeros (are.rest ∙ sym (length-head_fields h (fits r is))) in
    record {
      head = record { number = are.number; command = is };
      bytes = are.bytes ∙ rw (frame.magic, kind, first_len, second_len, byte, count, lba, second_lba, first, second, rest) (sym (spelled h));
    }
