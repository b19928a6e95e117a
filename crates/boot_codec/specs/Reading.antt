-- Reading from the front, with the first fault that is met.
use Rattle.std.specs.Prelude.{◌≡◌, ℕ, zero, suc, ◌+◌, ◌-◌, ◌/◌, ◌%◌, ◌^◌, Bool, true, ◌&&◌, List, [], ◌∷◌, ◌++◌, length, drop, slice_index, nat_lt, nat_le, ◌==◌, if◌then◌else◌, Result, Ok, Err, codes}
use Rattle.std.specs.Int.{Width, w8, w16, w32, w64, byte_len, from_be_bytes, div_ceil, is_in_range}
use Rattle.pur_base.specs.Prelude.{zeros}
use Rattle.pur_base.specs.declared.limits.TheConstants.{SLOTS_MIN, SLOTS_MAX, UNITS_MIN, UNITS_MAX, BOOT_UNITS, SEGMENT_SHARDS}
use Rattle.pur_base.specs.declared.place.Place.{Place}
use Rattle.boot_codec.specs.declared.limits.TheConstants.{RECORD_BYTES, FORMAT, DRIVE_FLAGS, NVRAM_FLAGS, MEMBER_DRIVES_MIN, MEMBER_NVRAMS_MIN, NUMBER_LIMIT, TAG_MAX, PATCHES, PATCH_SEGMENTS, FACTS_PER_SEGMENT}
use Rattle.boot_codec.specs.declared.bad_record.BadRecord.{BadRecord}
use Rattle.boot_codec.specs.declared.bad_record.ReadError.{ReadError}
use Rattle.boot_codec.specs.declared.bad_record.ReadError.TheVariants as errors
use Rattle.boot_codec.specs.declared.patch.PatchSegment.{PatchSegment}
use Rattle.boot_codec.specs.declared.patch.Patch.{Patch}
use Rattle.boot_codec.specs.declared.record.Members.{Members}
use Rattle.boot_codec.specs.declared.record.NextNumbers.{NextNumbers}
use Rattle.boot_codec.specs.declared.record.BootRecord.{BootRecord}
use Rattle.boot_codec.specs.Record.{set_count}

-- a value and the bytes after it, or the first fault
abbrev pub Reading : Type 0 → Type 0
Reading A = List ℕ → Result (A × List ℕ) BadRecord

-- what a second reading makes of a first one's outcome
abbrev pub then_read : {A B : Type 0} → (A → Reading B) → Result (A × List ℕ) BadRecord → Result (B × List ℕ) BadRecord
then_read f (Ok x) = f x.0 x.1
then_read f (Err e) = Err e

-- one reading, and then another
infixl 10 ◌>>=◌
abbrev pub ◌>>=◌ : {A B : Type 0} → Reading A → (A → Reading B) → Reading B
read >>= f = λ bytes. then_read f (read bytes)

-- a value, with no byte read
abbrev pub give : {A : Type 0} → A → Reading A
give x = λ bytes. Ok (x, bytes)

-- the fault of a field that begins where these bytes do, the last bytes of a record
abbrev pub fault_at : List ℕ → BadRecord
fault_at bytes = record { place = RECORD_BYTES - length bytes; byte = slice_index bytes 0 }

-- What a function returned, seen by view, is what reading gives, unless memory ran out.
abbrev pub Fails : {Y : Type 0} → ReadError → Result Y BadRecord → Type 0
Fails (errors.Memory m) read = Unit {0}
Fails (errors.Bad e) read = read ≡ Err e

-- the same for a function that may return a value
abbrev pub Gives : {X Y : Type 0} → (X → Y) → Result X ReadError → Result Y BadRecord → Type 0
Gives view (Ok x) read = read ≡ Ok (view x)
Gives view (Err e) read = Fails e read

-- what was read before, and what is still read
abbrev pub with_front : {A : Type 0} → List A → Result (List A × List ℕ) BadRecord → Result (List A × List ℕ) BadRecord
with_front front (Ok x) = Ok (front ++ x.0, x.1)
with_front front (Err e) = Err e

-- ---- numbers

-- a number that passes the test
abbrev pub number : Width → (ℕ → Bool) → Reading ℕ
number w test = λ bytes.
    let n = from_be_bytes w bytes in
    if test n then Ok (n, drop (byte_len w) bytes) else Err (fault_at bytes)

-- from 1 up to below 2^48
unfoldable pub next_number : Reading ℕ
next_number = number w64 (λ n. nat_le 1 n && nat_lt n NUMBER_LIMIT)

-- below 2^48
unfoldable pub flushed_number : Reading ℕ
flushed_number = number w64 (λ n. nat_lt n NUMBER_LIMIT)

-- these bytes, of which the first that differs fails
unfoldable pub these : List ℕ → Reading (Unit {0})
these [] = give tt
these (b ∷ bs) = number w8 (λ n. n == b) >>= λ _. these bs

-- ---- the header

-- the format of this crate
unfoldable pub format : Reading ℕ
format = number w32 (λ n. n == FORMAT)

-- the slots of the shelf
unfoldable pub slots_of : ℕ → Reading ℕ
slots_of shelf = number w16 (λ n. (n == shelf) && is_in_range SLOTS_MIN SLOTS_MAX n)

-- the units of the shelf's drives
unfoldable pub units_of : ℕ → Reading ℕ
units_of shelf = number w16 (λ n. (n == shelf) && is_in_range UNITS_MIN UNITS_MAX n)

-- the text, the format, the slots and the units
unfoldable pub opening : ℕ → ℕ → Reading (Unit {0})
opening slots units = do
  _ ← these (codes "PURARRAY")
  _ ← format
  _ ← slots_of slots
  _ ← units_of units
  give tt

-- the flags of a number's lowest bits
abbrev pub flags : ℕ → ℕ → List Bool
flags zero n = []
flags (suc k) n = (n % 2 == 1) ∷ flags k (n / 2)

-- at least nine drives, none of them past the slots
unfoldable pub drives : ℕ → Reading (List Bool)
drives slots = do
  n ← number w32 (λ n. nat_lt n (2 ^ slots) && nat_le MEMBER_DRIVES_MIN (set_count (flags DRIVE_FLAGS n)))
  give (flags DRIVE_FLAGS n)

-- at least one of the NVRAM devices
unfoldable pub nvrams : Reading (List Bool)
nvrams = do
  n ← number w8 (λ n. nat_lt n (2 ^ NVRAM_FLAGS) && nat_le MEMBER_NVRAMS_MIN (set_count (flags NVRAM_FLAGS n)))
  give (flags NVRAM_FLAGS n)

-- the drives, the NVRAM devices, and three zeros
unfoldable pub members : ℕ → Reading Members
members slots = do
  drives ← drives slots
  nvrams ← nvrams
  _ ← these (zeros 3)
  give (record { drives = drives; nvrams = nvrams })

-- the five next numbers
unfoldable pub next_numbers : Reading NextNumbers
next_numbers = do
  object ← next_number
  medium ← next_number
  segment ← next_number
  patch_segment ← next_number
  sequence ← next_number
  give (record { object = object; medium = medium; segment = segment; patch_segment = patch_segment; sequence = sequence })

-- ---- the lists

-- a data unit on that slot or a greater one
unfoldable pub place_from : ℕ → ℕ → ℕ → Reading Place
place_from slots units least = do
  slot ← number w8 (λ s. nat_le least s && nat_lt s slots)
  unit ← number w16 (λ u. nat_le BOOT_UNITS u && nat_lt u units)
  give (record { slot = slot; unit = unit })

-- so many places on ascending slots, the first of them at least that one
unfoldable pub places_from : ℕ → ℕ → ℕ → ℕ → Reading (List Place)
places_from slots units least zero = give []
places_from slots units least (suc n) = do
  first ← place_from slots units least
  others ← places_from slots units (first.slot + 1) n
  give (first ∷ others)

-- any id, and nine places
unfoldable pub segment : ℕ → ℕ → Reading PatchSegment
segment slots units = do
  id ← number w64 (λ n. true)
  places ← places_from slots units 0 SEGMENT_SHARDS
  give (record { id = id; places = places })

-- so many segments
unfoldable pub segments : ℕ → ℕ → ℕ → Reading (List PatchSegment)
segments slots units zero = give []
segments slots units (suc n) = do
  first ← segment slots units
  others ← segments slots units n
  give (first ∷ others)

-- that tag or a greater one
unfoldable pub tag_from : ℕ → Reading ℕ
tag_from least = number w8 (λ t. nat_le least t && nat_le t TAG_MAX)

-- at least one
unfoldable pub facts : Reading ℕ
facts = number w32 (nat_le 1)

-- as many segments as the facts need, and no more than there is room for
unfoldable pub segment_count : ℕ → ℕ → Reading ℕ
segment_count facts room = number w16 (λ c. (c == div_ceil facts FACTS_PER_SEGMENT) && nat_le c room)

-- a patch of that tag or a greater one, with at most so many segments
unfoldable pub patch : ℕ → ℕ → ℕ → ℕ → Reading Patch
patch slots units least room = do
  tag ← tag_from least
  facts ← facts
  count ← segment_count facts room
  segments ← segments slots units count
  give (record { tag = tag; facts = facts; segments = segments })

-- so many patches by ascending tag, the first of them at least that one, with at most so many segments
unfoldable pub patches : ℕ → ℕ → ℕ → ℕ → ℕ → Reading (List Patch)
patches slots units least room zero = give []
patches slots units least room (suc n) = do
  first ← patch slots units least room
  others ← patches slots units first.tag (room - length first.segments) n
  give (first ∷ others)

-- no more patches than a record holds
unfoldable pub patch_count : Reading ℕ
patch_count = number w16 (λ n. nat_le n PATCHES)

-- none in this format
unfoldable pub frontier_count : Reading ℕ
frontier_count = number w16 (λ n. n == 0)

-- what is still to be read
abbrev pub here : Reading (List ℕ)
here = λ bytes. Ok (bytes, bytes)

-- the field says how long the record is up to here, or it fails
abbrev pub length_is : List ℕ → Reading (Unit {0})
length_is field = λ bytes. if from_be_bytes w32 field == RECORD_BYTES - length bytes then Ok (tt, bytes) else Err (fault_at field)

-- the number of patches, no frontier units, the length, and the patches
unfoldable pub lists : ℕ → ℕ → Reading (List Patch)
lists slots units = do
  count ← patch_count
  _ ← frontier_count
  field ← here
  _ ← number w32 (λ n. true)
  patches ← patches slots units 1 PATCH_SEGMENTS count
  _ ← length_is field
  give patches

-- nothing but zeros up to the end
unfoldable pub padding : Reading (Unit {0})
padding = λ bytes. these (zeros (length bytes)) bytes

-- ---- the record

-- all of the fields, from the front
unfoldable pub boot_record : ℕ → ℕ → Reading BootRecord
boot_record slots units = do
  _ ← opening slots units
  generation ← next_number
  members ← members slots
  next ← next_numbers
  flushed ← flushed_number
  patches ← lists slots units
  _ ← padding
  give (record { slots = slots; units = units; generation = generation; members = members; next = next; flushed = flushed; patches = patches })

-- the value without the bytes after it
abbrev pub value_of : {A : Type 0} → Result (A × List ℕ) BadRecord → Result A BadRecord
value_of (Ok x) = Ok x.0
value_of (Err e) = Err e

-- the record that the bytes spell on a shelf of so many slots and units, or the first fault
unfoldable pub read_record : ℕ → ℕ → List ℕ → Result BootRecord BadRecord
read_record slots units bytes = value_of (boot_record slots units bytes)
