-- The grammar of the input: which items its bytes are. It looks at no array.
use Rattle.std.specs.Prelude.{ℕ, zero, suc, ◌+◌, ◌*◌, ◌-◌, ◌^◌, Bool, true, false, not, ◌&&◌, ◌||◌, ◌==◌, nat_lt, nat_le, if◌then◌else◌, List, [], ◌∷◌, length, slice_index, take, drop, fold, codes, bytes_eq, Option, Some, None}
use Rattle.std.specs.List.{list_all, list_any, before_first, after_first, slice_split}
use Rattle.std.specs.Char.{is_ascii_digit}
use Rattle.pur_base.specs.Names.{is_name}
use Rattle.pur_base.specs.declared.limits.TheConstants.{SECTOR_BYTES, LINE_BYTES, NUMBER_DIGITS, REQUEST_SECTORS}
use Rattle.pur_base.specs.declared.request.Table.{Table}
use Rattle.pur_base.specs.declared.request.Table.TheVariants as table
use Rattle.pur_base.specs.declared.request.Request.{Request}
use Rattle.pur_base.specs.declared.request.Request.TheVariants as request

-- A request comes with the sectors that it writes. An input that ends inside a write's data ends with Cut.
pub data Item : Type 0 where
  Asked : Request → List (List ℕ) → Item
  Syntax : Item
  Cut : Item

infixl 10 ◌>>=◌
-- what a second step makes of the value of a first one, if there is one
abbrev pub ◌>>=◌ : {A B : Type 0} → Option A → (A → Option B) → Option B
(Some x) >>= f = f x
None >>= f = None

-- the value where the test holds
abbrev pub when : {A : Type 0} → Bool → A → Option A
when test x = if test then Some x else None

-- ---- words

-- words stand apart by one space
abbrev pub words : List ℕ → List (List ℕ)
words line = slice_split (λ b. b == 32) line

-- the name that a word is
abbrev pub name_of : List ℕ → Option (List ℕ)
name_of word = when (is_name word) word

-- 1 to 15 digits, with no needless zero in front
abbrev pub is_number : List ℕ → Bool
is_number word = nat_le 1 (length word) && nat_le (length word) NUMBER_DIGITS && list_all is_ascii_digit word && (length word == 1 || not (slice_index word 0 == 48))

-- the number that decimal digits stand for
abbrev pub digits_number : List ℕ → ℕ
digits_number ds = fold (λ n c. n * 10 + (c - 48)) 0 ds

-- the number that a word is
abbrev pub number_of : List ℕ → Option ℕ
number_of word = when (is_number word) (digits_number word)

-- a number in bounds
abbrev pub number_in : ℕ → ℕ → List ℕ → Option ℕ
number_in low high word = do
  n ← number_of word
  when (nat_le low n && nat_le n high) n

-- a count of sectors, 1 to 64
abbrev pub count_of : List ℕ → Option ℕ
count_of word = number_in 1 REQUEST_SECTORS word

-- a byte, 0 to 255
abbrev pub byte_of : List ℕ → Option ℕ
byte_of word = number_in 0 255 word

-- the table that a word names
abbrev pub table_of : List ℕ → Option Table
table_of word =
    if bytes_eq word (codes "object") then Some table.Object else
    if bytes_eq word (codes "medium") then Some table.Medium else
    if bytes_eq word (codes "address") then Some table.Address else
    if bytes_eq word (codes "segment") then Some table.Segment else
    if bytes_eq word (codes "elision") then Some table.Elision else None

-- ---- forms: the words behind the first

-- N SECTORS
abbrev pub create_form : List (List ℕ) → Option Request
create_form (n ∷ sectors ∷ []) = do
  name ← name_of n
  size ← number_of sectors
  Some (request.Create name size)
create_form _ = None

-- N LBA COUNT
abbrev pub span_form : (List ℕ → ℕ → ℕ → Request) → List (List ℕ) → Option Request
span_form make (n ∷ at ∷ many ∷ []) = do
  name ← name_of n
  lba ← number_of at
  count ← count_of many
  Some (make name lba count)
span_form make _ = None

-- N LBA COUNT BYTE
abbrev pub fill_form : List (List ℕ) → Option Request
fill_form (n ∷ at ∷ many ∷ value ∷ []) = do
  name ← name_of n
  lba ← number_of at
  count ← count_of many
  byte ← byte_of value
  Some (request.Fill name lba count byte)
fill_form _ = None

-- N NEW
abbrev pub new_form : (List ℕ → List ℕ → Request) → List (List ℕ) → Option Request
new_form make (n ∷ m ∷ []) = do
  name ← name_of n
  new ← name_of m
  Some (make name new)
new_form make _ = None

-- N LBA M LBA2 COUNT
abbrev pub copy_form : List (List ℕ) → Option Request
copy_form (n ∷ at ∷ m ∷ to ∷ many ∷ []) = do
  name ← name_of n
  lba ← number_of at
  other ← name_of m
  to_lba ← number_of to
  count ← number_in 1 (10 ^ NUMBER_DIGITS) many
  Some (request.Copy name lba other to_lba count)
copy_form _ = None

-- N
abbrev pub name_form : (List ℕ → Request) → List (List ℕ) → Option Request
name_form make (n ∷ []) = do
  name ← name_of n
  Some (make name)
name_form make _ = None

-- a number
abbrev pub number_form : (ℕ → Request) → List (List ℕ) → Option Request
number_form make (n ∷ []) = do
  number ← number_of n
  Some (make number)
number_form make _ = None

-- TABLE I
abbrev pub merge_form : List (List ℕ) → Option Request
merge_form (t ∷ n ∷ []) = do
  tag ← table_of t
  number ← number_of n
  Some (request.Merge tag number)
merge_form _ = None

-- no more words
abbrev pub bare_form : Request → List (List ℕ) → Option Request
bare_form r [] = Some r
bare_form r _ = None

-- ---- lines

-- background steps, drive commands, takeover and status
abbrev pub step_of : List ℕ → List (List ℕ) → Option Request
step_of word rest =
    if bytes_eq word (codes "status") then bare_form request.Status rest else
    if bytes_eq word (codes "checkpoint") then bare_form request.Checkpoint rest else
    if bytes_eq word (codes "merge") then merge_form rest else
    if bytes_eq word (codes "flatten") then name_form request.Flatten rest else
    if bytes_eq word (codes "clean") then number_form request.Clean rest else
    if bytes_eq word (codes "reclaim") then bare_form request.Reclaim rest else
    if bytes_eq word (codes "evict") then number_form request.Evict rest else
    if bytes_eq word (codes "admit") then number_form request.Admit rest else
    if bytes_eq word (codes "rebuild") then number_form request.Rebuild rest else
    if bytes_eq word (codes "takeover") then bare_form request.Takeover rest else None

-- the request that these words are, if they are one of the forms
abbrev pub request_of : List (List ℕ) → Option Request
request_of [] = None
request_of (word ∷ rest) =
    if bytes_eq word (codes "create") then create_form rest else
    if bytes_eq word (codes "write") then span_form request.Write rest else
    if bytes_eq word (codes "fill") then fill_form rest else
    if bytes_eq word (codes "zero") then span_form request.Zero rest else
    if bytes_eq word (codes "read") then span_form request.Read rest else
    if bytes_eq word (codes "snapshot") then new_form request.Snapshot rest else
    if bytes_eq word (codes "clone") then new_form request.Clone rest else
    if bytes_eq word (codes "copy") then copy_form rest else
    if bytes_eq word (codes "destroy") then name_form request.Destroy rest else
    if bytes_eq word (codes "list") then bare_form request.List rest else step_of word rest

-- Whether requests of this form are served. A line of a form that isn't in force is a syntax fault.
abbrev pub is_in_force : Request → Bool
is_in_force (request.Create n sectors) = true
is_in_force (request.Write n lba count) = true
is_in_force (request.Fill n lba count byte) = true
is_in_force (request.Zero n lba count) = true
is_in_force (request.Read n lba count) = true
is_in_force (request.Snapshot n new) = true
is_in_force (request.Clone n new) = true
is_in_force (request.Copy n lba m to count) = true
is_in_force (request.Destroy n) = true
is_in_force request.List = true
is_in_force request.Status = true
is_in_force request.Checkpoint = true
is_in_force (request.Merge t i) = true
is_in_force (request.Flatten n) = true
is_in_force _ = false

-- the request, if its form is served
abbrev pub if_in_force : Option Request → Option Request
if_in_force None = None
if_in_force (Some r) = when (is_in_force r) r

-- the request that a line is, if it is one: at most 128 bytes of a form in force
abbrev pub line_request : List ℕ → Option Request
line_request line = if nat_lt LINE_BYTES (length line) then None else if_in_force (request_of (words line))

-- ---- items

-- a line ends with byte 10
abbrev pub is_line_end : ℕ → Bool
is_line_end b = b == 10

-- how many sectors of data follow the line
abbrev pub data_count : Request → ℕ
data_count (request.Write n lba count) = count
data_count _ = 0

-- the bytes as sectors of 512
abbrev pub sectors_in : ℕ → List ℕ → List (List ℕ)
sectors_in zero bytes = []
sectors_in (suc n) bytes = take SECTOR_BYTES bytes ∷ sectors_in n (drop SECTOR_BYTES bytes)

-- the item of a line, with the bytes behind it, and what follows the item
abbrev pub line_item : Option Request → List ℕ → Item × List ℕ
line_item None behind = (Syntax, behind)
line_item (Some r) behind =
    let count = data_count r in
    if nat_lt (length behind) (SECTOR_BYTES * count) then (Cut, []) else (Asked r (sectors_in count behind), drop (SECTOR_BYTES * count) behind)

-- the first item of an input that isn't empty, and what follows it
abbrev pub first_item : List ℕ → Item × List ℕ
first_item bytes = line_item (line_request (before_first is_line_end bytes)) (after_first is_line_end bytes)

-- at most so many items
abbrev pub items_within : ℕ → List ℕ → List Item
items_within zero bytes = []
items_within (suc n) [] = []
items_within (suc n) (b ∷ bytes) = (first_item (b ∷ bytes)).0 ∷ items_within n (first_item (b ∷ bytes)).1

-- The items of the input. Each has a byte at least, so there are no more items than bytes.
abbrev pub requests : List ℕ → List Item
requests bytes = items_within (length bytes) bytes

-- how many sectors of data belong to a line
abbrev pub line_data : Option Request → ℕ
line_data None = 0
line_data (Some r) = data_count r

-- whether the bytes hold the whole of their first item: its line with its end, and its data
abbrev pub is_whole : List ℕ → Bool
is_whole bytes = list_any is_line_end bytes && nat_le (SECTOR_BYTES * line_data (line_request (before_first is_line_end bytes))) (length (after_first is_line_end bytes))
