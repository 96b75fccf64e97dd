-- What a line of a trace in the form of MSR Cambridge says.
use Rattle.std.specs.Prelude.{◌≡◌, ℕ, ◌+◌, ◌-◌, ◌/◌, ◌==◌, Bool, true, false, nat_lt, if◌then◌else◌, List, [], ◌∷◌, length, codes, bytes_eq, Option, Some, None, Ok, Err, ⊤}
use Rattle.csv.specs.Reading.{default_config, records, strip_bom}
use Rattle.msr_trace.specs.declared.read.MsrError.{MsrError}
use Rattle.msr_trace.specs.declared.read.MsrError.TheVariants as msr
use Rattle.trace_model.specs.declared.line.Line.{Line}
use Rattle.trace_model.specs.declared.line.Line.TheVariants as line
use Rattle.trace_model.specs.declared.line.LineError.TheVariants as error
use Rattle.trace_model.specs.Lines.{in_volume, last, number_in, or_refused}
use Rattle.trace_model.specs.Readings.{Reading}

-- the block of a byte
abbrev pub block_of : ℕ → ℕ
block_of offset = offset / 4096

-- how many blocks have one of these bytes, if there is at least one byte
abbrev pub blocks_in : ℕ → ℕ → ℕ
blocks_in offset bytes = block_of (offset + bytes - 1) - block_of offset + 1

-- the request for these blocks: a read, or a write whose tag is the line's number
abbrev pub request_for : Bool → ℕ → ℕ → ℕ → Line
request_for writes number lba count = if writes then line.Write lba count number else line.Read lba count

-- a request for these bytes is widened to whole blocks; a request for no byte is nothing
abbrev pub span_says : ℕ → ℕ → Bool → ℕ → ℕ → Reading
span_says size number writes offset bytes = if nat_lt last (offset + bytes) then Err error.BadNumber
    else if bytes == 0 then Ok line.Nothing
    else if nat_lt 65536 (blocks_in offset bytes) then Err error.BadNumber
    else in_volume size (block_of offset) (blocks_in offset bytes)
    (request_for writes number (block_of offset) (blocks_in offset bytes))

-- the kind of a request: whether it writes
abbrev pub writes_of : List ℕ → Option Bool
writes_of kind = if bytes_eq kind (codes "Read") then Some false else if bytes_eq kind (codes "Write") then Some true else None

-- what these three fields say
abbrev pub request_says : ℕ → ℕ → List ℕ → List ℕ → List ℕ → Reading
request_says size number kind offset bytes = or_refused error.BadWord (writes_of kind)
    (λ writes. or_refused error.BadNumber (number_in 0 last offset)
    (λ start. or_refused error.BadNumber (number_in 0 last bytes) (λ count. span_says size number writes start count)))

-- what a record says; four of its seven fields are passed unread
abbrev pub fields_say : ℕ → ℕ → List (List ℕ) → Reading
fields_say size number (timestamp ∷ hostname ∷ disk ∷ kind ∷ offset ∷ bytes ∷ response ∷ []) = request_says size number kind offset bytes
fields_say size number other = Err error.BadCount

-- what a line with these records says
abbrev pub records_say : ℕ → ℕ → List (List (List ℕ)) → Reading
records_say size number [] = Ok line.Nothing
records_say size number (fields ∷ []) = fields_say size number fields
records_say size number (fields ∷ other ∷ more) = Err error.BadCount

-- the records that a reader of comma-separated fields finds in a line, with its defaults and no header
abbrev pub records_of : List ℕ → List (List (List ℕ))
records_of bytes = records default_config (strip_bom bytes)

-- what the line with this number says, or the first refusal that applies
abbrev pub msr_line : ℕ → ℕ → List ℕ → Reading
msr_line size number bytes = if nat_lt 200 (length bytes) then Err error.LineTooLong else records_say size number (records_of bytes)

-- the line with this reading is refused for its cause; the error may be out of memory whatever the reading is
abbrev pub RefusesAs : MsrError → Reading → Type 0
RefusesAs (msr.Refused cause) says = says ≡ Err cause
RefusesAs msr.OutOfMemory says = ⊤

-- more than one record is too many
abbrev pub RefusesMore : MsrError → List (List (List ℕ)) → Type 0
RefusesMore (msr.Refused cause) rows = (cause ≡ error.BadCount) × (first : List (List ℕ)) × (second : List (List ℕ)) × (more : List (List (List ℕ)))
    × (rows ≡ first ∷ second ∷ more)
RefusesMore msr.OutOfMemory rows = ⊤
