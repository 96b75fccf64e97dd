-- What a command is: which words it has, and what they say.
use Rattle.std.specs.Prelude.{◌≡◌, ◌+◌, ◌/◌, ◌≤◌, ◌<◌, ◌^◌, ◌==◌, ℕ, Bool, true, false, if◌then◌else◌, List, [], ◌∷◌, ◌++◌, flat_map, bytes_eq, codes, decimal, Option, Some, None, ⊤}
use Rattle.std.specs.List.{AllByRecursion, list_any}
use Rattle.ft_base.specs.Told.{Told}
use Rattle.ft_base.specs.declared.geometry.Geometry.{Geometry}
use Rattle.ft_base.specs.declared.power.Outcome.{Outcome}
use Rattle.ft_base.specs.declared.power.Outcome.TheVariants.{Blank, Whole, Torn, Mixed}
use Rattle.ft_base.specs.declared.told.Ack.{Ack}
use Rattle.ft_base.specs.declared.told.Ack.TheVariants.{Write, Flush}
use Rattle.ft_base.specs.declared.told.Mode.{Mode}
use Rattle.ft_base.specs.declared.told.Mode.TheVariants.{Back, Through}
use Rattle.flashtier_words.specs.declared.command.TraceForm.{TraceForm}
use Rattle.flashtier_words.specs.declared.command.TraceForm.TheVariants.{Lines, Msr}
use Rattle.flashtier_words.specs.declared.devices.Devices.{Devices}
use Rattle.flashtier_words.specs.declared.devices.FlashKind.{FlashKind}
use Rattle.flashtier_words.specs.declared.devices.FlashKind.TheVariants.{Plain, Raw}
use Rattle.flashtier_words.specs.declared.devices.Parity.{Parity}
use Rattle.flashtier_words.specs.declared.devices.Parity.TheVariants.{Off, On}

-- the bytes of a word, or of a part of it
abbrev pub Text : Type 0
Text = List ℕ

-- ---- the words

-- the options of a run
abbrev pub option_names : List Text
option_names = codes "mode" ∷ codes "pages" ∷ codes "data" ∷ codes "log" ∷ codes "journal" ∷ codes "size" ∷ codes "dirty"
    ∷ codes "ack" ∷ codes "flash" ∷ codes "parity" ∷ []

-- the options of a replay
abbrev pub replay_names : List Text
replay_names = option_names ++ codes "form" ∷ codes "disks" ∷ []

-- the options of a run of which the cost is told
abbrev pub cost_names : List Text
cost_names = option_names ++ codes "form" ∷ []

-- the options of a made trace
abbrev pub gen_names : List Text
gen_names = option_names ++ codes "number" ∷ codes "count" ∷ []

-- the options of a sweep
abbrev pub sweep_names : List Text
sweep_names = option_names ++ codes "outcome" ∷ []

-- the options of all commands
abbrev pub every_name : List Text
every_name = option_names ++ codes "form" ∷ codes "disks" ∷ codes "number" ∷ codes "count" ∷ codes "outcome" ∷ []

-- there is an option of this name
abbrev pub is_known : Text → List Text → Bool
is_known name names = list_any (λ known. bytes_eq known name) names

-- its first byte is `-`
abbrev pub begins_with_minus : Text → Bool
begins_with_minus [] = false
begins_with_minus (b ∷ bytes) = b == 45

-- an option as it is given, with its value
pub record Setting : Type 0 where
  pub name : Text
  pub value : Text
  pub in_one_word : Bool

-- `--name=value` in one word, or `--name value` in two
abbrev pub words_of : Setting → List Text
words_of s = if s.in_one_word then (codes "--" ++ (s.name ++ (codes "=" ++ s.value))) ∷ [] else (codes "--" ++ s.name) ∷ s.value ∷ []

-- its name is one of these, and a value in a word by itself doesn't begin with `-`
pub record IsSetting (names : List Text) (s : Setting) : Type 0 where
  pub known : is_known s.name names ≡ true
  pub plain : s.in_one_word ≡ false → begins_with_minus s.value ≡ false

-- the value that a name is given
abbrev pub value_in : List Setting → Text → Option Text
value_in [] name = None
value_in (s ∷ settings) name = if bytes_eq s.name name then Some s.value else value_in settings name

-- no name is given twice
abbrev pub AreOnce : List Setting → Type 0
AreOnce [] = ⊤
AreOnce (s ∷ settings) = (value_in settings s.name ≡ None) × AreOnce settings

-- the words are those of these options in turn, and no name comes twice
pub record Spells (names words : List Text) (settings : List Setting) : Type 0 where
  pub spelled : words ≡ flat_map words_of settings
  pub known : AllByRecursion (IsSetting names) settings
  pub once : AreOnce settings

-- ---- what they say

-- the value is what its word spells, or the default where no word gives it
abbrev pub IsGiven : {A : Type 0} → (A → Text) → A → Option Text → A → Type 0
IsGiven spelling default None value = value ≡ default
IsGiven spelling default (Some word) value = word ≡ spelling value

-- how a mode is spelled
abbrev pub mode_word : Mode → Text
mode_word Back = codes "back"
mode_word Through = codes "through"

-- how it is spelled when a write is on the media
abbrev pub ack_word : Ack → Text
ack_word Write = codes "write"
ack_word Flush = codes "flush"

-- how it is spelled what a power cut leaves
abbrev pub outcome_word : Outcome → Text
outcome_word Blank = codes "blank"
outcome_word Whole = codes "whole"
outcome_word Torn = codes "torn"
outcome_word Mixed = codes "mixed"

-- how a form of lines is spelled
abbrev pub form_word : TraceForm → Text
form_word Lines = codes "lines"
form_word Msr = codes "msr"

-- how a kind of flash is spelled
abbrev pub flash_word : FlashKind → Text
flash_word Plain = codes "plain"
flash_word Raw = codes "raw"

-- how it is spelled whether there is parity
abbrev pub parity_word : Parity → Text
parity_word Off = codes "off"
parity_word On = codes "on"

-- what the values say of the devices beneath the volume
pub record SayDevices (value : Text → Option Text) (d : Devices) : Type 0 where
  pub flash : IsGiven flash_word Plain (value (codes "flash")) d.flash
  pub parity : IsGiven parity_word Off (value (codes "parity")) d.parity

-- the numbers of the cache, each spelled by its decimal digits; a geometry has them in their ranges
pub record AreNumbers (value : Text → Option Text) (g : Geometry) : Type 0 where
  pub pages : IsGiven decimal 64 (value (codes "pages")) g.p
  pub data_blocks : IsGiven decimal 128 (value (codes "data")) g.c
  pub log_blocks : IsGiven decimal 16 (value (codes "log")) g.l
  pub journal : IsGiven decimal 2 (value (codes "journal")) g.j
  pub size : IsGiven decimal 1048576 (value (codes "size")) g.size

-- how many dirty groups an idle step leaves alone: from one to the data blocks, by default half of these, rounded up
pub record IsDirty (value : Text → Option Text) (data_blocks dirty : ℕ) : Type 0 where
  pub given : IsGiven decimal ((data_blocks + 1) / 2) (value (codes "dirty")) dirty
  pub low : 1 ≤ dirty
  pub high : dirty ≤ data_blocks

-- what the values say of a write: to which place it goes, and when it is on the media. If it is there only when the next
-- flush answers, the volume writes back
pub record IsWriting (value : Text → Option Text) (m : Mode) (a : Ack) : Type 0 where
  pub mode : IsGiven mode_word Back (value (codes "mode")) m
  pub ack : IsGiven ack_word Write (value (codes "ack")) a
  pub later : a ≡ Flush → m ≡ Back

-- what the values say of the volume, over some devices
pub record Say (value : Text → Option Text) (o : Told) : Type 0 where
  pub writes : IsWriting value o.mode o.ack
  pub numbers : AreNumbers value o.geometry
  pub dirty : IsDirty value o.geometry.c o.dirty
  pub devices : Devices
  pub over : SayDevices value devices

-- how many disks share the volume: one to sixteen, and no more than it has blocks. They are more than one only if the
-- lines are words
pub record AreDisks (value : Text → Option Text) (form : TraceForm) (size disks : ℕ) : Type 0 where
  pub given : IsGiven decimal 1 (value (codes "disks")) disks
  pub low : 1 ≤ disks
  pub high : disks ≤ 16
  pub shared : disks ≤ size
  pub words : form ≡ Msr → disks ≡ 1

-- how many lines a made trace has: one to a million
pub record IsCount (value : Text → Option Text) (count : ℕ) : Type 0 where
  pub given : IsGiven decimal 20000 (value (codes "count")) count
  pub low : 1 ≤ count
  pub high : count ≤ 1000000

-- what the values say of a made trace: its number, of 64 bits, and how many lines it has
pub record SayMade (value : Text → Option Text) (number count : ℕ) : Type 0 where
  pub which : IsGiven decimal 1 (value (codes "number")) number
  pub small : number < 2 ^ 64
  pub lines : IsCount value count

-- this word, and then options that say this
pub record IsRunOf (word : Text) (words : List Text) (o : Told) : Type 0 where
  pub others : List Text
  pub first : words ≡ word ∷ others
  pub settings : List Setting
  pub spelled : Spells option_names others settings
  pub says : Say (value_in settings) o

-- this word, and then options of these names that say this of the volume and of the form of the trace's lines
pub record IsReadOf (names : List Text) (word : Text) (words : List Text) (o : Told) (form : TraceForm) : Type 0 where
  pub others : List Text
  pub first : words ≡ word ∷ others
  pub settings : List Setting
  pub spelled : Spells names others settings
  pub says : Say (value_in settings) o
  pub spelling : IsGiven form_word Lines (value_in settings (codes "form")) form

-- a trace is replayed, of which the lines are in this form, over so many disks
pub record IsReplay (words : List Text) (o : Told) (form : TraceForm) (disks : ℕ) : Type 0 where
  pub read : IsReadOf replay_names (codes "replay") words o form
  pub over : AreDisks (value_in read.settings) form o.geometry.size disks

-- a trace is run, of which the lines are in this form, and what it cost is told
abbrev pub IsCost : List Text → Told → TraceForm → Type 0
IsCost words o form = IsReadOf cost_names (codes "cost") words o form

-- a trace is replayed, in whatever form its lines are and over however many disks
abbrev pub IsCommand : List Text → Told → Type 0
IsCommand words o = (form : TraceForm) × (disks : ℕ) × IsReplay words o form disks

-- a trace is run, and what it leaves in the cache is told
abbrev pub IsInspect : List Text → Told → Type 0
IsInspect words o = IsRunOf (codes "inspect") words o

-- the word gen, and then options that say this of the volume and of the trace
pub record IsGen (words : List Text) (o : Told) (number count : ℕ) : Type 0 where
  pub others : List Text
  pub first : words ≡ codes "gen" ∷ others
  pub settings : List Setting
  pub spelled : Spells gen_names others settings
  pub says : Say (value_in settings) o
  pub made : SayMade (value_in settings) number count

-- the word sweep, and then options that say this of the volume and of what each power cut leaves
pub record IsSweep (words : List Text) (o : Told) (outcome : Outcome) : Type 0 where
  pub others : List Text
  pub first : words ≡ codes "sweep" ∷ others
  pub settings : List Setting
  pub spelled : Spells sweep_names others settings
  pub says : Say (value_in settings) o
  pub leaves : IsGiven outcome_word Torn (value_in settings (codes "outcome")) outcome

-- ---- over which devices

-- a word, and then options that say these devices, whatever the command
pub record IsOver (words : List Text) (d : Devices) : Type 0 where
  pub word : Text
  pub others : List Text
  pub first : words ≡ word ∷ others
  pub settings : List Setting
  pub spelled : Spells every_name others settings
  pub says : SayDevices (value_in settings) d
