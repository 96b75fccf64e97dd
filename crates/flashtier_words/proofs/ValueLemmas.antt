-- The values of the options say one thing at most.
use Rattle.std.proofs.Common.{◌≡◌, ℕ, ◌+◌, ◌/◌, ◌^◌, ◌<◌, ◌≤◌, ◌⊎◌, List, ◌∷◌, bytes_eq, codes, Bool, true, false, nat_le, Option, Some, None, Result, Ok, Err, OkIff, IfErr, IfNone, decimal, inl, inr, refl, sym, ap, subst, ◌∙◌, arith}
use Rattle.std.specs.Result.{result_ok}
use native.Mathlib.Bridge.{le_prop}
use mathlib.Core.HLevel.{is_prop→PathP}
use mathlib.Core.Path.{fun_ext}
use Rattle.std.proofs.lemmas.Bool.{and_from, both_ways, le-leb}
use Rattle.std.proofs.lemmas.Fmt.{decimal_injective}
use Rattle.std.proofs.lemmas.Slice.Eq.{bytes_eq-Decides}
use Rattle.ft_base.specs.Ranges.{InRange, first_out, is_within}
use Rattle.ft_base.specs.Told.{Told}
use Rattle.ft_base.specs.declared.geometry.Geometry.{Geometry}
use Rattle.ft_base.specs.declared.geometry.GeometryError.{GeometryError}
use Rattle.ft_base.specs.declared.told.Ack.{Ack}
use Rattle.ft_base.specs.declared.told.Ack.TheVariants.{Write, Flush}
use Rattle.ft_base.specs.declared.told.Mode.{Mode}
use Rattle.ft_base.specs.declared.told.Mode.TheVariants.{Back, Through}
use Rattle.ft_base.specs.declared.power.Outcome.{Outcome}
use Rattle.ft_base.specs.declared.power.Outcome.TheVariants.{Blank, Whole, Torn, Mixed}
use Rattle.std.specs.List.{list_all}
use Rattle.flashtier_words.specs.Command.{AreDisks, AreNumbers, IsCommand, IsCost, IsCount, IsDirty, IsGen, IsGiven, IsInspect, IsReadOf, IsReplay, IsRunOf, IsSweep, Say, SayMade, Setting, Spells, Text, ack_word, form_word, gen_names, mode_word, option_names, outcome_word, replay_names, sweep_names, value_in}
use Rattle.flashtier_words.specs.declared.command.TraceForm.{TraceForm}
use Rattle.flashtier_words.specs.declared.command.TraceForm.TheVariants.{Lines, Msr}
use Rattle.flashtier_words.specs.Matching.{is_name}
use Rattle.flashtier_words.proofs.Pairs.{pair_value, pairs_of}
use Rattle.flashtier_words.proofs.SettingLemmas.{spelled_options, value_pairs}

-- ---- one value

pub same_number : (default : ℕ) (word : Option Text) (m n : ℕ) → m < 2 ^ 64 → n < 2 ^ 64 → IsGiven decimal default word m → IsGiven decimal default word n → m ≡ n
same_number default None m n m_small n_small given other = given ∙ sym other
same_number default (Some word) m n m_small n_small given other = decimal_injective m n m_small n_small (sym given ∙ other)

-- a number that doesn't fit is no small one
pub narrowed_none : {E : Type 0} (default : ℕ) (word : Option Text) (m : ℕ) (r : Result ℕ E) → m < 2 ^ 64 → IsGiven decimal default word m → OkIff r (m < 2 ^ 32) m
    → IfNone (result_ok r) ((n : ℕ) → n < 2 ^ 32 → IsGiven decimal default word n → ⊥)
narrowed_none default word m (Ok x) small given fits = tt
narrowed_none default word m (Err e) small given fits = λ n n_small other. fits (let same = same_number default word m n small (omega arith) given other in omega arith)

-- words with different bytes
pub differ : (one other : Text) → bytes_eq one other ≡ false → one ≡ other → ⊥
differ one other not is = both_ways (bytes_eq one other) not ((bytes_eq-Decides one other).1 is)

back_through : codes "back" ≡ codes "through" → ⊥
back_through is = both_ways (bytes_eq (codes "back") (codes "through")) refl ((bytes_eq-Decides (codes "back") (codes "through")).1 is)

same_word : (m n : Mode) → mode_word m ≡ mode_word n → m ≡ n
same_word Back Back is = refl
same_word Back Through is = absurd (back_through is)
same_word Through Back is = absurd (back_through (sym is))
same_word Through Through is = refl

same_mode : (word : Option Text) (m n : Mode) → IsGiven mode_word Back word m → IsGiven mode_word Back word n → m ≡ n
same_mode None m n given other = given ∙ sym other
same_mode (Some word) m n given other = same_word m n (sym given ∙ other)

same_ack_word : (a b : Ack) → ack_word a ≡ ack_word b → a ≡ b
same_ack_word Write Write is = refl
same_ack_word Write Flush is = absurd (differ (codes "write") (codes "flush") refl is)
same_ack_word Flush Write is = absurd (differ (codes "flush") (codes "write") refl is)
same_ack_word Flush Flush is = refl

same_ack : (word : Option Text) (a b : Ack) → IsGiven ack_word Write word a → IsGiven ack_word Write word b → a ≡ b
same_ack None a b given other = given ∙ sym other
same_ack (Some word) a b given other = same_ack_word a b (sym given ∙ other)

-- ---- one geometry

InRange-prop : (p c l j size : ℕ) → IsProp (InRange p c l j size)
InRange-prop p c l j size = hlevel le_prop

same_geometry : (g h : Geometry) → g.p ≡ h.p → g.c ≡ h.c → g.l ≡ h.l → g.j ≡ h.j → g.size ≡ h.size → g ≡ h
same_geometry g h p c l j size = λ i. record {
  p = p i;
  c = c i;
  l = l i;
  j = j i;
  size = size i;
  in_range = is_prop→PathP (λ k. InRange (p k) (c k) (l k) (j k) (size k)) (λ k. InRange-prop (p k) (c k) (l k) (j k) (size k)) g.in_range h.in_range i;
}

pub same_numbers : (value : Text → Option Text) (g h : Geometry) → AreNumbers value g → AreNumbers value h → g ≡ h
same_numbers value g h given other =
    same_geometry g h
    (same_number 64 (value (codes "pages")) g.p h.p (omega arith) (omega arith) given.pages other.pages)
    (same_number 128 (value (codes "data")) g.c h.c (omega arith) (omega arith) given.data_blocks other.data_blocks)
    (same_number 16 (value (codes "log")) g.l h.l (omega arith) (omega arith) given.log_blocks other.log_blocks)
    (same_number 2 (value (codes "journal")) g.j h.j (omega arith) (omega arith) given.journal other.journal)
    (same_number 1048576 (value (codes "size")) g.size h.size (omega arith) (omega arith) given.size other.size)

within : (low high n : ℕ) → low ≤ n → n ≤ high → is_within low high n ≡ true
within low high n above below = and_from (nat_le low n) (nat_le n high) (le-leb low n above) (le-leb n high below)

none_out : (p c l j size : ℕ) → InRange p c l j size → first_out p c l j size ≡ None
none_out p c l j size r =
    rw (within 4 128 p r.p_low r.p_high, within 1 512 c r.c_low r.c_high, within 2 64 l r.l_low r.l_high, within 1 16 j r.j_low r.j_high, within 1 (2 ^ 40) size r.size_low r.size_high) refl

-- of numbers that are given, none is out of its range where a geometry has them
pub out_of_none : (value : Text → Option Text) (p c l j size : ℕ) (error : GeometryError) → p < 2 ^ 32 → c < 2 ^ 32 → l < 2 ^ 32 → j < 2 ^ 32 → size < 2 ^ 64
    → IsGiven decimal 64 (value (codes "pages")) p → IsGiven decimal 128 (value (codes "data")) c → IsGiven decimal 16 (value (codes "log")) l → IsGiven decimal 2 (value (codes "journal")) j → IsGiven decimal 1048576 (value (codes "size")) size
    → first_out p c l j size ≡ Some error → (g : Geometry) → AreNumbers value g → ⊥
out_of_none value p c l j size error p_small c_small l_small j_small size_small p_given c_given l_given j_given size_given out g given =
    let p_same = same_number 64 (value (codes "pages")) p g.p (omega arith) (omega arith) p_given given.pages in
    let c_same = same_number 128 (value (codes "data")) c g.c (omega arith) (omega arith) c_given given.data_blocks in
    let l_same = same_number 16 (value (codes "log")) l g.l (omega arith) (omega arith) l_given given.log_blocks in
    let j_same = same_number 2 (value (codes "journal")) j g.j (omega arith) (omega arith) j_given given.journal in
    let size_same = same_number 1048576 (value (codes "size")) size g.size (omega arith) (omega arith) size_given given.size in
    let range : InRange p c l j size = omega arith in
    let bad : None ≡ Some error = sym (none_out p c l j size range) ∙ out in cc

pub no_geometry : (value : Text → Option Text) (p c l j size : ℕ) (r : Result Geometry GeometryError) → p < 2 ^ 32 → c < 2 ^ 32 → l < 2 ^ 32 → j < 2 ^ 32 → size < 2 ^ 64
    → IsGiven decimal 64 (value (codes "pages")) p → IsGiven decimal 128 (value (codes "data")) c → IsGiven decimal 16 (value (codes "log")) l → IsGiven decimal 2 (value (codes "journal")) j → IsGiven decimal 1048576 (value (codes "size")) size
    → IfErr r (λ e. first_out p c l j size ≡ Some e) → IfNone (result_ok r) ((g : Geometry) → AreNumbers value g → ⊥)
no_geometry value p c l j size (Ok g) p_small c_small l_small j_small size_small p_given c_given l_given j_given size_given out = tt
no_geometry value p c l j size (Err e) p_small c_small l_small j_small size_small p_given c_given l_given j_given size_given out =
    out_of_none value p c l j size e p_small c_small l_small j_small size_small p_given c_given l_given j_given size_given out

-- ---- one command

-- a number that is no count of dirty groups
pub no_dirty : (value : Text → Option Text) (data_blocks m dirty : ℕ) → m < 2 ^ 32 → data_blocks ≤ 512 → IsGiven decimal ((data_blocks + 1) / 2) (value (codes "dirty")) m
    → (m < 1) ⊎ (data_blocks < m) → IsDirty value data_blocks dirty → ⊥
no_dirty value data_blocks m dirty small few given out is =
    let same = same_number ((data_blocks + 1) / 2) (value (codes "dirty")) m dirty (omega arith) (omega (arith, is.high)) given is.given in
    outside out (is.low) (is.high) same
  where
    outside : (m < 1) ⊎ (data_blocks < m) → 1 ≤ dirty → dirty ≤ data_blocks → m ≡ dirty → ⊥
    outside (inl below) low high same = omega arith
    outside (inr above) low high same = omega arith

same_dirty : (value : Text → Option Text) (c d m n : ℕ) → c ≡ d → c ≤ 512 → IsDirty value c m → IsDirty value d n → m ≡ n
same_dirty value c d m n same few given other =
    let there : IsDirty value c n = subst (λ b. IsDirty value b n) (sym same) other in
    same_number ((c + 1) / 2) (value (codes "dirty")) m n (omega (arith, few, given.high)) (omega (arith, few, there.high)) given.given there.given

same_said : (value : Text → Option Text) (o other : Told) → Say value o → Say value other → o ≡ other
same_said value o other says also =
    let geometry = same_numbers value o.geometry other.geometry says.numbers also.numbers in
    let dirty = same_dirty value o.geometry.c other.geometry.c o.dirty other.dirty (ap (λ (g : Geometry). g.c) geometry) (omega arith) says.dirty also.dirty in
    let mode = same_mode (value (codes "mode")) o.mode other.mode says.writes.mode also.writes.mode in
    let ack = same_ack (value (codes "ack")) o.ack other.ack says.writes.ack also.writes.ack in
    λ i. record { geometry = geometry i; dirty = dirty i; mode = mode i; ack = ack i }

pub say_along : (value other : Text → Option Text) (o : Told) → ((name : Text) → value name ≡ other name) → Say value o → Say other o
say_along value other o same = subst (λ (v : Text → Option Text). Say v o) (fun_ext same)

pub made_along : (value other : Text → Option Text) (number count : ℕ) → ((name : Text) → value name ≡ other name) → SayMade value number count → SayMade other number count
made_along value other number count same = subst (λ (v : Text → Option Text). SayMade v number count) (fun_ext same)

-- words spell the values of their options in one way
pub same_values : (names words : List Text) (settings other : List Setting) → list_all is_name names ≡ true → Spells names words settings → Spells names words other → (name : Text) → value_in settings name ≡ value_in other name
same_values names words settings other are spelled also name =
    let pairs : pairs_of settings ≡ pairs_of other = cc (spelled_options names words settings are spelled, spelled_options names words other are also) in
    sym (value_pairs settings name) ∙ ap (pair_value name) pairs ∙ value_pairs other name

pub same_command : (word : Text) (words : List Text) (o other : Told) → IsRunOf word words o → IsRunOf word words other → o ≡ other
same_command word words o other command also =
    let rest : command.others ≡ also.others = cc (command.first, also.first) in
    let spelled = subst (λ (ws : List Text). Spells option_names ws command.settings) rest command.spelled in
    same_said (value_in also.settings) o other (say_along (value_in command.settings) (value_in also.settings) o (same_values option_names also.others command.settings also.settings refl spelled also.spelled) command.says) also.says

-- the options spell the values that were found
module _ (others : List Text) (settings : List Setting) (value : Text → Option Text) (values : (name : Text) → value name ≡ value_in settings name) where
  -- words are no command where their options say nothing
  pub no_command : Spells option_names others settings → ((o : Told) → Say value o → ⊥) → (word : Text) (o : Told) → IsRunOf word (word ∷ others) o → ⊥
  no_command spelled says word o command =
      let rest : command.others ≡ others = cc command.first in
      let also = subst (λ (ws : List Text). Spells option_names ws command.settings) rest command.spelled in
      says o (say_along (value_in command.settings) value o (λ name. same_values option_names others command.settings settings refl also spelled name ∙ sym (values name)) command.says)

  gen_values : Spells gen_names others settings → (o : Told) (number count : ℕ) (gen : IsGen (codes "gen" ∷ others) o number count) → (name : Text) → value_in gen.settings name ≡ value name
  gen_values spelled o number count gen name =
      let rest : gen.others ≡ others = cc gen.first in
      let also = subst (λ (ws : List Text). Spells gen_names ws gen.settings) rest gen.spelled in
      same_values gen_names others gen.settings settings refl also spelled name ∙ sym (values name)

  pub no_gen_volume : Spells gen_names others settings → ((o : Told) → Say value o → ⊥) → (o : Told) (number count : ℕ) → IsGen (codes "gen" ∷ others) o number count → ⊥
  no_gen_volume spelled says o number count gen = says o (say_along (value_in gen.settings) value o (gen_values spelled o number count gen) gen.says)

  pub no_gen_made : Spells gen_names others settings → ((number count : ℕ) → SayMade value number count → ⊥) → (o : Told) (number count : ℕ) → IsGen (codes "gen" ∷ others) o number count → ⊥
  no_gen_made spelled says o number count gen = says number count (made_along (value_in gen.settings) value number count (gen_values spelled o number count gen) gen.made)

-- ---- a made trace

-- a number that is no count of lines
pub no_count : (value : Text → Option Text) (m count : ℕ) → m < 2 ^ 64 → IsGiven decimal 20000 (value (codes "count")) m → (m < 1) ⊎ (1000000 < m) → IsCount value count → ⊥
no_count value m count small given out is =
    let same = same_number 20000 (value (codes "count")) m count small (omega (arith, is.high)) given is.given in
    outside out is.low is.high same
  where
    outside : (m < 1) ⊎ (1000000 < m) → 1 ≤ count → count ≤ 1000000 → m ≡ count → ⊥
    outside (inl below) low high same = omega arith
    outside (inr above) low high same = omega arith

same_made : (value : Text → Option Text) (m n lines others : ℕ) → SayMade value m lines → SayMade value n others → (m ≡ n) × (lines ≡ others)
same_made value m n lines others made also = (
  same_number 1 (value (codes "number")) m n made.small also.small made.which also.which,
  same_number 20000 (value (codes "count")) lines others (omega (arith, made.lines.high)) (omega (arith, also.lines.high)) made.lines.given also.lines.given,
)

pub same_gen : (words : List Text) (o other : Told) (m n lines others : ℕ) → IsGen words o m lines → IsGen words other n others → (o ≡ other) × (m ≡ n) × (lines ≡ others)
same_gen words o other m n lines others gen also =
    let rest : gen.others ≡ also.others = cc (gen.first, also.first) in
    let spelled = subst (λ (ws : List Text). Spells gen_names ws gen.settings) rest gen.spelled in
    let values = same_values gen_names also.others gen.settings also.settings refl spelled also.spelled in
    let made = same_made (value_in also.settings) m n lines others (made_along (value_in gen.settings) (value_in also.settings) m lines values gen.made) also.made in
    (same_said (value_in also.settings) o other (say_along (value_in gen.settings) (value_in also.settings) o values gen.says) also.says, made.0, made.1)

-- ---- the first word

pub first_word : (word text name : Text) (equal : Bool) → text ≡ word → equal ≡ bytes_eq text name → equal ≡ true → word ≡ name
first_word word text name equal same is holds = sym same ∙ (bytes_eq-Decides text name).0 (sym is ∙ holds)

pub apart : (words : List Text) (o other : Told) (number count : ℕ) → IsCommand words o → IsGen words other number count → ⊥
apart words o other number count command gen = differ (codes "replay") (codes "gen") refl (cc (command.2.read.first, gen.first))

pub inspected_apart : (words : List Text) (o other : Told) → IsInspect words o → IsCommand words other → ⊥
inspected_apart words o other inspect command = differ (codes "inspect") (codes "replay") refl (cc (inspect.first, command.2.read.first))

pub inspected_made : (words : List Text) (o other : Told) (number count : ℕ) → IsInspect words o → IsGen words other number count → ⊥
inspected_made words o other number count inspect gen = differ (codes "inspect") (codes "gen") refl (cc (inspect.first, gen.first))

-- ---- a replay

same_form_word : (f g : TraceForm) → form_word f ≡ form_word g → f ≡ g
same_form_word Lines Lines is = refl
same_form_word Lines Msr is = absurd (differ (codes "lines") (codes "msr") refl is)
same_form_word Msr Lines is = absurd (differ (codes "msr") (codes "lines") refl is)
same_form_word Msr Msr is = refl

same_form : (word : Option Text) (f g : TraceForm) → IsGiven form_word Lines word f → IsGiven form_word Lines word g → f ≡ g
same_form None f g given other = given ∙ sym other
same_form (Some word) f g given other = same_form_word f g (sym given ∙ other)

pub form_along : (value other : Text → Option Text) (f : TraceForm) → ((name : Text) → value name ≡ other name) → IsGiven form_word Lines (value (codes "form")) f → IsGiven form_word Lines (other (codes "form")) f
form_along value other f same = subst (λ (word : Option Text). IsGiven form_word Lines word f) (same (codes "form"))

abbrev AreNames : List Text → Type 0
AreNames names = list_all is_name names ≡ true

pub same_read : (names : List Text) → AreNames names → (word : Text) (words : List Text) (o other : Told) (f g : TraceForm) → IsReadOf names word words o f → IsReadOf names word words other g → (o ≡ other) × (f ≡ g)
same_read names are word words o other f g read also =
    let rest : read.others ≡ also.others = cc (read.first, also.first) in
    let spelled = subst (λ (ws : List Text). Spells names ws read.settings) rest read.spelled in
    let values = same_values names also.others read.settings also.settings are spelled also.spelled in (
      same_said (value_in also.settings) o other (say_along (value_in read.settings) (value_in also.settings) o values read.says) also.says,
      same_form (value_in also.settings (codes "form")) f g (form_along (value_in read.settings) (value_in also.settings) f values read.spelling) also.spelling,
    )

module _ (names : List Text) (are : AreNames names) (others : List Text) (settings : List Setting) (value : Text → Option Text) (values : (name : Text) → value name ≡ value_in settings name) (spelled : Spells names others settings) (word : Text) where
  read_values : (o : Told) (f : TraceForm) (read : IsReadOf names word (word ∷ others) o f) → (name : Text) → value_in read.settings name ≡ value name
  read_values o f read name =
      let rest : read.others ≡ others = cc read.first in
      let also = subst (λ (ws : List Text). Spells names ws read.settings) rest read.spelled in
      same_values names others read.settings settings are also spelled name ∙ sym (values name)

  pub no_read_volume : ((o : Told) → Say value o → ⊥) → (o : Told) (f : TraceForm) → IsReadOf names word (word ∷ others) o f → ⊥
  no_read_volume says o f read = says o (say_along (value_in read.settings) value o (read_values o f read) read.says)

  pub no_read_form : ((f : TraceForm) → IsGiven form_word Lines (value (codes "form")) f → ⊥) → (o : Told) (f : TraceForm) → IsReadOf names word (word ∷ others) o f → ⊥
  no_read_form says o f read = says f (form_along (value_in read.settings) value f (read_values o f read) read.spelling)

-- ---- the disks of a replay

pub disks_along : (value other : Text → Option Text) (f : TraceForm) (size disks : ℕ) → ((name : Text) → value name ≡ other name) → AreDisks value f size disks → AreDisks other f size disks
disks_along value other f size disks same = subst (λ (v : Text → Option Text). AreDisks v f size disks) (fun_ext same)

same_disks : (value : Text → Option Text) (f g : TraceForm) (size more m n : ℕ) → AreDisks value f size m → AreDisks value g more n → m ≡ n
same_disks value f g size more m n are also = same_number 1 (value (codes "disks")) m n (omega (arith, are.high)) (omega (arith, also.high)) are.given also.given

-- a number that is no number of disks
pub no_disks : (value : Text → Option Text) (f : TraceForm) (size m disks : ℕ) → m < 2 ^ 32 → IsGiven decimal 1 (value (codes "disks")) m → ((m < 1) ⊎ ((16 < m) ⊎ (size < m))) → AreDisks value f size disks → ⊥
no_disks value f size m disks small given out are =
    let same = same_number 1 (value (codes "disks")) m disks (omega arith) (omega (arith, are.high)) given are.given in
    outside out are.low are.high are.shared same
  where
    outside : (m < 1) ⊎ ((16 < m) ⊎ (size < m)) → 1 ≤ disks → disks ≤ 16 → disks ≤ size → m ≡ disks → ⊥
    outside (inl below) low high shared same = omega arith
    outside (inr (inl above)) low high shared same = omega arith
    outside (inr (inr beyond)) low high shared same = omega arith

-- nor several of them if the lines can't choose
pub no_choice : (value : Text → Option Text) (f : TraceForm) (size m disks : ℕ) → m < 2 ^ 32 → IsGiven decimal 1 (value (codes "disks")) m → ((f ≡ Msr → m ≡ 1) → ⊥) → AreDisks value f size disks → ⊥
no_choice value f size m disks small given many are =
    many (λ msr. same_number 1 (value (codes "disks")) m disks (omega arith) (omega (arith, are.high)) given are.given ∙ are.words msr)

pub same_replayed : (words : List Text) (o other : Told) → IsCommand words o → IsCommand words other → o ≡ other
same_replayed words o other replay also = (same_read replay_names refl (codes "replay") words o other replay.0 also.0 replay.2.read also.2.read).0

pub same_spelling : (words : List Text) (o other : Told) (f g : TraceForm) (m n : ℕ) → IsReplay words o f m → IsReplay words other g n → (f ≡ g) × (m ≡ n)
same_spelling words o other f g m n replay also =
    let rest : replay.read.others ≡ also.read.others = cc (replay.read.first, also.read.first) in
    let spelled = subst (λ (ws : List Text). Spells replay_names ws replay.read.settings) rest replay.read.spelled in
    let values = same_values replay_names also.read.others replay.read.settings also.read.settings refl spelled also.read.spelled in (
      (same_read replay_names refl (codes "replay") words o other f g replay.read also.read).1,
      same_disks (value_in also.read.settings) f g o.geometry.size other.geometry.size m n (disks_along (value_in replay.read.settings) (value_in also.read.settings) f o.geometry.size m values replay.over) also.over,
    )

module _ (others : List Text) (settings : List Setting) (value : Text → Option Text) (values : (name : Text) → value name ≡ value_in settings name) (spelled : Spells replay_names others settings) where
  pub no_replay_volume : ((o : Told) → Say value o → ⊥) → (o : Told) → IsCommand (codes "replay" ∷ others) o → ⊥
  no_replay_volume says o command = no_read_volume replay_names refl others settings value values spelled (codes "replay") says o command.0 command.2.read

  pub no_replay_form : ((f : TraceForm) → IsGiven form_word Lines (value (codes "form")) f → ⊥) → (o : Told) → IsCommand (codes "replay" ∷ others) o → ⊥
  no_replay_form says o command = no_read_form replay_names refl others settings value values spelled (codes "replay") says o command.0 command.2.read

  -- the volume and the form are those that were found
  pub no_replay_disks : (found : Told) (f : TraceForm) → Say value found → IsGiven form_word Lines (value (codes "form")) f → ((disks : ℕ) → AreDisks value f found.geometry.size disks → ⊥) → (o : Told) → IsCommand (codes "replay" ∷ others) o → ⊥
  no_replay_disks found f says given none o command =
      let read = command.2.read in
      let along = read_values replay_names refl others settings value values spelled (codes "replay") o command.0 read in
      let size : o.geometry.size ≡ found.geometry.size = ap (λ (t : Told). t.geometry.size) (same_said value o found (say_along (value_in read.settings) value o along read.says) says) in
      let form = same_form (value (codes "form")) command.0 f (form_along (value_in read.settings) value command.0 along read.spelling) given in
      let over = disks_along (value_in read.settings) value command.0 o.geometry.size command.1 along command.2.over in
      none command.1 (subst (λ (g : TraceForm). AreDisks value g found.geometry.size command.1) form (subst (λ n. AreDisks value command.0 n command.1) size over))

-- ---- what a run cost

pub costed_apart : (words : List Text) (o other : Told) (f : TraceForm) → IsCost words o f → IsCommand words other → ⊥
costed_apart words o other f cost command = differ (codes "cost") (codes "replay") refl (cc (cost.first, command.2.read.first))

pub costed_inspected : (words : List Text) (o other : Told) (f : TraceForm) → IsCost words o f → IsInspect words other → ⊥
costed_inspected words o other f cost inspect = differ (codes "cost") (codes "inspect") refl (cc (cost.first, inspect.first))

pub costed_made : (words : List Text) (o other : Told) (f : TraceForm) (number count : ℕ) → IsCost words o f → IsGen words other number count → ⊥
costed_made words o other f number count cost gen = differ (codes "cost") (codes "gen") refl (cc (cost.first, gen.first))

pub costed_swept : (words : List Text) (o other : Told) (f : TraceForm) (x : Outcome) → IsCost words o f → IsSweep words other x → ⊥
costed_swept words o other f x cost sweep = differ (codes "cost") (codes "sweep") refl (cc (cost.first, sweep.first))

-- ---- a sweep

same_outcome_word : (x y : Outcome) → outcome_word x ≡ outcome_word y → x ≡ y
same_outcome_word Blank Blank is = refl
same_outcome_word Blank Whole is = absurd (differ (codes "blank") (codes "whole") refl is)
same_outcome_word Blank Torn is = absurd (differ (codes "blank") (codes "torn") refl is)
same_outcome_word Blank Mixed is = absurd (differ (codes "blank") (codes "mixed") refl is)
same_outcome_word Whole Blank is = absurd (differ (codes "whole") (codes "blank") refl is)
same_outcome_word Whole Whole is = refl
same_outcome_word Whole Torn is = absurd (differ (codes "whole") (codes "torn") refl is)
same_outcome_word Whole Mixed is = absurd (differ (codes "whole") (codes "mixed") refl is)
same_outcome_word Torn Blank is = absurd (differ (codes "torn") (codes "blank") refl is)
same_outcome_word Torn Whole is = absurd (differ (codes "torn") (codes "whole") refl is)
same_outcome_word Torn Torn is = refl
same_outcome_word Torn Mixed is = absurd (differ (codes "torn") (codes "mixed") refl is)
same_outcome_word Mixed Blank is = absurd (differ (codes "mixed") (codes "blank") refl is)
same_outcome_word Mixed Whole is = absurd (differ (codes "mixed") (codes "whole") refl is)
same_outcome_word Mixed Torn is = absurd (differ (codes "mixed") (codes "torn") refl is)
same_outcome_word Mixed Mixed is = refl

same_outcome : (word : Option Text) (x y : Outcome) → IsGiven outcome_word Torn word x → IsGiven outcome_word Torn word y → x ≡ y
same_outcome None x y given other = given ∙ sym other
same_outcome (Some word) x y given other = same_outcome_word x y (sym given ∙ other)

pub left_along : (value other : Text → Option Text) (x : Outcome) → ((name : Text) → value name ≡ other name) → IsGiven outcome_word Torn (value (codes "outcome")) x → IsGiven outcome_word Torn (other (codes "outcome")) x
left_along value other x same = subst (λ (word : Option Text). IsGiven outcome_word Torn word x) (same (codes "outcome"))

pub same_sweep : (words : List Text) (o other : Told) (x y : Outcome) → IsSweep words o x → IsSweep words other y → (o ≡ other) × (x ≡ y)
same_sweep words o other x y sweep also =
    let rest : sweep.others ≡ also.others = cc (sweep.first, also.first) in
    let spelled = subst (λ (ws : List Text). Spells sweep_names ws sweep.settings) rest sweep.spelled in
    let values = same_values sweep_names also.others sweep.settings also.settings refl spelled also.spelled in (
      same_said (value_in also.settings) o other (say_along (value_in sweep.settings) (value_in also.settings) o values sweep.says) also.says,
      same_outcome (value_in also.settings (codes "outcome")) x y (left_along (value_in sweep.settings) (value_in also.settings) x values sweep.leaves) also.leaves,
    )

module _ (others : List Text) (settings : List Setting) (value : Text → Option Text) (values : (name : Text) → value name ≡ value_in settings name) where
  sweep_values : Spells sweep_names others settings → (o : Told) (x : Outcome) (sweep : IsSweep (codes "sweep" ∷ others) o x) → (name : Text) → value_in sweep.settings name ≡ value name
  sweep_values spelled o x sweep name =
      let rest : sweep.others ≡ others = cc sweep.first in
      let also = subst (λ (ws : List Text). Spells sweep_names ws sweep.settings) rest sweep.spelled in
      same_values sweep_names others sweep.settings settings refl also spelled name ∙ sym (values name)

  pub no_sweep_volume : Spells sweep_names others settings → ((o : Told) → Say value o → ⊥) → (o : Told) (x : Outcome) → IsSweep (codes "sweep" ∷ others) o x → ⊥
  no_sweep_volume spelled says o x sweep = says o (say_along (value_in sweep.settings) value o (sweep_values spelled o x sweep) sweep.says)

  pub no_sweep_outcome : Spells sweep_names others settings → ((x : Outcome) → IsGiven outcome_word Torn (value (codes "outcome")) x → ⊥) → (o : Told) (x : Outcome) → IsSweep (codes "sweep" ∷ others) o x → ⊥
  no_sweep_outcome spelled says o x sweep = says x (left_along (value_in sweep.settings) value x (sweep_values spelled o x sweep) sweep.leaves)

pub swept_apart : (words : List Text) (o other : Told) (x : Outcome) → IsSweep words o x → IsCommand words other → ⊥
swept_apart words o other x sweep command = differ (codes "sweep") (codes "replay") refl (cc (sweep.first, command.2.read.first))

pub swept_inspected : (words : List Text) (o other : Told) (x : Outcome) → IsSweep words o x → IsInspect words other → ⊥
swept_inspected words o other x sweep inspect = differ (codes "sweep") (codes "inspect") refl (cc (sweep.first, inspect.first))

pub swept_made : (words : List Text) (o other : Told) (x : Outcome) (number count : ℕ) → IsSweep words o x → IsGen words other number count → ⊥
swept_made words o other x number count sweep gen = differ (codes "sweep") (codes "gen") refl (cc (sweep.first, gen.first))
