-- The devices that words say.
use Rattle.std.proofs.Common.{◌≡◌, true, List, [], ◌∷◌, ◌++◌, bytes_eq, codes, Option, Some, None, inl, inr, refl, sym, subst, ◌∙◌}
use mathlib.Core.Path.{fun_ext}
use Rattle.std.specs.List.{AllByRecursion}
use Rattle.std.proofs.lemmas.Bool.{cases_Bool}
use Rattle.flashtier_words.specs.Command.{IsGiven, IsOver, IsSetting, SayDevices, Setting, Spells, Text, cost_names, every_name, flash_word, gen_names, is_known, option_names, parity_word, replay_names, sweep_names, value_in}
use Rattle.flashtier_words.specs.declared.devices.Devices.{Devices}
use Rattle.flashtier_words.specs.declared.devices.FlashKind.{FlashKind}
use Rattle.flashtier_words.specs.declared.devices.FlashKind.TheVariants.{Plain, Raw}
use Rattle.flashtier_words.specs.declared.devices.Parity.{Parity}
use Rattle.flashtier_words.specs.declared.devices.Parity.TheVariants.{Off, On}
use Rattle.flashtier_words.proofs.ValueLemmas.{differ, same_values}

-- ---- each option is one of all

known_first : (n : Text) (names more : List Text) → is_known n names ≡ true → is_known n (names ++ more) ≡ true
known_first n [] more known = cc
known_first n (m ∷ names) more known = elim (cases_Bool (bytes_eq m n)) [
  | inl t ↦ rw t refl
  | inr f ↦ rw f (known_first n names more (rw f at known))
]

known_later : (n : Text) (before names : List Text) → is_known n names ≡ true → is_known n (before ++ names) ≡ true
known_later n [] names known = known
known_later n (m ∷ before) names known = elim (cases_Bool (bytes_eq m n)) [
  | inl t ↦ rw t refl
  | inr f ↦ rw f (known_later n before names known)
]

known_behind : (n : Text) (before names more : List Text) → (is_known n names ≡ true → is_known n more ≡ true) → is_known n (before ++ names) ≡ true → is_known n (before ++ more) ≡ true
known_behind n [] names more all known = all known
known_behind n (m ∷ before) names more all known = elim (cases_Bool (bytes_eq m n)) [
  | inl t ↦ rw t refl
  | inr f ↦ rw f (known_behind n before names more all (rw f at known))
]

-- the options that aren't of all commands
abbrev own_names : List Text
own_names = codes "form" ∷ codes "disks" ∷ codes "number" ∷ codes "count" ∷ codes "outcome" ∷ []

abbrev pub AreAmong : List Text → Type 0
AreAmong names = (n : Text) → is_known n names ≡ true → is_known n every_name ≡ true

pub run_among : AreAmong option_names
run_among n known = known_first n option_names own_names known

pub replay_among : AreAmong replay_names
replay_among n = known_behind n option_names (codes "form" ∷ codes "disks" ∷ []) own_names
    (known_first n (codes "form" ∷ codes "disks" ∷ []) (codes "number" ∷ codes "count" ∷ codes "outcome" ∷ []))

pub cost_among : AreAmong cost_names
cost_among n = known_behind n option_names (codes "form" ∷ []) own_names
    (known_first n (codes "form" ∷ []) (codes "disks" ∷ codes "number" ∷ codes "count" ∷ codes "outcome" ∷ []))

pub gen_among : AreAmong gen_names
gen_among n = known_behind n option_names (codes "number" ∷ codes "count" ∷ []) own_names
    (λ known. known_later n (codes "form" ∷ codes "disks" ∷ []) (codes "number" ∷ codes "count" ∷ codes "outcome" ∷ []) (known_first n (codes "number" ∷ codes "count" ∷ []) (codes "outcome" ∷ []) known))

pub sweep_among : AreAmong sweep_names
sweep_among n = known_behind n option_names (codes "outcome" ∷ []) own_names
    (known_later n (codes "form" ∷ codes "disks" ∷ codes "number" ∷ codes "count" ∷ []) (codes "outcome" ∷ []))

all_among : (names : List Text) (settings : List Setting) → AreAmong names → AllByRecursion (IsSetting names) settings → AllByRecursion (IsSetting every_name) settings
all_among names [] among all = tt
all_among names (s ∷ settings) among all = (record { known = among s.name all.0.known; plain = all.0.plain }, all_among names settings among all.1)

-- ---- from what was found

pub devices_along : (value other : Text → Option Text) (d : Devices) → ((name : Text) → value name ≡ other name) → SayDevices value d → SayDevices other d
devices_along value other d same = subst (λ (v : Text → Option Text). SayDevices v d) (fun_ext same)

pub over_from : (names others : List Text) (settings : List Setting) (value : Text → Option Text) (d : Devices) → AreAmong names → Spells names others settings
    → ((name : Text) → value name ≡ value_in settings name) → SayDevices value d → (word : Text) → IsOver (word ∷ others) d
over_from names others settings value d among spelled values says word = record {
  word = word;
  others = others;
  first = refl;
  settings = settings;
  spelled = record { spelled = spelled.spelled; known = all_among names settings among spelled.known; once = spelled.once };
  says = devices_along value (value_in settings) d values says;
}

-- ---- devices are said in one way

same_flash_word : (f g : FlashKind) → flash_word f ≡ flash_word g → f ≡ g
same_flash_word Plain Plain is = refl
same_flash_word Plain Raw is = absurd (differ (codes "plain") (codes "raw") refl is)
same_flash_word Raw Plain is = absurd (differ (codes "raw") (codes "plain") refl is)
same_flash_word Raw Raw is = refl

same_parity_word : (p q : Parity) → parity_word p ≡ parity_word q → p ≡ q
same_parity_word Off Off is = refl
same_parity_word Off On is = absurd (differ (codes "off") (codes "on") refl is)
same_parity_word On Off is = absurd (differ (codes "on") (codes "off") refl is)
same_parity_word On On is = refl

same_flash : (word : Option Text) (f g : FlashKind) → IsGiven flash_word Plain word f → IsGiven flash_word Plain word g → f ≡ g
same_flash None f g given other = given ∙ sym other
same_flash (Some word) f g given other = same_flash_word f g (sym given ∙ other)

same_parity : (word : Option Text) (p q : Parity) → IsGiven parity_word Off word p → IsGiven parity_word Off word q → p ≡ q
same_parity None p q given other = given ∙ sym other
same_parity (Some word) p q given other = same_parity_word p q (sym given ∙ other)

same_devices : (value : Text → Option Text) (d e : Devices) → SayDevices value d → SayDevices value e → d ≡ e
same_devices value d e says also =
    let flash = same_flash (value (codes "flash")) d.flash e.flash says.flash also.flash in
    let parity = same_parity (value (codes "parity")) d.parity e.parity says.parity also.parity in
    λ i. record { flash = flash i; parity = parity i }

pub same_over : (words : List Text) (d e : Devices) → IsOver words d → IsOver words e → d ≡ e
same_over words d e over also =
    let rest : over.others ≡ also.others = cc (over.first, also.first) in
    let spelled = subst (λ (ws : List Text). Spells every_name ws over.settings) rest over.spelled in
    let values = same_values every_name also.others over.settings also.settings refl spelled also.spelled in
    same_devices (value_in also.settings) d e (devices_along (value_in over.settings) (value_in also.settings) d values over.says) also.says
