-- What clap finds, by the options that the words spell.
use Rattle.std.proofs.Common.{◌≡◌, true, false, List, [], Option, Some, None, Result, Ok, Err, IfOk, IfSome, IfNone, ap, ◌∙◌}
use Rattle.std.specs.List.{list_all}
use Rattle.clap.specs.Faults.{fault_of}
use Rattle.clap.specs.Simple.{matches_of}
use Rattle.clap.specs.Walk.{Row, first_of}
use Rattle.flashtier_words.specs.Command.{Setting, Spells, Text, value_in}
use Rattle.flashtier_words.specs.Matching.{is_fair_word, is_name, options_app}
use Rattle.flashtier_words.proofs.Pairs.{pair_value}
use Rattle.flashtier_words.proofs.ParseLemmas.{err_from, ok_from, unfair_refused}
use Rattle.flashtier_words.proofs.SettingLemmas.{options_spelled, unspelled, value_pairs}

pub found_settings : (names words : List Text) → list_all is_fair_word words ≡ true → (rows : List Row) → (fault_of (options_app names) words ≡ []) × (rows ≡ matches_of (options_app names) words)
    → (settings : List Setting) × Spells names words settings × ((name : Text) → first_of name rows ≡ value_in settings name)
found_settings names words fair rows found =
    let (pairs, some, values) = ok_from names words fair rows found in
    let (settings, spelled, are) = options_spelled names words pairs some in
    (settings, spelled, λ name. values name ∙ ap (pair_value name) are ∙ value_pairs settings name)

pub none_found : (names words : List Text) → list_all is_name names ≡ true → list_all is_fair_word words ≡ true → (fault_of (options_app names) words ≡ [] → ⊥) → (settings : List Setting) → Spells names words settings → ⊥
none_found names words are fair fault settings = unspelled names words settings are (err_from names words fair fault)

pub none_fair : (names words : List Text) → list_all is_name names ≡ true → list_all is_fair_word words ≡ false → (settings : List Setting) → Spells names words settings → ⊥
none_fair names words are unfair settings = unspelled names words settings are (unfair_refused names words unfair)

pub some_weaker : {T E : Type 0} (r : Result (Option T) E) (P Q : T → Type 0) → ((x : T) → P x → Q x) → IfOk r (λ o. IfSome o P) → IfOk r (λ o. IfSome o Q)
some_weaker (Ok None) P Q f h = tt
some_weaker (Ok (Some x)) P Q f h = f x h
some_weaker (Err e) P Q f h = tt

pub none_weaker : {T E : Type 0} (r : Result (Option T) E) (P Q : Type 0) → (P → Q) → IfOk r (λ o. IfNone o P) → IfOk r (λ o. IfNone o Q)
none_weaker (Ok None) P Q f h = f h
none_weaker (Ok (Some x)) P Q f h = tt
none_weaker (Err e) P Q f h = tt

pub none_then : {T : Type 0} (o : Option T) (P Q : Type 0) → (P → Q) → IfNone o P → IfNone o Q
none_then None P Q f h = f h
none_then (Some x) P Q f h = tt
