use Rattle.std.proofs.Common.{refl}
use Rattle.flashtier_words.specs.declared.devices.FlashKind.TheVariants.{Plain, Raw}
use Rattle.flashtier_run.proofs.WordsLemmas.{disks_spoken, none_spoken, plain_spoken, raw_spoken, spoken_is, words_ran, words_refused, words_unread}
use Rattle.flashtier_run.proofs.program.run_on.Goals as goal

-- ---- words that aren't read

pub returns-in_default-clause-raw : goal.returns-in_default-clause-raw
returns-in_default-clause-raw g c = λ _. (refl, (0, words_unread Raw _ _ _ _ _ _ _))

-- ---- words that are no command

pub returns-in_default-spoken-clause-plain : goal.returns-in_default-spoken-clause-plain
returns-in_default-spoken-clause-plain g c =
    let none = c.in-Ok.ensures in
    λ _. (refl, words_refused Plain _ _ _ _ _ _ _ (none_spoken _ _ c.in_default-spoken.is none.none none.none_made none.none_inspected none.none_swept none.none_costed Plain))

pub returns-in_default-spoken-clause-raw : goal.returns-in_default-spoken-clause-raw
returns-in_default-spoken-clause-raw g c =
    let none = c.in-Ok.ensures in
    λ _. (refl, (0, words_refused Raw _ _ _ _ _ _ _ (none_spoken _ _ c.in_default-spoken.is none.none none.none_made none.none_inspected none.none_swept none.none_costed Raw)))

-- ---- plain flash

pub run_over-requires : goal.run_over-requires
run_over-requires g c = disks_spoken _ c.in-Some.spoken (spoken_is _ _ _ c.in-Some.is c.in-Ok.ensures.command)

pub returns-in-Plain-clause-plain : goal.returns-in-Plain-clause-plain
returns-in-Plain-clause-plain g c = λ _. (refl, words_ran Plain _ c.in-Some.spoken _ _ _ _ _ _ _ _ _ _ _ _ _ (spoken_is _ _ _ c.in-Some.is c.in-Ok.ensures.command) c.in-Plain.is c.run_over.ensures)

pub returns-in-Plain-clause-raw : goal.returns-in-Plain-clause-raw
returns-in-Plain-clause-raw g c = λ over. absurd (plain_spoken _ c.in-Some.spoken (spoken_is _ _ _ c.in-Some.is c.in-Ok.ensures.command) c.in-Plain.is over)

-- ---- raw flash

pub run_sealed-requires : goal.run_sealed-requires
run_sealed-requires g c = disks_spoken _ c.in-Some.spoken (spoken_is _ _ _ c.in-Some.is c.in-Ok.ensures.command)

pub returns-in-Raw-clause-plain : goal.returns-in-Raw-clause-plain
returns-in-Raw-clause-plain g c = λ none. absurd (none (raw_spoken _ c.in-Some.spoken (spoken_is _ _ _ c.in-Some.is c.in-Ok.ensures.command) c.in-Raw.is))

pub returns-in-Raw-clause-raw : goal.returns-in-Raw-clause-raw
returns-in-Raw-clause-raw g c = λ _. (refl, (c.run_sealed.ensures.0, words_ran Raw _ c.in-Some.spoken _ _ _ _ _ _ _ _ _ _ _ _ _ (spoken_is _ _ _ c.in-Some.is c.in-Ok.ensures.command) c.in-Raw.is c.run_sealed.ensures.1))
