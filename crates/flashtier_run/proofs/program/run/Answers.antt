use Rattle.flashtier_words.specs.declared.devices.FlashKind.TheVariants.{Plain}
use Rattle.flashtier_run.proofs.WordsLemmas.{disks_spoken, none_spoken, raw_refused, spoken_is, words_ran, words_refused}
use Rattle.flashtier_run.proofs.program.run.Goals as goal

pub run_over-requires : goal.run_over-requires
run_over-requires g c = disks_spoken _ c.in-Some.spoken (spoken_is _ _ _ c.in-Some.is c.in-Ok.ensures.command)

pub returns-in_default-spoken : goal.returns-in_default-spoken
returns-in_default-spoken g c =
    let none = c.in-Ok.ensures in
    words_refused Plain _ _ _ _ _ _ _ (none_spoken _ _ c.in_default-spoken.is none.none none.none_made none.none_inspected none.none_swept none.none_costed Plain)

pub returns-in-Plain : goal.returns-in-Plain
returns-in-Plain g c = words_ran Plain _ c.in-Some.spoken _ _ _ _ _ _ _ _ _ _ _ _ _ (spoken_is _ _ _ c.in-Some.is c.in-Ok.ensures.command) c.in-Plain.is c.run_over.ensures

pub returns-in-Raw : goal.returns-in-Raw
returns-in-Raw g c = raw_refused _ c.in-Some.spoken _ _ _ _ _ _ (spoken_is _ _ _ c.in-Some.is c.in-Ok.ensures.command) c.in-Raw.is
