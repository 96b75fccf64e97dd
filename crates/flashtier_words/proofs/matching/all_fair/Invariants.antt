use Rattle.std.proofs.Common.{◌≡◌, map, take, true}
use Rattle.std.specs.String.{string_bytes}
use Rattle.std.specs.List.{list_all}
use Rattle.flashtier_words.specs.Matching.{is_fair_word}
use Rattle.flashtier_words.proofs.matching.all_fair.Given as goal

abbrev pub invariant-loop-word : goal.invariant-loop-word
invariant-loop-word l = list_all is_fair_word (map string_bytes (take l.word-index l.words)) ≡ true
