use Rattle.std.proofs.Common.{◌≡◌, [], ◌∷◌, codes, map, refl}
use Rattle.std.specs.String.{string_bytes}
use Rattle.bench.proofs.WordsLemmas.{only_word}
use Rattle.bench.proofs.words.task_of.Goals as goal

pub returns-then-eq-2-clause-map : goal.returns-then-eq-2-clause-map
returns-then-eq-2-clause-map c =
    let one : map string_bytes c.args.words.now ≡ codes "map" ∷ [] = only_word string_bytes c.args.words.now c.in-Some.others.now c.in-Some.first.now c.is_empty.result c.eq-then-is_empty.result
    c.as_str-then-is_empty.result.now (codes "map") c.in-Some.ensures.cases.0 c.is_empty.ensures c.if-is_empty.true c.as_str-then-is_empty.ensures.value
    c.eq-then-is_empty.ensures c.if-eq-2.true in
    (λ _. one, λ _. refl)
