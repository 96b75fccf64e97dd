use Rattle.std.proofs.Common.{◌≡◌, List, ◌∷◌, ap, codes, map, subst, ◌∙◌}
use Rattle.std.specs.String.{string_bytes}
use Rattle.flashtier_words.specs.Command.{IsCommand, IsCost, IsGen, IsInspect, IsSweep, Text}
use Rattle.flashtier_words.proofs.FoundLemmas.{none_weaker}
use Rattle.flashtier_words.proofs.ValueLemmas.{first_word}
use Rattle.flashtier_words.proofs.command.command_of.Goals as goal

pub returns-then-eq-clause-none : goal.returns-then-eq-clause-none
returns-then-eq-clause-none c =
    let others = map string_bytes c.in-Some.others.now in
    let replay = first_word (string_bytes c.in-Some.first.now) c.as_str.result.now (codes "replay") c.eq.result c.as_str.ensures.value c.eq.ensures c.if-eq.true in
    let first : map string_bytes c.args.words.now ≡ codes "replay" ∷ others = ap (map string_bytes) c.in-Some.ensures.cases.0 ∙ ap (λ word. word ∷ others) replay in
    none_weaker c.replay_command.result _ _ (λ none o command. none o (subst (λ (ws : List Text). IsCommand ws o) first command)) c.replay_command.ensures.none

pub returns-then-eq-2-clause-none_made : goal.returns-then-eq-2-clause-none_made
returns-then-eq-2-clause-none_made c =
    let others = map string_bytes c.in-Some.others.now in
    let gen = first_word (string_bytes c.in-Some.first.now) c.as_str-2.result.now (codes "gen") c.eq-2.result c.as_str-2.ensures.value c.eq-2.ensures c.if-eq-2.true in
    let first : map string_bytes c.args.words.now ≡ codes "gen" ∷ others = ap (map string_bytes) c.in-Some.ensures.cases.0 ∙ ap (λ word. word ∷ others) gen in
    none_weaker c.gen_command.result _ _ (λ none o number count made. none o number count (subst (λ (ws : List Text). IsGen ws o number count) first made)) c.gen_command.ensures.none

pub returns-then-eq-3-clause-none_inspected : goal.returns-then-eq-3-clause-none_inspected
returns-then-eq-3-clause-none_inspected c =
    let others = map string_bytes c.in-Some.others.now in
    let inspect = first_word (string_bytes c.in-Some.first.now) c.as_str-3.result.now (codes "inspect") c.eq-3.result c.as_str-3.ensures.value c.eq-3.ensures c.if-eq-3.true in
    let first : map string_bytes c.args.words.now ≡ codes "inspect" ∷ others = ap (map string_bytes) c.in-Some.ensures.cases.0 ∙ ap (λ word. word ∷ others) inspect in
    none_weaker c.inspect_command.result _ _ (λ none o command. none o (subst (λ (ws : List Text). IsInspect ws o) first command)) c.inspect_command.ensures.none

pub returns-then-eq-4-clause-none_costed : goal.returns-then-eq-4-clause-none_costed
returns-then-eq-4-clause-none_costed c =
    let others = map string_bytes c.in-Some.others.now in
    let cost = first_word (string_bytes c.in-Some.first.now) c.as_str-4.result.now (codes "cost") c.eq-4.result c.as_str-4.ensures.value c.eq-4.ensures c.if-eq-4.true in
    let first : map string_bytes c.args.words.now ≡ codes "cost" ∷ others = ap (map string_bytes) c.in-Some.ensures.cases.0 ∙ ap (λ word. word ∷ others) cost in
    none_weaker c.cost_command.result _ _ (λ none o form costs. none o form (subst (λ (ws : List Text). IsCost ws o form) first costs)) c.cost_command.ensures.none

pub returns-then-eq-5-clause-none_swept : goal.returns-then-eq-5-clause-none_swept
returns-then-eq-5-clause-none_swept c =
    let others = map string_bytes c.in-Some.others.now in
    let sweep = first_word (string_bytes c.in-Some.first.now) c.as_str-5.result.now (codes "sweep") c.eq-5.result c.as_str-5.ensures.value c.eq-5.ensures c.if-eq-5.true in
    let first : map string_bytes c.args.words.now ≡ codes "sweep" ∷ others = ap (map string_bytes) c.in-Some.ensures.cases.0 ∙ ap (λ word. word ∷ others) sweep in
    none_weaker c.sweep_command.result _ _ (λ none o outcome swept. none o outcome (subst (λ (ws : List Text). IsSweep ws o outcome) first swept)) c.sweep_command.ensures.none
