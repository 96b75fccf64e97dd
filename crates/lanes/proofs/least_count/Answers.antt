use Rattle.std.proofs.Common.{◌∙◌, sym, ap, take, drop, fold, min}
use Rattle.std.proofs.lemmas.List.{take_rest, take-append-drop}
use Rattle.std.proofs.lemmas.List.Sums.{fold-append}
use Rattle.lanes.specs.Kernels.{least_of}
use Rattle.lanes.proofs.least_count.Goals as goal

pub returns : goal.returns
returns c =
    let xs = c.args.counts.now in
    let n = c.least_lanes-done.result.1 in
    c.least_from.ensures
    ∙ ap (λ ys. fold min c.least_from-least.result ys) (take_rest xs n)
    ∙ ap (λ a. fold min a (drop n xs)) (c.least_from-least.ensures ∙ c.least_lanes-done.ensures.least)
    ∙ sym (fold-append min 65535 (take n xs) (drop n xs))
    ∙ ap least_of (take-append-drop n xs)
