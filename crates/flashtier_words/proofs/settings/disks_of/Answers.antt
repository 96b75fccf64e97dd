use Rattle.std.proofs.Common.{◌≡◌, ◌<◌, ◌⊎◌, inl, inr, rules, subst}
use Rattle.std.proofs.lemmas.Bool.{iff_false}
use Rattle.flashtier_words.specs.Matching.{value_of}
use Rattle.flashtier_words.proofs.ValueLemmas.{no_choice, no_disks}
use Rattle.flashtier_words.proofs.settings.disks_of.Goals.{then-disks-lt1-via-then-disks-lt1, then-disks-lt1-via-else-disks-lt1+then-disks-gt16, then-disks-lt1-via-else-disks-lt1+else-disks-gt16+then-from-size}
use Rattle.flashtier_words.proofs.settings.disks_of.Goals as goal

pub returns-then-disks-lt1-clause-none : goal.returns-then-disks-lt1-clause-none
returns-then-disks-lt1-clause-none c = λ disks.
    let value = value_of c.args.matches.now in
    let m = c.in_ok-disks.disks in
    let out : (m < 1) ⊎ ((16 < m) ⊎ (c.args.size < m)) = elim c.then-disks-lt1.branch [
      | then-disks-lt1-via-then-disks-lt1 w ↦ inl w.if-disks-lt1.true
      | then-disks-lt1-via-else-disks-lt1+then-disks-gt16 w ↦ inr (inl w.if-disks-gt16.true)
      | then-disks-lt1-via-else-disks-lt1+else-disks-gt16+then-from-size w ↦ inr (inr (subst (λ n. c.args.size < n) w.from.ensures w.if-from-size.true))
    ] in
    no_disks value c.args.form c.args.size m disks (search rules) c.in_ok-disks.ensures.some out

pub returns-then-not-is_chosen_by-clause-none : goal.returns-then-not-is_chosen_by-clause-none
returns-then-not-is_chosen_by-clause-none c = λ disks.
    no_choice (value_of c.args.matches.now) c.args.form c.args.size c.in_ok-disks.disks disks (search rules) c.in_ok-disks.ensures.some
    (iff_false c.is_chosen_by.ensures c.if-not-is_chosen_by.true)
