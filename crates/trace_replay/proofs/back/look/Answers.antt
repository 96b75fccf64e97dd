use Rattle.std.proofs.Common.{◌≡◌, inl, inr, sym, ◌∙◌, subst}
use Rattle.ft_base.specs.Pattern.{pat}
use Rattle.trace_replay.specs.declared.recent.Recent.{Recent}
use Rattle.trace_replay.proofs.BackLemmas.{found_lost, found_same}
use Rattle.trace_replay.proofs.back.look.Goals.{then-shows-via-then-shows, then-shows-via-else-shows+then-newer}
use Rattle.trace_replay.proofs.back.look.Goals as goal

pub returns-then-shows-clause-found : goal.returns-then-shows-clause-found
returns-then-shows-clause-found c = λ count tag disk found shows.
    found_same c.args.lba count tag c.args.found.kept c.args.found.lost c.args.place c.args.recent.now c.get-write.result disk c.get-write.ensures c.requires.lost found
    (elim c.then-shows.branch [
      | then-shows-via-then-shows w ↦ inr (shows.0 w.if-shows.true c.get-write.result c.get-write.ensures)
      | then-shows-via-else-shows+then-newer w ↦ inl (sym c.is_newer-newer.ensures ∙ w.if-newer.true)
    ])

pub returns-clause-found : goal.returns-clause-found
returns-clause-found c = λ count tag disk found shows.
    let x = c.get-write.result in
    found_lost c.args.lba count tag c.args.found.kept c.args.found.lost c.args.place c.args.recent.now x disk c.get-write.ensures c.requires.lost found
    (sym c.is_newer-newer.ensures ∙ c.if-newer.false)
    (λ here.
    let yes = shows.1 (λ r is. let same : x ≡ r = (let both = c.get-write.ensures in cc) in subst (λ (y : Recent). disk y.lba ≡ pat y.lba y.tag) same here) in
    let no = c.if-shows.false in
    absurd (cc))
