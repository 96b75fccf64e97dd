use Rattle.std.proofs.Common.{rules}
use Rattle.flashtier_words.specs.Matching.{value_of}
use Rattle.flashtier_words.proofs.ValueLemmas.{no_geometry}
use Rattle.flashtier_words.proofs.settings.geometry_of.Goals as goal

pub returns-clause-none : goal.returns-clause-none
returns-clause-none c =
    rw c.ok.ensures.value (
    no_geometry (value_of c.args.matches.now) c.in_ok-p.p c.in_ok-c.c c.in_ok-l.l c.in_ok-j.j c.in_ok-size.size c.new.result
    (search rules) (search rules) (search rules) (search rules) (search rules)
    c.in_ok-p.ensures.some c.in_ok-c.ensures.some c.in_ok-l.ensures.some c.in_ok-j.ensures.some c.in_ok-size.ensures.some c.new.ensures.out)
