use Rattle.std.proofs.Common.{◌+◌, sym, ◌∙◌, ap, subst}
use Rattle.ft_base.specs.declared.geometry.Geometry.{Geometry}
use Rattle.op_log.specs.Log.{LogValue}
use Rattle.merge_engine.specs.Merges.{FlashStandsForEither, list_without}
use Rattle.merge_engine.proofs.ResultLemmas.{on_ok_from, ok_at}
use Rattle.merge_engine.proofs.TakeLemmas.{agree_map}
use Rattle.merge_engine.proofs.PutLemmas.{dropping_fits, as_noted, same_geometry, agree_without, lists_without}
use Rattle.merge_engine.proofs.MoveLemmas.{pushed_some}
use Rattle.merge_engine.proofs.BeginLemmas.{page_left}
use Rattle.merge_engine.proofs.CostLemmas.{next_committed}
use Rattle.merge_engine.proofs.merging.drop_group.Goals as goal

pub note-requires-clause-fits : goal.note-requires-clause-fits
note-requires-clause-fits g c = dropping_fits c.args.cache.now (g.M.Media.state c.args.media.now).contents c.args.group c.requires.can.agree c.requires.held

pub note-requires-clause-is_map : goal.note-requires-clause-is_map
note-requires-clause-is_map g c = agree_map c.args.cache.now (g.M.Media.state c.args.media.now).contents c.requires.can.agree

pub commit-requires : goal.commit-requires
commit-requires g c =
    let n = c.note.ensures in
    record { agree = agree_without c.args.cache.now c.note.new.cache (g.M.Media.state c.args.media.now).contents c.args.group c.requires.can.agree c.requires.held (as_noted c.args.cache.now c.note.new.cache _ n.cache n.log) n.map.entries n.of_one n.roles }

pub returns-clause-lists : goal.returns-clause-lists
returns-clause-lists g c = on_ok_from c.commit.result (λ v is. λ list durable lists.
    let n = c.note.ensures in
    ok_at c.commit.result v is c.commit.ensures.kept.lists (list_without c.args.cache.now.geometry c.args.group list) durable
    (lists_without c.args.cache.now c.note.new.cache (g.M.Media.state c.args.media.now).contents c.args.group c.requires.can.agree c.requires.held (as_noted c.args.cache.now c.note.new.cache _ n.cache n.log) n.map.entries n.of_one n.roles list durable lists))

pub returns-clause-stands : goal.returns-clause-stands
returns-clause-stands g c = λ list durable lists.
    let n = c.note.ensures in
    let new = (g.M.Media.state c.commit.new.media).contents.flash.page in
    subst (λ (h : Geometry). FlashStandsForEither h new durable (list_without c.args.cache.now.geometry c.args.group list)) (same_geometry c.args.cache.now c.note.new.cache n.cache)
    (c.commit.ensures.kept.stands (list_without c.args.cache.now.geometry c.args.group list) durable
    (lists_without c.args.cache.now c.note.new.cache (g.M.Media.state c.args.media.now).contents c.args.group c.requires.can.agree c.requires.held (as_noted c.args.cache.now c.note.new.cache _ n.cache n.log) n.map.entries n.of_one n.roles list durable lists))

pub returns-clause-next : goal.returns-clause-next
returns-clause-next g c = on_ok_from c.commit.result (λ v is. λ low.
    let old = c.args.cache.now in
    let n = c.note.ensures in
    ap (λ (l : LogValue). l.next) (ok_at c.commit.result v is c.commit.ensures.log)
    ∙ next_committed c.note.new.cache.log (λ none. pushed_some old.log.buffered _ (sym (ap (λ (l : LogValue). l.buffered) n.log) ∙ none))
    (page_left old.log c.note.new.cache.log old.geometry c.note.new.cache.log.geometry (ap (λ (l : LogValue). l.next) n.log) (ap (λ (l : LogValue). l.geometry) n.log ∙ c.requires.can.agree.sound.of_one.log) low)
    ∙ ap (λ (l : LogValue). l.next + 1) n.log)

pub returns-clause-one_program : goal.returns-clause-one_program
returns-clause-one_program g c = on_ok_from c.commit.result (λ v is. λ low.
    let old = c.args.cache.now in
    let n = c.note.ensures in
    ok_at c.commit.result v is c.commit.ensures.one_page (λ none. pushed_some old.log.buffered _ (sym (ap (λ (l : LogValue). l.buffered) n.log) ∙ none))
    (page_left old.log c.note.new.cache.log old.geometry c.note.new.cache.geometry (ap (λ (l : LogValue). l.next) n.log) (same_geometry old c.note.new.cache n.cache) low))
