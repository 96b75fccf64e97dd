use Rattle.std.proofs.Common.{◌≡◌, Option, IfSome, IfNone, sym, ◌∙◌, ap, subst}
use Rattle.ft_base.specs.declared.block.Place.{Place}
use Rattle.ft_base.specs.Contents.{Contents}
use Rattle.ft_media.specs.Media.{after_program, program_counted}
use Rattle.merge_engine.specs.Agreement.{Lists}
use Rattle.merge_engine.specs.Steps.{IsCopyOf, filler_page}
use Rattle.merge_engine.proofs.PlaceLemmas.{owned_at}
use Rattle.merge_engine.proofs.ResultLemmas.{on_ok_from, ok_at}
use Rattle.merge_engine.proofs.CopyLemmas.{readable, copy_is, filler_is}
use Rattle.merge_engine.proofs.copying.copy_page.Goals as goal

pub read_whole-requires-clause-block : goal.read_whole-requires-clause-block
read_whole-requires-clause-block g c = (readable c.args.cache.now (g.M.Media.state c.args.media.now).contents c.in-Some.at c.requires.agree (owned_at c.args.cache.now.map.entries c.args.from c.in-Some.at c.in-Some.is c.requires.from)).block

pub read_whole-requires-clause-page : goal.read_whole-requires-clause-page
read_whole-requires-clause-page g c = (readable c.args.cache.now (g.M.Media.state c.args.media.now).contents c.in-Some.at c.requires.agree (owned_at c.args.cache.now.map.entries c.args.from c.in-Some.at c.in-Some.is c.requires.from)).page

pub returns-clause-lists : goal.returns-clause-lists
returns-clause-lists g c list durable lists =
    c.program_unheld-2.ensures.lists list durable (subst (λ (k : Contents). Lists c.args.cache.now k.flash.page list durable) (sym c.in_ok-read_whole.ensures.contents) lists)

pub returns-clause-copied : goal.returns-clause-copied
returns-clause-copied g c = on_ok_from c.program_unheld-2.result (λ v is.
    subst (λ (x : Option Place). IfSome x (λ at. IsCopyOf (g.M.Media.state c.program_unheld-2.new.media).contents.flash.page at c.args.to)) (sym c.in-Some.is)
    (copy_is c.args.cache.now (g.M.Media.state c.args.media.now).contents (g.M.Media.state c.program_unheld-2.new.media).contents c.requires.agree c.in-Some.at c.args.to
    c.read_whole.new.buffer c.read_whole.new.spare c.requires.next.ready (g.met.M.Media.blank_ahead c.args.media.now) (owned_at c.args.cache.now.map.entries c.args.from c.in-Some.at c.in-Some.is c.requires.from)
    c.in_ok-read_whole.ensures.found
    (subst (λ (k : Contents). (g.M.Media.state c.program_unheld-2.new.media).contents.flash ≡ after_program k.flash c.args.to c.read_whole.new.buffer c.read_whole.new.spare) c.in_ok-read_whole.ensures.contents (ok_at c.program_unheld-2.result v is c.program_unheld-2.ensures.programmed))))

pub returns-in_default-clause-filler : goal.returns-in_default-clause-filler
returns-in_default-clause-filler g c = on_ok_from c.program_unheld.result (λ v is.
    subst (λ (x : Option Place). IfNone x ((g.M.Media.state c.program_unheld.new.media).contents.flash.page c.args.to ≡ filler_page)) (sym c.in_default.is)
    (filler_is (g.M.Media.state c.args.media.now).contents.flash (g.M.Media.state c.program_unheld.new.media).contents.flash c.args.to c.args.zeros.now c.write_spare-spare.result c.requires.zeros c.write_spare-spare.ensures.spelled
    (ok_at c.program_unheld.result v is c.program_unheld.ensures.programmed)))

pub returns-clause-filler : goal.returns-clause-filler
returns-clause-filler g c = on_ok_from c.program_unheld-2.result (λ v is.
    subst (λ (x : Option Place). IfNone x ((g.M.Media.state c.program_unheld-2.new.media).contents.flash.page c.args.to ≡ filler_page)) (sym c.in-Some.is) tt)

pub returns-clause-counts : goal.returns-clause-counts
returns-clause-counts g c = on_ok_from c.program_unheld-2.result (λ v is. ok_at c.program_unheld-2.result v is c.program_unheld-2.ensures.counts ∙ ap program_counted c.in_ok-read_whole.ensures.counts)
