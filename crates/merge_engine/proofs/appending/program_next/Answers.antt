use Rattle.std.proofs.Common.{refl, sym, subst, ap}
use Rattle.std.proofs.lemmas.Result.{IfOk-at_ok}
use Rattle.ft_base.specs.declared.block.Place.{Place}
use Rattle.cache_model.specs.Spelling.{data_spare}
use Rattle.log_blocks.specs.Logs.{LogBlocksValue, TakesNext}
use Rattle.merge_engine.specs.Agreement.{PartsAgree}
use Rattle.merge_engine.specs.Steps.{IsNewPage}
use Rattle.merge_engine.proofs.ResultLemmas.{on_ok_from, if_ok_from, ok_at}
use Rattle.merge_engine.proofs.AppendLemmas.{one_page_less, lists_programmed, agree_programmed, new_page}
use Rattle.merge_engine.proofs.appending.program_next.Goals as goal

pub returns-clause-cache : goal.returns-clause-cache
returns-clause-cache g c = on_ok_from c.append.result (λ v is.
    ap (λ (l : LogBlocksValue). record c.args.cache.now { log_blocks = l }) (IfOk-at_ok (TakesNext _ _) is c.append.ensures.taken).logs)

pub returns-clause-agree : goal.returns-clause-agree
returns-clause-agree g c = on_ok_from c.append.result (λ v is.
    let old = g.M.Media.state c.args.media.now in
    let new = g.M.Media.state c.append.new.media in
    subst (λ (l : LogBlocksValue). PartsAgree (record c.args.cache.now { log_blocks = l }) new.contents) (sym (IfOk-at_ok (TakesNext _ _) is c.append.ensures.taken).logs)
    (agree_programmed c.args.cache.now old.contents new.contents c.requires.agree (g.met.M.Media.blank_ahead c.args.media.now) c.requires.opened c.args.block.now (data_spare c.args.lba)
    c.append.ensures.drives.flash.passes.shape (ok_at c.append.result v is c.append.ensures.programmed)))

pub returns-clause-place : goal.returns-clause-place
returns-clause-place g c = if_ok_from c.append.result (λ at is.
    let old = g.M.Media.state c.args.media.now in
    let new = g.M.Media.state c.append.new.media in
    let taken = IfOk-at_ok (TakesNext _ _) is c.append.ensures.taken in
    subst (λ (l : LogBlocksValue). IsNewPage (record c.args.cache.now { log_blocks = l }) new.contents.flash.page at c.args.lba c.args.block.now) (sym taken.logs)
    (subst (λ (p : Place). IsNewPage (record c.args.cache.now { log_blocks = one_page_less c.args.cache.now.log_blocks }) new.contents.flash.page p c.args.lba c.args.block.now) (sym taken.place)
    (new_page c.args.cache.now old.contents new.contents c.requires.agree (g.met.M.Media.blank_ahead c.args.media.now) c.requires.opened c.args.block.now (data_spare c.args.lba)
    c.append.ensures.drives.flash.passes.shape (ok_at c.append.result at is c.append.ensures.programmed) c.args.lba refl)))

pub returns-clause-lists : goal.returns-clause-lists
returns-clause-lists g c =
    let old = g.M.Media.state c.args.media.now in
    let new = g.M.Media.state c.append.new.media in
    lists_programmed c.args.cache.now old.contents new.contents c.requires.agree (g.met.M.Media.blank_ahead c.args.media.now) c.requires.opened c.args.block.now (data_spare c.args.lba) c.append.ensures.page
