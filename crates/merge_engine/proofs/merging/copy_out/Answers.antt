use Rattle.std.proofs.Common.{rules, ◌∙◌, ap}
use Rattle.ft_media.proofs.DrivesLemmas.{drives_then}
use Rattle.checkpoint.specs.Counts.{programs_counted}
use Rattle.checkpoint.proofs.OnlyLemmas.{only_failed}
use Rattle.merge_engine.proofs.TakeLemmas.{one_is_free, lists_taken}
use Rattle.merge_engine.proofs.MoveLemmas.{agree_taken, lists_roles}
use Rattle.merge_engine.proofs.merging.copy_out.Goals as goal

pub take-requires-clause-free : goal.take-requires-clause-free
take-requires-clause-free g c = one_is_free c.args.cache.now (g.M.Media.state c.args.media.now).contents c.requires.agree

pub returns-in_err-block-clause-lists : goal.returns-in_err-block-clause-lists
returns-in_err-block-clause-lists g c = λ list durable lists.
    let p = c.take.ensures.pages in
    let new = (g.M.Media.state c.take.new.media).contents in
    lists_roles c.args.cache.now c.take.new.self new.flash.page list durable
    (lists_taken c.args.cache.now (g.M.Media.state c.args.media.now).contents new c.requires.agree c.requires.nothing p.block p.taken.free p.pages list durable lists)

pub copy_group-requires-clause-agree : goal.copy_group-requires-clause-agree
copy_group-requires-clause-agree g c =
    let t = c.in_ok-block.ensures in
    agree_taken c.args.cache.now (g.M.Media.state c.args.media.now).contents (g.M.Media.state c.take.new.media).contents c.requires.agree c.requires.nothing c.in_ok-block.block t.taken.0.free c.take.new.self t.geometry t.roles t.drives.passes.shape t.taken.1

pub returns-in_err-copy_group-clause-lists : goal.returns-in_err-copy_group-clause-lists
returns-in_err-copy_group-clause-lists g c = λ list durable lists.
    let p = c.take.ensures.pages in
    let mid = (g.M.Media.state c.take.new.media).contents in
    c.copy_group.ensures.lists list durable
    (lists_roles c.args.cache.now c.take.new.self mid.flash.page list durable
    (lists_taken c.args.cache.now (g.M.Media.state c.args.media.now).contents mid c.requires.agree c.requires.nothing p.block p.taken.free p.pages list durable lists))

pub returns-in_err-copy_group-clause-drives : goal.returns-in_err-copy_group-clause-drives
returns-in_err-copy_group-clause-drives g c = only_failed _ _ _ _ _ c.in_ok-block.ensures.drives c.in_err-copy_group.ensures.drives (search rules)

pub returns-clause-lists : goal.returns-clause-lists
returns-clause-lists g c = λ list durable lists.
    let p = c.take.ensures.pages in
    let mid = (g.M.Media.state c.take.new.media).contents in
    c.copy_group.ensures.lists list durable
    (lists_roles c.args.cache.now c.take.new.self mid.flash.page list durable
    (lists_taken c.args.cache.now (g.M.Media.state c.args.media.now).contents mid c.requires.agree c.requires.nothing p.block p.taken.free p.pages list durable lists))

pub returns-clause-drives : goal.returns-clause-drives
returns-clause-drives g c = record { memory = λ is. cc; flash = drives_then _ _ _ _ _ c.in_ok-block.ensures.drives c.in_ok-copy_group.ensures.drives.flash }

pub returns-clause-counts : goal.returns-clause-counts
returns-clause-counts g c = λ pages reach. c.in_ok-copy_group.ensures.counts pages reach ∙ ap (programs_counted pages) c.in_ok-block.ensures.counts

pub returns-clause-taken : goal.returns-clause-taken
returns-clause-taken g c = c.in_ok-block.ensures.taken.0
