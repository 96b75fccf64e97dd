use Rattle.std.proofs.Common.{sym, ◌∙◌}
use Rattle.std.proofs.lemmas.Bool.{both_ways}
use Rattle.mapping.specs.declared.seeking.Sought.TheVariants.{MappedBeside}
use Rattle.mapping.specs.Seeking.{IsFoundIn, IsNotIn}
use Rattle.mapping.proofs.PageFits.{refused, no_pool, pool_is, taken, of_other, too_many_logs, page_decides}
use Rattle.mapping.proofs.SeekingLemmas.{some_found, none_found}
use Rattle.mapping.proofs.fitting.fits_page.Goals as goal

pub returns-then-not-is_in_pool : goal.returns-then-not-is_in_pool
returns-then-not-is_in_pool c = refused (no_pool c.args.geometry.now c.args.held.now.entries c.requires.indexed.map c.args.lba c.args.page.at c.args.page.dirty (sym c.is_in_pool.ensures ∙ c.if-not-is_in_pool.true))

pub is_taken-requires-clause-pool : goal.is_taken-requires-clause-pool
is_taken-requires-clause-pool c = pool_is c.args.geometry.now c.args.held.now.entries c.requires.indexed.map c.args.lba c.args.page.at c.args.page.dirty (sym c.is_in_pool.ensures ∙ c.if-not-is_in_pool.false)

pub returns-then-is_taken : goal.returns-then-is_taken
returns-then-is_taken c = refused (taken c.args.geometry.now c.args.held.now.entries c.requires.indexed.map c.args.lba c.args.page.at c.args.page.dirty (c.is_taken.ensures.0 c.if-is_taken.true))

pub returns-then-is_some : goal.returns-then-is_some
returns-then-is_some c =
    let x = some_found (IsFoundIn c.args.geometry.now (MappedBeside c.args.lba) c.args.held.now.entries c.args.page.at.block) c.found_in.result c.is_some.result c.is_some.ensures c.found_in.ensures.some c.if-is_some.true in
    refused (of_other c.args.geometry.now c.args.held.now.entries c.requires.indexed.map c.args.lba c.args.page.at c.args.page.dirty x.0 x.1)

pub returns-then-count_log_blocks-geometry : goal.returns-then-count_log_blocks-geometry
returns-then-count_log_blocks-geometry c = refused (too_many_logs c.args.geometry.now c.args.held.now.entries c.requires.indexed.map c.args.lba c.args.page.at c.args.page.dirty c.count_log_blocks.result (c.count_log_blocks.ensures c.args.page.dirty) c.if-count_log_blocks-geometry.true)

pub returns : goal.returns
returns c =
    let pool = pool_is c.args.geometry.now c.args.held.now.entries c.requires.indexed.map c.args.lba c.args.page.at c.args.page.dirty (sym c.is_in_pool.ensures ∙ c.if-not-is_in_pool.false) in
    let own = none_found (IsNotIn c.args.geometry.now (MappedBeside c.args.lba) c.args.held.now.entries c.args.page.at.block) c.found_in.result c.is_some.result c.is_some.ensures c.found_in.ensures.none c.if-is_some.false in
    page_decides c.args.geometry.now c.args.held.now.entries c.requires.indexed.map c.args.lba c.args.page.at c.args.page.dirty c.may_have.result c.count_log_blocks.result c.if-lba-geometry.false pool
    (λ x. both_ways c.is_taken.result c.if-is_taken.false (c.is_taken.ensures.1 x)) own (c.count_log_blocks.ensures c.args.page.dirty) c.if-count_log_blocks-geometry.false c.may_have.ensures
