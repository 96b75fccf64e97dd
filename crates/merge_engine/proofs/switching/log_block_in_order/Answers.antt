use Rattle.std.proofs.Common.{◌≡◌, ◌*◌, sym, subst}
use Rattle.std.specs.FinMap.{get}
use Rattle.std.proofs.lemmas.Bool.{both_ways}
use Rattle.ft_base.specs.declared.block.Place.{Place}
use Rattle.log_blocks.specs.Logs.{IsInUse}
use Rattle.merge_engine.specs.Switch.{IsInOrderUpTo}
use Rattle.merge_engine.proofs.SwitchLemmas.{first_at, block_is, logged_entry, log_no_data, none_owned}
use Rattle.merge_engine.proofs.switching.log_block_in_order.Goals as goal

pub returns-in_default-clause-none : goal.returns-in_default-clause-none
returns-in_default-clause-none c = λ block can.
    let cache = c.args.cache.now in
    none_owned cache.map.entries (record { block = block; page = 0 }) (c.args.group * cache.geometry.p) (log_no_data cache c.requires.roles block can.in_use) c.in_default.ensures (first_at cache c.args.group block can)

pub returns-then-not-are_in_order-clause-none : goal.returns-then-not-are_in_order-clause-none
returns-then-not-are_in_order-clause-none c = λ block can.
    let cache = c.args.cache.now in
    let x = logged_entry (get cache.map.entries (c.args.group * cache.geometry.p)) c.in-Some.at c.in-Some.field-0-1 c.in-Some.ensures in
    let used = subst (λ (p : Place). IsInUse cache.log_blocks p.block) x.2 (c.requires.roles.page_mapped (c.args.group * cache.geometry.p) x.0 x.1 x.3) in
    let same = subst (λ (p : Place). p.block ≡ block) x.2 (block_is cache c.args.group block can x.0 x.1) in
    let order = subst (λ b. IsInOrderUpTo cache.map.entries (c.args.group * cache.geometry.p) b cache.geometry.p) (sym same) can.in_order in
    both_ways c.are_in_order.result c.if-not-are_in_order.true ((c.are_in_order.ensures (log_no_data cache c.requires.roles c.in-Some.at.block used)).1 order)

pub returns-clause-some : goal.returns-clause-some
returns-clause-some c =
    let cache = c.args.cache.now in
    let x = logged_entry (get cache.map.entries (c.args.group * cache.geometry.p)) c.in-Some.at c.in-Some.field-0-1 c.in-Some.ensures in
    let used = subst (λ (p : Place). IsInUse cache.log_blocks p.block) x.2 (c.requires.roles.page_mapped (c.args.group * cache.geometry.p) x.0 x.1 x.3) in
    record {
      in_use = used;
      in_order = (c.are_in_order.ensures (log_no_data cache c.requires.roles c.in-Some.at.block used)).0 c.if-not-are_in_order.false;
    }
