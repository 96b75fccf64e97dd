use Rattle.std.proofs.Common.{rules, ◌≡◌, refl, sym, ◌∙◌, ap, subst, arith}
use Rattle.std.proofs.lemmas.Grind.{common_steps}
use Rattle.block_pool.specs.Pool.{PoolValue, IsInPool, role_of}
use Rattle.block_pool.specs.declared.pool.Role.TheVariants.{Log}
use Rattle.log_blocks.specs.Logs.{LogBlocksValue}
use Rattle.merge_engine.specs.declared.parts.Parts.{Parts}
use Rattle.merge_engine.specs.Loaded.{AreAscending}
use Rattle.merge_engine.proofs.LoadedLemmas.{adopted_none, ascending-push, few_adopted}
use Rattle.merge_engine.proofs.loading.adopt_log_blocks.Goals.{then-eq, else-eq}
use Rattle.merge_engine.proofs.loading.adopt_log_blocks.Goals as goal

pub loop-block-init : goal.loop-block-init
loop-block-init c =
    let parts = c.args.parts.now in
    record {
      parts = refl;
      adopted = adopted_none parts.geometry parts.pool parts.log_blocks c.first_pool-block.result c.requires.none c.first_pool-block.ensures.place;
      ascending = subst (λ (l : LogBlocksValue). AreAscending l.used) (sym c.requires.none) tt;
      none_open = ap (λ (l : LogBlocksValue). l.open_block) c.requires.none;
    }

pub adopt-requires-clause-few : goal.adopt-requires-clause-few
adopt-requires-clause-few c =
    let parts = c.args.parts.now in
    let pool : c.loop-block.parts.pool ≡ parts.pool = ap (λ (p : Parts). p.pool) c.loop-block.invariant.parts in
    let found : c.role.result ≡ Log = search rules in
    let is_log : role_of parts.pool c.loop-block.block ≡ Log = ap (λ (p : PoolValue). role_of p c.loop-block.block) (sym pool) ∙ sym c.role.ensures ∙ found in
    let in_pool : IsInPool parts.geometry c.loop-block.block = (omega (arith, c.first_pool-block.ensures.place, c.loop-block.auto.block), omega (arith, c.blocks-block-end.ensures, c.loop-block-test.true)) in
    few_adopted parts.geometry parts.pool c.loop-block.parts.log_blocks c.loop-block.block c.loop-block.invariant.adopted parts.map.entries c.requires.map c.requires.roles in_pool is_log

pub loop-block-preserved : goal.loop-block-preserved
loop-block-preserved c = record {
  parts = first_of (search rules, grind (arith, common_steps));
  adopted = first_of (search rules, grind (arith, common_steps));
  ascending = elim c.if-eq.branch [
    | then-eq w ↦
        let rise = ascending-push c.loop-block.parts.log_blocks.used c.loop-block.block c.loop-block.invariant.ascending (λ n there. (c.loop-block.invariant.adopted.used n there).2) in
        subst (λ (p : Parts). AreAscending p.log_blocks.used) (sym w.parts-is) (subst (λ (l : LogBlocksValue). AreAscending l.used) (sym w.adopt.ensures.adopted) rise)
    | else-eq w ↦ subst (λ (p : Parts). AreAscending p.log_blocks.used) (sym w.parts-is) c.loop-block.invariant.ascending
  ];
  none_open = elim c.if-eq.branch [
    | then-eq w ↦ ap (λ (p : Parts). p.log_blocks.open_block) w.parts-is ∙ ap (λ (l : LogBlocksValue). l.open_block) w.adopt.ensures.adopted
    | else-eq w ↦ ap (λ (p : Parts). p.log_blocks.open_block) w.parts-is ∙ c.loop-block.invariant.none_open
  ];
}
