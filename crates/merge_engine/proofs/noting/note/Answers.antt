use Rattle.std.proofs.Common.{◌≡◌, sym, ◌∙◌, subst, eqb-true, eq-eqb}
use Rattle.std.proofs.lemmas.Bool.{both_ways}
use Rattle.ft_base.specs.declared.geometry.Geometry.{Geometry}
use Rattle.mapping.specs.declared.bits.Choice.TheVariants.{Mapped}
use Rattle.mapping.specs.Bits.{chosen_of}
use Rattle.cache_model.specs.Entries.{IsMap}
use Rattle.block_pool.specs.Pool.{IsInPool}
use Rattle.merge_engine.proofs.GroupLemmas.{data_at, only_block, no_block, block_in_pool, follows_none, follows_still, follows_freed}
use Rattle.merge_engine.proofs.noting.note.Goals.{in-Some-block_of, in-None}
use Rattle.merge_engine.proofs.noting.note.Goals as goal

pub set_role-requires : goal.set_role-requires
set_role-requires c =
    let m = c.args.cache.now.map in
    subst (λ (g : Geometry). IsInPool g c.block-then-not-still.result) (c.requires.of_one.map ∙ sym c.requires.of_one.pool)
    (block_in_pool m.geometry m.entries c.args.group c.in-Some.old c.block-then-not-still.result (subst (λ (g : Geometry). IsMap g m.entries) (sym c.requires.of_one.map) c.requires.is_map) c.in-Some.ensures.some c.block-then-not-still.ensures)

pub returns-then-not-still-clause-roles : goal.returns-then-not-still-clause-roles
returns-then-not-still-clause-roles c =
    let g = c.args.cache.now.geometry in
    let m' = c.apply.new.self.entries in
    let same = c.apply.ensures.geometry ∙ c.requires.of_one.map in
    follows_freed g c.args.group c.args.cache.now.map.entries m' c.args.cache.now.pool c.set_role.new.self c.in-Some.old c.block-then-not-still.result
    (data_at c.args.cache.now.map.geometry g _ _ c.in-Some.old c.requires.of_one.map c.in-Some.ensures.some)
    (elim c.match-block_of.branch [
      | in-Some-block_of w ↦ λ is.
          let new = data_at c.apply.new.self.geometry g m' c.args.group w.in-Some-block_of.new same w.in-Some-block_of.ensures.some in
          let here = only_block g m' c.args.group w.in-Some-block_of.new c.in-Some.old.block new is in
          both_ways c.match-block_of.still c.if-not-still.true (w.still-is ∙ eq-eqb _ _ (w.block.ensures ∙ sym here ∙ sym w.block-in-Some-block_of.ensures))
      | in-None w ↦ λ is. no_block g m' c.args.group _ (subst (λ (h : Geometry). chosen_of Mapped h m' c.args.group ≡ 0) same w.in-None.ensures.none) is
    ])
    c.block-then-not-still.ensures c.requires.of_one.pool c.set_role.ensures.geometry c.set_role.ensures.role c.set_role.ensures.others

pub returns-else-not-still-clause-roles : goal.returns-else-not-still-clause-roles
returns-else-not-still-clause-roles c = elim c.match-block_of.branch [
  | in-Some-block_of w ↦
      let g = c.args.cache.now.geometry in
      let m' = c.apply.new.self.entries in
      follows_still g c.args.group c.args.cache.now.map.entries m' c.args.cache.now.pool c.in-Some.old w.in-Some-block_of.new
      (data_at c.args.cache.now.map.geometry g _ _ c.in-Some.old c.requires.of_one.map c.in-Some.ensures.some)
      (data_at c.apply.new.self.geometry g m' c.args.group w.in-Some-block_of.new (c.apply.ensures.geometry ∙ c.requires.of_one.map) w.in-Some-block_of.ensures.some)
      (sym w.block.ensures ∙ eqb-true _ _ (sym w.still-is ∙ c.if-not-still.false) ∙ w.block-in-Some-block_of.ensures)
  | in-None w ↦ absurd (both_ways c.match-block_of.still w.still-is c.if-not-still.false)
]

pub returns-in_default-clause-roles : goal.returns-in_default-clause-roles
returns-in_default-clause-roles c =
    let m = c.args.cache.now.map in
    follows_none c.args.cache.now.geometry c.args.group m.entries c.apply.new.self.entries c.args.cache.now.pool (subst (λ (h : Geometry). chosen_of Mapped h m.entries c.args.group ≡ 0) c.requires.of_one.map c.in_default.ensures.none)
