use Rattle.std.proofs.Common.{◌+◌, ◌*◌, ◌<◌, ◌≤◌, bit_and, ap, subst, ◌∙◌}
use Rattle.cache_model.specs.Records.{after, has_bit}
use Rattle.ft_base.specs.declared.geometry.Geometry.{Geometry}
use Rattle.ft_base.specs.declared.record.Record.TheVariants.{SetGroup, RemoveGroup}
use Rattle.std.specs.FinMap.{get}
use Rattle.mapping.proofs.StepLemmas.{group_absent, group_anew, group_of_none, dirty_within, none_from}
use Rattle.mapping.proofs.steps.set_group.Goals as goal

pub returns-then-present-eq0-clause-entries : goal.returns-then-present-eq0-clause-entries
returns-then-present-eq0-clause-entries c = c.remove_group.ensures.entries ∙ group_of_none c.args.held.now.geometry c.args.held.now.entries c.args.group c.args.block c.args.present c.args.dirty c.if-present-eq0.true

pub new-requires-clause-within : goal.new-requires-clause-within
new-requires-clause-within c = dirty_within c.args.dirty c.args.present

pub put_block-requires-clause-absent : goal.put_block-requires-clause-absent
put_block-requires-clause-absent c = λ i low.
    ap (λ m. get m (c.args.group * c.remove_group.new.self.geometry.p + i)) c.remove_group.ensures.entries
    ∙ ap (λ (g : Geometry). get (after c.args.held.now.geometry (RemoveGroup c.args.group) c.args.held.now.entries) (c.args.group * g.p + i)) c.remove_group.ensures.room.tables.geometry
    ∙ group_absent c.args.held.now.geometry c.args.held.now.entries c.args.group i (subst (λ (g : Geometry). i < g.p) c.remove_group.ensures.room.tables.geometry low)

pub put_block-requires-clause-below : goal.put_block-requires-clause-below
put_block-requires-clause-below c = λ i past. ap (λ n. has_bit n i) (ap (λ b. b.present) c.new.ensures) ∙ none_from c.args.present c.args.held.now.geometry.p i c.requires.below (subst (λ (g : Geometry). g.p ≤ i) c.remove_group.ensures.room.tables.geometry past)

pub returns-clause-entries : goal.returns-clause-entries
returns-clause-entries c =
    c.put_block.ensures.entries
    ∙ ap (λ b. after c.remove_group.new.self.geometry (SetGroup c.args.group b.block b.present b.dirty) c.remove_group.new.self.entries) c.new.ensures
    ∙ ap (λ g. after g (SetGroup c.args.group c.args.block c.args.present (bit_and c.args.dirty c.args.present)) c.remove_group.new.self.entries) c.remove_group.ensures.room.tables.geometry
    ∙ ap (after c.args.held.now.geometry (SetGroup c.args.group c.args.block c.args.present (bit_and c.args.dirty c.args.present))) c.remove_group.ensures.entries
    ∙ group_anew c.args.held.now.geometry c.args.held.now.entries c.args.group c.args.block c.args.present c.args.dirty
