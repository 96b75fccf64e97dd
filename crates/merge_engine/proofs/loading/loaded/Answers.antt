use Rattle.std.proofs.Common.{◌≡◌, sym, ◌∙◌, ap, subst}
use Rattle.ft_base.specs.declared.geometry.Geometry.{Geometry}
use Rattle.cache_model.specs.Entries.{IsMap}
use Rattle.block_pool.specs.Pool.{IsInPool}
use Rattle.mapping.specs.MapValue.{MapValue}
use Rattle.merge_engine.specs.declared.parts.Parts.{Parts}
use Rattle.merge_engine.specs.Loaded.{AreInUse}
use Rattle.merge_engine.specs.Agreement.{RolesAgree}
use Rattle.merge_engine.proofs.LoadedLemmas.{roles_loaded}
use Rattle.merge_engine.proofs.loading.loaded.Goals as goal

pub set_roles-requires-clause-free : goal.set_roles-requires-clause-free
set_roles-requires-clause-free c = λ b inside. c.in_ok-parts.ensures.free b (subst (λ (g : Geometry). IsInPool g b) c.in_ok-parts.ensures.geometry inside)

pub returns-clause-roles : goal.returns-clause-roles
returns-clause-roles c =
    let first = c.in_ok-parts.parts in
    let used = c.set_roles.new.parts in
    let parts = c.adopt_log_blocks.new.parts in
    let made : parts ≡ record first { pool = used.pool; log_blocks = parts.log_blocks } = c.adopt_log_blocks.ensures.parts ∙ ap (λ (p : Parts). record p { log_blocks = parts.log_blocks }) c.set_roles.ensures.parts in
    let is_map : IsMap first.geometry first.map.entries = subst (λ (g : Geometry). IsMap g first.map.entries) (sym c.in_ok-parts.ensures.geometry) (subst (λ (m : MapValue). IsMap c.args.geometry.now m.entries) (sym c.in_ok-parts.ensures.map) c.requires.map) in
    let in_use : AreInUse first.geometry used.pool parts.log_blocks = subst (λ (p : Parts). AreInUse p.geometry used.pool parts.log_blocks) c.set_roles.ensures.parts c.adopt_log_blocks.ensures.in_use in
    subst RolesAgree (sym made) (roles_loaded (record first { pool = used.pool; log_blocks = parts.log_blocks }) is_map c.set_roles.ensures.roles in_use)
