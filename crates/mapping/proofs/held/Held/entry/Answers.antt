use Rattle.std.proofs.Common.{Some, ap, sym, ◌∙◌, ◌/◌, ◌%◌}
use Rattle.std.specs.FinMap.{get}
use Rattle.sparse_map.specs.Packed.{map_of}
use Rattle.mapping.specs.Packed.{page_in}
use Rattle.mapping.proofs.Words.{entry_in}
use Rattle.mapping.proofs.PackedLemmas.{get_held}
use Rattle.mapping.proofs.held.Held.entry.Goals as goal

pub returns-in-Some : goal.returns-in-Some
returns-in-Some c = rw (← c.self.view_is) (ap Some c.log_entry.ensures ∙ ap (λ o. entry_in o (page_in (get (map_of c.self.inside.blocks) (c.args.lba / c.self.inside.geometry.p)) (c.args.lba % c.self.inside.geometry.p)))
    c.in-Some.ensures ∙ sym (get_held c.self.inside.geometry (map_of c.self.inside.pages) (map_of c.self.inside.blocks) c.args.lba))

pub returns-in-None : goal.returns-in-None
returns-in-None c = rw (← c.self.view_is) (c.entry_in_block.ensures ∙ ap (λ o. entry_in o (page_in (get (map_of c.self.inside.blocks) (c.args.lba / c.self.inside.geometry.p)) (c.args.lba % c.self.inside.geometry.p)))
    c.in-None.ensures ∙ sym (get_held c.self.inside.geometry (map_of c.self.inside.pages) (map_of c.self.inside.blocks) c.args.lba))
