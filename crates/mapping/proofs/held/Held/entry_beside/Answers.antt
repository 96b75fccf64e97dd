use Rattle.std.proofs.Common.{◌<◌, Some, ap, sym, subst, ◌∙◌}
use Rattle.sparse_map.specs.Packed.{map_of}
use Rattle.mapping.specs.Bits.{IsBlockOf}
use Rattle.mapping.specs.Packed.{HeldValue}
use Rattle.mapping.proofs.PackedLemmas.{block_told, page_of_block, page_beside_block}
use Rattle.mapping.proofs.held.Held.entry_beside.Goals as goal

pub returns-in-Some : goal.returns-in-Some
returns-in-Some c =
    let told = block_told c.self.inside.geometry (map_of c.self.inside.pages) (map_of c.self.inside.blocks) c.self.invariant.are_blocks c.self.invariant.apart c.args.group c.args.block.now
    (subst (λ (h : HeldValue). IsBlockOf h.geometry h.entries c.args.group c.args.block.now) (sym c.self.view_is) c.requires.block) in
    rw (← c.self.view_is) (page_of_block c.self.inside.geometry (map_of c.self.inside.pages) (map_of c.self.inside.blocks) c.self.invariant.are_blocks c.self.invariant.apart c.args.group c.args.page
    (subst (λ (h : HeldValue). c.args.page < h.geometry.p) (sym c.self.view_is) c.requires.page) c.args.block.now told c.in-Some.entry c.in-Some.ensures)

pub returns-in-Some-mapped_page : goal.returns-in-Some-mapped_page
returns-in-Some-mapped_page c =
    let told = block_told c.self.inside.geometry (map_of c.self.inside.pages) (map_of c.self.inside.blocks) c.self.invariant.are_blocks c.self.invariant.apart c.args.group c.args.block.now
    (subst (λ (h : HeldValue). IsBlockOf h.geometry h.entries c.args.group c.args.block.now) (sym c.self.view_is) c.requires.block) in
    rw (← c.self.view_is) (ap Some c.log_entry.ensures ∙ page_beside_block c.self.inside.geometry (map_of c.self.inside.pages) (map_of c.self.inside.blocks) c.self.invariant.are_blocks c.self.invariant.apart c.args.group c.args.page
    (subst (λ (h : HeldValue). c.args.page < h.geometry.p) (sym c.self.view_is) c.requires.page) c.args.block.now told c.in-None.ensures _ c.in-Some-mapped_page.ensures)

pub returns-in-None-mapped_page : goal.returns-in-None-mapped_page
returns-in-None-mapped_page c =
    let told = block_told c.self.inside.geometry (map_of c.self.inside.pages) (map_of c.self.inside.blocks) c.self.invariant.are_blocks c.self.invariant.apart c.args.group c.args.block.now
    (subst (λ (h : HeldValue). IsBlockOf h.geometry h.entries c.args.group c.args.block.now) (sym c.self.view_is) c.requires.block) in
    rw (← c.self.view_is) (page_beside_block c.self.inside.geometry (map_of c.self.inside.pages) (map_of c.self.inside.blocks) c.self.invariant.are_blocks c.self.invariant.apart c.args.group c.args.page
    (subst (λ (h : HeldValue). c.args.page < h.geometry.p) (sym c.self.view_is) c.requires.page) c.args.block.now told c.in-None.ensures _ c.in-None-mapped_page.ensures)
