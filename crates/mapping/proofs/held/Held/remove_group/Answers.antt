use Rattle.std.proofs.Common.{◌≤◌, ◌^◌, subst, sym}
use Rattle.sparse_map.specs.Packed.{map_of}
use Rattle.mapping.proofs.PackedLemmas.{group_removed, group_removed_apart, group_removed_blocks, not_logged_some}
use Rattle.mapping.proofs.held.Held.remove_group.Goals as goal

pub invariant_of-self : goal.invariant_of-self
invariant_of-self c = record {
  pages_sound = c.remove_pages.ensures.sound;
  blocks_sound = c.remove-block.ensures.sound;
  are_blocks = group_removed_blocks c.self.inside.geometry (map_of c.self.inside.pages) (map_of c.remove_pages.new.pages) (map_of c.self.inside.blocks) (map_of c.remove-block.new.self) c.args.group c.remove_pages.ensures.pages c.remove-block.ensures.map c.self.invariant.are_blocks;
  apart = group_removed_apart c.self.inside.geometry (map_of c.self.inside.pages) (map_of c.remove_pages.new.pages) (map_of c.self.inside.blocks) (map_of c.remove-block.new.self) c.args.group c.remove_pages.ensures.pages c.remove-block.ensures.map c.self.invariant.apart;
  few_pages = subst (λ n. n ≤ 2 ^ 32) (sym c.remove_pages.ensures.buckets) c.self.invariant.few_pages;
  few_blocks = subst (λ n. n ≤ 2 ^ 32) (sym c.remove-block.ensures.buckets) c.self.invariant.few_blocks;
}

pub returns-clause-entries : goal.returns-clause-entries
returns-clause-entries c = rw (← c.self.view_is) (group_removed c.self.inside.geometry (map_of c.self.inside.pages) (map_of c.remove_pages.new.pages) (map_of c.self.inside.blocks) (map_of c.remove-block.new.self) c.args.group c.remove_pages.ensures.pages c.remove-block.ensures.map)

pub remove_pages-requires-clause-apart : goal.remove_pages-requires-clause-apart
remove_pages-requires-clause-apart c = λ i low some. not_logged_some c.self.inside.geometry (map_of c.self.inside.pages) (map_of c.self.inside.blocks) c.self.invariant.are_blocks c.self.invariant.apart c.args.group i low c.remove-block.result c.remove-block.ensures.value some
