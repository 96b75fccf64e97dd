use Rattle.std.proofs.Common.{◌≡◌, ap, sym, ◌∙◌, ℕ, ◌+◌, ◌*◌, ◌<◌, ◌≤◌, None, false, subst, ◌^◌}
use Rattle.std.specs.FinMap.{get}
use Rattle.cache_model.specs.Records.{has_bit}
use Rattle.sparse_map.specs.Packed.{map_of}
use Rattle.mapping.specs.Packed.{HeldValue, packed_entries}
use Rattle.mapping.proofs.PackedLemmas.{block_put, block_put_apart, blocks_more, block_absent, spare_less}
use Rattle.mapping.proofs.held.Held.put_block.Goals as goal

free : (c : goal.After-insert_ready) (i : ℕ) → i < c.self.inside.geometry.p → get (packed_entries c.self.inside.geometry (map_of c.self.inside.pages) (map_of c.self.inside.blocks)) (c.args.group * c.self.inside.geometry.p + i) ≡ None
free c = subst (λ (v : HeldValue). (i : ℕ) → i < v.geometry.p → get v.entries (c.args.group * v.geometry.p + i) ≡ None) (sym c.self.view_is) c.requires.absent

below : (c : goal.After-insert_ready) (i : ℕ) → c.self.inside.geometry.p ≤ i → has_bit c.args.block.present i ≡ false
below c = subst (λ (v : HeldValue). (i : ℕ) → v.geometry.p ≤ i → has_bit c.args.block.present i ≡ false) (sym c.self.view_is) c.requires.below

pub invariant_of-self : goal.invariant_of-self
invariant_of-self c = record {
  pages_sound = c.self.invariant.pages_sound;
  blocks_sound = c.insert_ready.ensures.sound;
  are_blocks = blocks_more c.self.inside.geometry (map_of c.self.inside.pages) (map_of c.self.inside.blocks) (map_of c.insert_ready.new.self) c.args.group c.args.block c.insert_ready.ensures.map c.requires.sound (below c) c.self.invariant.are_blocks;
  apart = block_put_apart c.self.inside.geometry (map_of c.self.inside.pages) (map_of c.self.inside.blocks) (map_of c.insert_ready.new.self) c.args.group c.args.block c.insert_ready.ensures.map (free c) c.self.invariant.apart;
  few_pages = c.self.invariant.few_pages;
  few_blocks = subst (λ n. n ≤ 2 ^ 32) (sym c.insert_ready.ensures.buckets) c.self.invariant.few_blocks;
}

pub returns-clause-entries : goal.returns-clause-entries
returns-clause-entries c = rw (← c.self.view_is) (block_put c.self.inside.geometry (map_of c.self.inside.pages) (map_of c.self.inside.blocks) (map_of c.insert_ready.new.self) c.args.group c.args.block c.insert_ready.ensures.map (free c))

pub returns-clause-blocks : goal.returns-clause-blocks
returns-clause-blocks c =
    let none = c.insert_ready.ensures.old ∙ block_absent c.self.inside.geometry (map_of c.self.inside.pages) (map_of c.self.inside.blocks) c.self.invariant.are_blocks c.self.invariant.apart c.args.group (free c) in
    spare_less c.insert_ready.result _ _ none c.insert_ready.ensures.spare (subst (λ (v : HeldValue). 1 ≤ v.spare_blocks) (sym c.self.view_is) c.requires.room) ∙ ap (λ (v : HeldValue). v.spare_blocks) c.self.view_is
