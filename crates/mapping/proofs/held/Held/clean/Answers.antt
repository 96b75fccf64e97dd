use Rattle.std.proofs.Common.{◌≤◌, ◌^◌, subst, refl, sym, ap}
use Rattle.sparse_map.specs.Packed.{map_of}
use Rattle.mapping.specs.MappedPages.{MappedPage}
use Rattle.mapping.proofs.PackedLemmas.{page_cleaned, page_cleaned_apart, block_cleaned, block_cleaned_apart, block_cleaned_blocks, clean_nothing}
use Rattle.mapping.proofs.held.Held.clean.Goals as goal

pub invariant_of-self : goal.invariant_of-self
invariant_of-self c = record {
  pages_sound = c.insert_ready.ensures.sound;
  blocks_sound = c.self.invariant.blocks_sound;
  are_blocks = c.self.invariant.are_blocks;
  apart = page_cleaned_apart c.self.inside.geometry (map_of c.self.inside.pages) (map_of c.insert_ready.new.self) (map_of c.self.inside.blocks) c.args.lba _ c.insert_ready.ensures.map c.in-Some.page (sym c.in-Some.ensures) c.self.invariant.apart;
  few_pages = subst (λ n. n ≤ 2 ^ 32) (sym c.insert_ready.ensures.buckets) c.self.invariant.few_pages;
  few_blocks = c.self.invariant.few_blocks;
}

pub returns-in-Some-clause-entries : goal.returns-in-Some-clause-entries
returns-in-Some-clause-entries c = rw (← c.self.view_is) (page_cleaned c.self.inside.geometry (map_of c.self.inside.pages) (map_of c.insert_ready.new.self) (map_of c.self.inside.blocks) c.args.lba _ c.insert_ready.ensures.map
    c.in-Some.page (sym c.in-Some.ensures) (ap (λ (p : MappedPage). p.place) c.cleaned.ensures) (ap (λ (p : MappedPage). p.dirty) c.cleaned.ensures))

pub invariant_of-self-in-Some-block_at : goal.invariant_of-self-in-Some-block_at
invariant_of-self-in-Some-block_at c = record {
  pages_sound = c.self.invariant.pages_sound;
  blocks_sound = c.insert_ready-in-Some-block_at.ensures.sound;
  are_blocks = block_cleaned_blocks c.self.inside.geometry (map_of c.self.inside.pages) (map_of c.self.inside.blocks) (map_of c.insert_ready-in-Some-block_at.new.self)
      _ c.cleaned-clean.result c.insert_ready-in-Some-block_at.ensures.map c.in-Some-block_at.block (sym c.in-Some-block_at.ensures)
      c.cleaned-clean.ensures.present c.cleaned-clean.ensures.sound c.self.invariant.are_blocks;
  apart = block_cleaned_apart c.self.inside.geometry (map_of c.self.inside.pages) (map_of c.self.inside.blocks) (map_of c.insert_ready-in-Some-block_at.new.self)
      _ c.cleaned-clean.result c.insert_ready-in-Some-block_at.ensures.map c.in-Some-block_at.block c.args.lba refl (sym c.in-Some-block_at.ensures)
      c.cleaned-clean.ensures.block c.cleaned-clean.ensures.present c.cleaned-clean.ensures.dirty c.self.invariant.apart;
  few_pages = c.self.invariant.few_pages;
  few_blocks = subst (λ n. n ≤ 2 ^ 32) (sym c.insert_ready-in-Some-block_at.ensures.buckets) c.self.invariant.few_blocks;
}

pub returns-in-Some-block_at-clause-entries : goal.returns-in-Some-block_at-clause-entries
returns-in-Some-block_at-clause-entries c = rw (← c.self.view_is) (block_cleaned c.self.inside.geometry (map_of c.self.inside.pages) (map_of c.self.inside.blocks)
    (map_of c.insert_ready-in-Some-block_at.new.self) _ c.cleaned-clean.result c.insert_ready-in-Some-block_at.ensures.map c.in-Some-block_at.block c.args.lba refl (sym c.in-None.ensures)
    (sym c.in-Some-block_at.ensures) c.cleaned-clean.ensures.block c.cleaned-clean.ensures.present c.cleaned-clean.ensures.dirty)

pub returns-in-None-block_at-clause-entries : goal.returns-in-None-block_at-clause-entries
returns-in-None-block_at-clause-entries c = rw (← c.self.view_is) (clean_nothing c.self.inside.geometry (map_of c.self.inside.pages) (map_of c.self.inside.blocks) c.args.lba (sym c.in-None.ensures) (sym c.in-None-block_at.ensures))
