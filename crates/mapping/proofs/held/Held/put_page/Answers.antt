use Rattle.std.proofs.Common.{◌≡◌, ◌≤◌, subst, ap, sym, ◌∙◌, None, ◌^◌}
use Rattle.std.specs.FinMap.{get}
use Rattle.ft_base.specs.declared.record.Record.TheVariants.{SetPage}
use Rattle.cache_model.specs.Records.{after}
use Rattle.sparse_map.specs.Packed.{map_of}
use Rattle.mapping.specs.MappedPages.{MappedPage}
use Rattle.mapping.specs.Packed.{HeldValue, packed_entries}
use Rattle.mapping.proofs.PackedLemmas.{page_put, page_put_apart, page_absent, spare_less}
use Rattle.mapping.proofs.held.Held.put_page.Goals as goal

absent : (c : goal.After-insert_ready) → get (packed_entries c.self.inside.geometry (map_of c.self.inside.pages) (map_of c.self.inside.blocks)) c.args.lba ≡ None
absent c = ap (λ (v : HeldValue). get v.entries c.args.lba) c.self.view_is ∙ c.requires.absent

pub invariant_of-self : goal.invariant_of-self
invariant_of-self c = record {
  pages_sound = c.insert_ready.ensures.sound;
  blocks_sound = c.self.invariant.blocks_sound;
  are_blocks = c.self.invariant.are_blocks;
  apart = page_put_apart c.self.inside.geometry (map_of c.self.inside.pages) (map_of c.insert_ready.new.self) (map_of c.self.inside.blocks) c.args.lba _ c.insert_ready.ensures.map (absent c) c.self.invariant.apart;
  few_pages = subst (λ n. n ≤ 2 ^ 32) (sym c.insert_ready.ensures.buckets) c.self.invariant.few_pages;
  few_blocks = c.self.invariant.few_blocks;
}

pub returns-clause-entries : goal.returns-clause-entries
returns-clause-entries c = rw (← c.self.view_is) (page_put c.self.inside.geometry (map_of c.self.inside.pages) (map_of c.insert_ready.new.self) (map_of c.self.inside.blocks) c.args.lba c.new.result c.insert_ready.ensures.map
    ∙ ap (λ (p : MappedPage). after c.self.inside.geometry (SetPage c.args.lba p.place p.dirty) (packed_entries c.self.inside.geometry (map_of c.self.inside.pages) (map_of c.self.inside.blocks))) c.new.ensures)

pub returns-clause-pages : goal.returns-clause-pages
returns-clause-pages c =
    let none = c.insert_ready.ensures.old ∙ page_absent c.self.inside.geometry (map_of c.self.inside.pages) (map_of c.self.inside.blocks) c.args.lba (absent c) in
    spare_less c.insert_ready.result _ _ none c.insert_ready.ensures.spare (subst (λ (v : HeldValue). 1 ≤ v.spare_pages) (sym c.self.view_is) c.requires.room) ∙ ap (λ (v : HeldValue). v.spare_pages) c.self.view_is
