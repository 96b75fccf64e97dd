use Rattle.std.proofs.Common.{Some, ap, sym, ◌∙◌, ◌/◌, ◌%◌, option_map}
use Rattle.std.specs.FinMap.{get}
use Rattle.sparse_map.specs.Packed.{map_of}
use Rattle.mapping.specs.Counts.{place_if_logged}
use Rattle.mapping.specs.MappedPages.{MappedPage}
use Rattle.mapping.proofs.PackedLemmas.{get_held, logged_is}
use Rattle.mapping.proofs.held.Held.logged.Goals as goal

pub returns-in-Some : goal.returns-in-Some
returns-in-Some c = rw (← c.self.view_is) ((λ t. Some (c.place.ensures t, c.is_dirty.ensures t)) ∙ ap (option_map (λ (y : MappedPage). (y.place, y.dirty))) c.in-Some.ensures
    ∙ logged_is c.self.inside.geometry (get (map_of c.self.inside.pages) c.args.lba) (get (map_of c.self.inside.blocks) (c.args.lba / c.self.inside.geometry.p)) (c.args.lba % c.self.inside.geometry.p)
    ∙ ap place_if_logged (sym (get_held c.self.inside.geometry (map_of c.self.inside.pages) (map_of c.self.inside.blocks) c.args.lba)))

pub returns-in-None : goal.returns-in-None
returns-in-None c = rw (← c.self.view_is) (ap (option_map (λ (y : MappedPage). (y.place, y.dirty))) c.in-None.ensures
    ∙ logged_is c.self.inside.geometry (get (map_of c.self.inside.pages) c.args.lba) (get (map_of c.self.inside.blocks) (c.args.lba / c.self.inside.geometry.p)) (c.args.lba % c.self.inside.geometry.p)
    ∙ ap place_if_logged (sym (get_held c.self.inside.geometry (map_of c.self.inside.pages) (map_of c.self.inside.blocks) c.args.lba)))
