use Rattle.std.proofs.Common.{◌≡◌, false}
use Rattle.ft_media.specs.Reads.{ReadsFlash}
use Rattle.ft_base.specs.Layout.{checkpoint_at}
use Rattle.cache_model.specs.declared.format.PageKind.TheVariants.{Map as map_page}
use Rattle.mapping.specs.Room.{KeepsFewBuckets}
use Rattle.op_log.specs.Stamps.{stamped}
use Rattle.recovery.proofs.WalkLemmas.{Walked}
use Rattle.recovery.proofs.loading.apply_maps.Given as goal

-- the pages so far are applied, and only reads were made
abbrev pub invariant-loop-i : goal.invariant-loop-i
invariant-loop-i g l = record {
  reads : ReadsFlash (g.M.Media.state l.initial.media) (g.M.Media.state l.media) false false;
  geometry : l.map.geometry ≡ l.geometry;
  few : KeepsFewBuckets l.initial.map l.map;
  walked : Walked l.geometry map_page (stamped l.newest.format l.newest.era) (checkpoint_at l.geometry l.newest.region) (g.M.Media.state l.initial.media).contents.flash.page l.newest.pages l.initial.map.entries l.i l.map.entries;
}
