use Rattle.std.proofs.Common.{◌∙◌, Ok, ap, refl, sym}
use Rattle.mapping.specs.MapValue.{MapValue}
use Rattle.ssc.proofs.OpenLemmas.{loaded_era, memory_reads}
use Rattle.ssc.proofs.opening.LoadedCache.load.Goals as goal

pub parts_of-requires-clause-era : goal.parts_of-requires-clause-era
parts_of-requires-clause-era g c = loaded_era c.args.geometry.now (g.M.Media.state c.args.media.now).contents.flash.page c.in_ok-loaded.loaded c.in_ok-loaded.ensures.loaded

pub returns-in_err-before-clause-reads : goal.returns-in_err-before-clause-reads
returns-in_err-before-clause-reads g c = memory_reads (g.M.Media.state c.args.media.now) (g.M.Media.state c.load.new.media) c.from_residual-in_err-before.result c.from_residual-in_err-before.ensures.1 c.in_ok-loaded.ensures.reads

pub returns-clause-loaded : goal.returns-clause-loaded
returns-clause-loaded g c = record { loaded = c.in_ok-loaded.loaded; is_loaded = c.in_ok-loaded.ensures.loaded; parts = c.in_ok-parts.ensures; places = c.in_ok-before.ensures; unready = refl; up = refl }

pub returns-clause-loads : goal.returns-clause-loads
returns-clause-loads g c = c.in_ok-loaded.ensures.loaded.loads ∙ ap (λ (k : MapValue). Ok k.entries) (sym c.in_ok-parts.ensures.map)
