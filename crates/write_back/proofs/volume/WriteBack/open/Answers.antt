use Rattle.std.proofs.Common.{Ok, Err}
use Rattle.ft_base.specs.declared.told.Mode.TheVariants.{Back}
use Rattle.cached_disk.specs.Opened.{OpensDisk}
use Rattle.cached_disk.proofs.SealLemmas.{opens_made, since_made}
use Rattle.write_back.proofs.OpenLemmas.{sealed_left, sealed_opened}
use Rattle.write_back.proofs.volume.WriteBack.open.Goals as goal

pub loaded_table_of-requires : goal.loaded_table_of-requires
loaded_table_of-requires g c = ((g.R.Media.state c.args.rig.now).contents.flash.page, (since_made c.args.options.now c.in_ok-loaded.loaded c.in_ok-loaded.ensures.made.0 (g.R.Media.state c.args.rig.now) (g.R.Media.state c.load.new.media) c.in_ok-loaded.ensures.loaded).cache)

pub seal-requires : goal.seal-requires
seal-requires g c = (g.R.Media.state c.args.rig.now, since_made c.args.options.now c.in_ok-loaded.loaded c.in_ok-loaded.ensures.made.0 (g.R.Media.state c.args.rig.now) (g.R.Media.state c.load.new.media) c.in_ok-loaded.ensures.loaded)

pub returns-in-Ok-seal-clause-owns : goal.returns-in-Ok-seal-clause-owns
returns-in-Ok-seal-clause-owns g c =
    let before = g.R.Media.state c.args.rig.now in
    let now = g.R.Media.state c.load.new.media in
    let after = g.R.Media.state c.seal.new.media in
    let loaded = c.in_ok-loaded.loaded in
    let made = c.in_ok-loaded.ensures.made in
    let opens : OpensDisk Back c.args.options.now before after (Ok c.in-Ok-seal.disk) = opens_made c.args.options.now Back loaded made before now after (Ok c.in-Ok-seal.disk) c.in_ok-loaded.ensures.loaded c.requires.agrees c.in-Ok-seal.ensures.opens in
    sealed_left loaded c.args.options.now made.0 c.in-Ok-seal.disk c.in-Ok.dirty c.in-Ok.ensures c.in-Ok-seal.ensures.entries before after opens

pub returns-in-Ok-seal-clause-owes : goal.returns-in-Ok-seal-clause-owes
returns-in-Ok-seal-clause-owes g c =
    let before = g.R.Media.state c.args.rig.now in
    let now = g.R.Media.state c.load.new.media in
    let after = g.R.Media.state c.seal.new.media in
    let loaded = c.in_ok-loaded.loaded in
    let made = c.in_ok-loaded.ensures.made in
    let opens : OpensDisk Back c.args.options.now before after (Ok c.in-Ok-seal.disk) = opens_made c.args.options.now Back loaded made before now after (Ok c.in-Ok-seal.disk) c.in_ok-loaded.ensures.loaded c.requires.agrees c.in-Ok-seal.ensures.opens in
    opens.owes

pub returns-in-Ok-seal-clause-opened : goal.returns-in-Ok-seal-clause-opened
returns-in-Ok-seal-clause-opened g c =
    let before = g.R.Media.state c.args.rig.now in
    let now = g.R.Media.state c.load.new.media in
    let after = g.R.Media.state c.seal.new.media in
    let loaded = c.in_ok-loaded.loaded in
    let made = c.in_ok-loaded.ensures.made in
    let opens : OpensDisk Back c.args.options.now before after (Ok c.in-Ok-seal.disk) = opens_made c.args.options.now Back loaded made before now after (Ok c.in-Ok-seal.disk) c.in_ok-loaded.ensures.loaded c.requires.agrees c.in-Ok-seal.ensures.opens in
    sealed_opened loaded c.args.options.now made.0 c.in-Ok-seal.disk c.in-Ok.dirty c.in-Ok.ensures c.in-Ok-seal.ensures.entries before after opens

pub returns-in-Ok-seal-clause-opening : goal.returns-in-Ok-seal-clause-opening
returns-in-Ok-seal-clause-opening g c =
    let before = g.R.Media.state c.args.rig.now in
    let now = g.R.Media.state c.load.new.media in
    let after = g.R.Media.state c.seal.new.media in
    let loaded = c.in_ok-loaded.loaded in
    let made = c.in_ok-loaded.ensures.made in
    let opens : OpensDisk Back c.args.options.now before after (Ok c.in-Ok-seal.disk) = opens_made c.args.options.now Back loaded made before now after (Ok c.in-Ok-seal.disk) c.in_ok-loaded.ensures.loaded c.requires.agrees c.in-Ok-seal.ensures.opens in
    record { opens = opens.opening.opens; refused = tt; goes = record { ready = opens.opening.goes.ready; disk_reads = opens.opening.goes.disk_reads; disk_writes = opens.opening.goes.disk_writes; disk_flushes = opens.opening.goes.disk_flushes; cause = opens.opening.goes.cause; passes = opens.opening.goes.passes } }

pub returns-in-Ok-seal-clause-stands : goal.returns-in-Ok-seal-clause-stands
returns-in-Ok-seal-clause-stands g c =
    let before = g.R.Media.state c.args.rig.now in
    let now = g.R.Media.state c.load.new.media in
    let after = g.R.Media.state c.seal.new.media in
    let loaded = c.in_ok-loaded.loaded in
    let made = c.in_ok-loaded.ensures.made in
    let opens : OpensDisk Back c.args.options.now before after (Ok c.in-Ok-seal.disk) = opens_made c.args.options.now Back loaded made before now after (Ok c.in-Ok-seal.disk) c.in_ok-loaded.ensures.loaded c.requires.agrees c.in-Ok-seal.ensures.opens in
    opens.stands

pub returns-in-Err-seal-clause-opening : goal.returns-in-Err-seal-clause-opening
returns-in-Err-seal-clause-opening g c =
    let before = g.R.Media.state c.args.rig.now in
    let now = g.R.Media.state c.load.new.media in
    let after = g.R.Media.state c.seal.new.media in
    let loaded = c.in_ok-loaded.loaded in
    let made = c.in_ok-loaded.ensures.made in
    let opens : OpensDisk Back c.args.options.now before after (Err c.in-Err-seal.error) = opens_made c.args.options.now Back loaded made before now after (Err c.in-Err-seal.error) c.in_ok-loaded.ensures.loaded c.requires.agrees c.in-Err-seal.ensures.opens in
    record { opens = opens.opening.opens; refused = opens.opening.refused; goes = record { ready = tt; disk_reads = opens.opening.goes.disk_reads; disk_writes = opens.opening.goes.disk_writes; disk_flushes = opens.opening.goes.disk_flushes; cause = opens.opening.goes.cause; passes = opens.opening.goes.passes } }

pub returns-in-Err-seal-clause-reads : goal.returns-in-Err-seal-clause-reads
returns-in-Err-seal-clause-reads g c =
    let before = g.R.Media.state c.args.rig.now in
    let now = g.R.Media.state c.load.new.media in
    let after = g.R.Media.state c.seal.new.media in
    let loaded = c.in_ok-loaded.loaded in
    let made = c.in_ok-loaded.ensures.made in
    let opens : OpensDisk Back c.args.options.now before after (Err c.in-Err-seal.error) = opens_made c.args.options.now Back loaded made before now after (Err c.in-Err-seal.error) c.in_ok-loaded.ensures.loaded c.requires.agrees c.in-Err-seal.ensures.opens in
    opens.reads
