use Rattle.std.proofs.Common.{◌∙◌, ap}
use Rattle.sealed_media.specs.Seal.{top_cleared, seal_of}
use Rattle.sealed_media.proofs.sealing.seal_of.Goals as goal

pub returns : goal.returns
unfolding seal_of
returns c = c.cleared.ensures ∙ ap top_cleared (c.finalize.ensures c.args.bytes.now (c.update.ensures _ c.new-hasher.ensures))
