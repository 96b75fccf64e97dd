use Rattle.std.proofs.Common.{rules}
use Rattle.checkpoint.proofs.CountsLemmas.{erases_none, erases_more}
use Rattle.checkpoint.proofs.erasing.erase_blocks.Goals as goal

pub loop-i-init : goal.loop-i-init
loop-i-init g c = record {
  blank = search rules;
  next = search rules;
  pages = search rules;
  programs = search rules;
  counts = erases_none (g.M.Media.state c.args.media.now).counts (g.met.M.Media.is_small c.args.media.now).counts.erases;
  drives = search rules;
}

pub loop-i-preserved : goal.loop-i-preserved
loop-i-preserved g c = record {
  blank = search rules;
  next = search rules;
  pages = search rules;
  programs = search rules;
  counts = erases_more c.loop-i.i (g.M.Media.state c.args.media.now).counts (g.M.Media.state c.loop-i.media).counts (g.M.Media.state c.erase.new.self).counts c.loop-i.invariant.counts c.in_ok-erase.ensures.counts;
  drives = search rules;
}
