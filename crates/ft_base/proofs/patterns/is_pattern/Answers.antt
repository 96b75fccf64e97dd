use Rattle.std.proofs.Common.{length, arith}
use Rattle.ft_base.proofs.PatternLemmas.{filled_pattern, pattern_filled}
use Rattle.ft_base.proofs.patterns.is_pattern.Goals as goal

pub returns : goal.returns
returns c =
    let bytes = c.args.block.now.0 in
    let head = c.head_of-head.result in
    let told = c.is_filled.ensures in (
      λ yes. pattern_filled c.args.lba c.args.tag (length bytes) bytes head (told.0 yes) c.head_of-head.ensures (omega arith),
      λ same. told.1 (filled_pattern c.args.lba c.args.tag c.args.block.now head c.head_of-head.ensures (omega arith) same),
    )
