use Rattle.std.proofs.Common.{◌≡◌, ◌↔◌, IsTrue, length, replicate, arith}
use Rattle.ft_base.proofs.FilledLemmas.{filled}
use Rattle.ft_base.proofs.PatternLemmas.{filled_zero, zero_filled}
use Rattle.ft_base.proofs.patterns.is_unwritten.Goals as goal

pub returns : goal.returns
returns c =
    let bytes = c.args.block.now.0 in
    let told : IsTrue c.is_filled.result ↔ (bytes ≡ filled (replicate 16 0) (length bytes)) = c.is_filled.ensures in (
      λ yes. zero_filled (length bytes) bytes (told.0 yes) (omega arith),
      λ same. told.1 (filled_zero c.args.block.now (omega arith) same),
    )
