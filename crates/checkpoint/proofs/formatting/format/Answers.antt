use Rattle.std.proofs.Common.{◌+◌, ◌*◌, ap}
use Rattle.std.proofs.lemmas.Result.{on_ok_weaker}
use Rattle.checkpoint.proofs.CountsLemmas.{format_made}
use Rattle.checkpoint.proofs.FormatLemmas.{format_begins, no_totals}
use Rattle.checkpoint.proofs.WrittenLemmas.{seal_spares}
use Rattle.checkpoint.proofs.formatting.format.Goals as goal

pub returns-clause-done : goal.returns-clause-done
returns-clause-done g c = on_ok_weaker c.program_seal.result
    (λ done. (format_begins c.args.geometry.now (g.M.Media.state c.erase_blocks.new.media).contents.flash (g.M.Media.state c.program_seal.new.media).contents.flash _ (ap (λ n. 2 * n + c.args.geometry.now.j) c.k.ensures.number) c.in_ok-erase_blocks.ensures.blank done).loads)
    c.program_seal.ensures.done

pub returns-clause-begins : goal.returns-clause-begins
returns-clause-begins g c = on_ok_weaker c.program_seal.result
    (format_begins c.args.geometry.now (g.M.Media.state c.erase_blocks.new.media).contents.flash (g.M.Media.state c.program_seal.new.media).contents.flash _ (ap (λ n. 2 * n + c.args.geometry.now.j) c.k.ensures.number) c.in_ok-erase_blocks.ensures.blank)
    c.program_seal.ensures.done

pub returns-clause-spares : goal.returns-clause-spares
returns-clause-spares g c = on_ok_weaker c.program_seal.result
    (seal_spares c.args.geometry.now no_totals 0 0 (g.M.Media.state c.erase_blocks.new.media).contents.flash (g.M.Media.state c.program_seal.new.media).contents.flash)
    c.program_seal.ensures.done

pub returns-clause-counts : goal.returns-clause-counts
returns-clause-counts g c = on_ok_weaker c.program_seal.result
    (format_made c.args.geometry.now _ (g.M.Media.state c.args.media.now).counts (g.M.Media.state c.erase_blocks.new.media).counts (g.M.Media.state c.program_seal.new.media).counts (ap (λ n. 2 * n + c.args.geometry.now.j) c.k.ensures.number) c.in_ok-erase_blocks.ensures.counts)
    c.program_seal.ensures.counts
