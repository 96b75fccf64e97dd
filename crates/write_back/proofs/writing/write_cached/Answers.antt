use Rattle.std.proofs.Common.{◌≡◌, sym, ◌∙◌}
use Rattle.std.specs.FinMap.{get}
use Rattle.ft_base.specs.declared.told.Ack.TheVariants as kind
use Rattle.std.proofs.lemmas.Result.{on_ok_weaker}
use Rattle.cache_model.specs.Cache.{Written, written_dirty}
use Rattle.write_back.proofs.WriteLemmas.{committed_buffered, programs_one}
use Rattle.write_back.proofs.writing.write_cached.Goals as goal

-- it is committed

pub returns-in-Write-clause-done : goal.returns-in-Write-clause-done
returns-in-Write-clause-done g c = committed_buffered c.args.cache.now c.write_dirty.new.self (g.M.Media.state c.args.media.now).contents (g.M.Media.state c.write_dirty.new.media).contents c.args.lba (written_dirty c.args.lba c.args.block.now)
    (λ v. Written c.args.lba (get v c.args.lba)) c.write_dirty.result c.write_dirty.ensures.done c.write_dirty.ensures.nothing_waits

pub returns-in-Write-clause-at_write : goal.returns-in-Write-clause-at_write
returns-in-Write-clause-at_write g c = λ write. c.write_dirty.ensures.nothing_waits

pub returns-in-Write-clause-costs : goal.returns-in-Write-clause-costs
returns-in-Write-clause-costs g c = record {
  two_programs = λ write. c.write_dirty.ensures.costs.two_programs;
  one_program = λ later. absurd (let both : kind.Write ≡ kind.Flush = sym c.in-Write.is ∙ later in cc);
  programs = programs_one (g.M.Media.state c.args.media.now) (g.M.Media.state c.write_dirty.new.media) c.write_dirty.result c.write_dirty.ensures.costs.programs;
}

-- it may wait

pub returns-in-Flush-clause-at_write : goal.returns-in-Flush-clause-at_write
returns-in-Flush-clause-at_write g c = λ write. absurd (let both : kind.Flush ≡ kind.Write = sym c.in-Flush.is ∙ write in cc)

pub returns-in-Flush-clause-costs : goal.returns-in-Flush-clause-costs
returns-in-Flush-clause-costs g c = record {
  two_programs = λ write. absurd (let both : kind.Flush ≡ kind.Write = sym c.in-Flush.is ∙ write in cc);
  one_program = λ later. on_ok_weaker c.write_later.result (λ one block buffer. (one block buffer).0) c.write_later.ensures.costs.one_program;
  programs = c.write_later.ensures.costs.programs;
}
