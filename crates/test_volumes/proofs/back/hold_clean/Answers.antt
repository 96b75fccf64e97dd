use Rattle.std.proofs.Common.{◌∙◌, refl}
use Rattle.std.specs.FinMap.{empty}
use Rattle.cache_model.specs.Cache.{written_clean}
use Rattle.mem_rig.specs.Rig.{state_of}
use Rattle.test_volumes.proofs.BackLemmas.{written_alone}
use Rattle.test_volumes.proofs.back.hold_clean.Goals as goal

pub commit-requires : goal.commit-requires
commit-requires c =
    let written = c.in_ok-write_clean.ensures.done empty (c.in_ok-cache.ensures.holds empty c.in_ok-format.ensures.done) in
    record { up = record { list = written_clean c.args.lba c.args.block.now written.left; holds = written.holds; up = c.in_ok-write_clean.ensures.runs.stopped } }

pub returns-clause-disk : goal.returns-clause-disk
returns-clause-disk c =
    c.in_ok-commit.ensures.runs.drives.disk.stays refl
    ∙ c.in_ok-write_clean.ensures.runs.drives.disk.stays refl
    ∙ c.in_ok-cache.ensures.drives.disk.stays refl
    ∙ c.in_ok-format.ensures.drives.disk.stays refl

pub returns-clause-alone : goal.returns-clause-alone
returns-clause-alone c =
    let written = c.in_ok-write_clean.ensures.done empty (c.in_ok-cache.ensures.holds empty c.in_ok-format.ensures.done) in
    written_alone c.args.geometry.now c.write_clean.new.self c.commit.new.self (state_of c.write_clean.new.media).contents (state_of c.commit.new.media).contents c.args.lba c.args.block.now written
    (c.commit.ensures.runs.geometry ∙ c.write_clean.ensures.runs.geometry ∙ c.in_ok-cache.ensures.geometry) (c.in_ok-commit.ensures.done (written_clean c.args.lba c.args.block.now written.left) written.holds) c.in_ok-commit.ensures.nothing_waits
