use Rattle.std.proofs.Common.{◌≡◌, true, ◌∙◌, ap₂, rules}
use Rattle.ft_base.specs.declared.geometry.Geometry.{Geometry}
use Rattle.ft_base.specs.declared.record.Record.TheVariants.{SetPage}
use Rattle.cache_model.specs.Records.{Entries, after}
use Rattle.cache_model.specs.Entries.{Fits}
use Rattle.cache_model.specs.Loading.{is_whole}
use Rattle.test_journal.proofs.CommitsLemmas.{pushed_current, pushed_open, put_whole}
use Rattle.test_journal.proofs.commits.hold.Goals as goal

pub returns-clause-current : goal.returns-clause-current
returns-clause-current g c =
    let fit : Fits c.args.cache.now.map.geometry (SetPage c.args.lba (record { block = 4; page = 0 }) true) c.args.cache.now.map.entries = search rules in
    let applied : c.apply.new.self.entries ≡ after c.args.cache.now.map.geometry (SetPage c.args.lba (record { block = 4; page = 0 }) true) c.args.cache.now.map.entries = c.apply.ensures.entries
    ∙ ap₂ (λ (x : Geometry) (n : Entries). after x (SetPage c.args.lba (record { block = 4; page = 0 }) true) n) c.in_ok-reserve.ensures.geometry c.in_ok-reserve.ensures.entries in (
      pushed_current c.args.cache.now.map.geometry c.args.cache.now.map.entries c.apply.new.self.entries c.args.cache.now.log c.push.new.self (SetPage c.args.lba (record { block = 4; page = 0 }) true)
          c.requires.map fit applied c.push.ensures (g.M.Media.state c.args.media.now).contents (g.M.Media.state c.is_held.new.media).contents c.is_held.ensures.contents c.requires.committed,
      pushed_open c.args.cache.now.map.geometry c.args.cache.now.map.entries c.apply.new.self.entries c.args.cache.now.log c.push.new.self (SetPage c.args.lba (record { block = 4; page = 0 }) true)
          c.requires.map fit applied c.push.ensures (g.M.Media.state c.args.media.now).contents (g.M.Media.state c.is_held.new.media).contents c.is_held.ensures.contents c.requires.committed,
    )

pub returns-clause-whole : goal.returns-clause-whole
returns-clause-whole g c =
    let held : is_whole ((g.M.Media.state c.args.media.now).contents.flash.page (record { block = 4; page = 0 })) ≡ true = search rules in
    let applied : c.apply.new.self.entries ≡ after c.args.cache.now.map.geometry (SetPage c.args.lba (record { block = 4; page = 0 }) true) c.args.cache.now.map.entries = c.apply.ensures.entries
    ∙ ap₂ (λ (x : Geometry) (n : Entries). after x (SetPage c.args.lba (record { block = 4; page = 0 }) true) n) c.in_ok-reserve.ensures.geometry c.in_ok-reserve.ensures.entries in
    put_whole c.args.cache.now.map.geometry c.args.cache.now.map.entries c.apply.new.self.entries c.args.lba (record { block = 4; page = 0 }) true (g.M.Media.state c.args.media.now).contents (g.M.Media.state c.is_held.new.media).contents c.is_held.ensures.contents c.requires.whole held applied
