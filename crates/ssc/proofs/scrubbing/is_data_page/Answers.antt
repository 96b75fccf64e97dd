use Rattle.ssc.proofs.ScrubLemmas.{own_page}
use Rattle.ssc.proofs.scrubbing.is_data_page.Goals as goal

pub returns-in-Ok-Whole-clause-found : goal.returns-in-Ok-Whole-clause-found
returns-in-Ok-Whole-clause-found g c =
    own_page ((g.M.Media.state c.args.media.now).contents.flash.page c.args.place) c.in-Ok-Whole.field-0 c.read_page.new.block c.read_page.new.spare c.write_spare-own.result c.args.lba c.eq.result c.in-Ok-Whole.ensures.found c.in-Ok-Whole.field-0-is c.write_spare-own.ensures.spelled c.eq.ensures
