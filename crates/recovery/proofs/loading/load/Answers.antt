use Rattle.std.proofs.Common.{ap, rules, refl, ◌∙◌}
use Rattle.ft_base.specs.Contents.{Contents}
use Rattle.ft_media.proofs.DrivesLemmas.{reads_then}
use Rattle.checkpoint.specs.Found.{found_in}
use Rattle.recovery.proofs.WalkLemmas.{maps_within}
use Rattle.recovery.proofs.LoadLemmas.{few_loaded, find_refused, replay_refused, places_refused, places_whole, reads_refused}
use Rattle.recovery.proofs.loading.load.Goals as goal

pub returns-in_err-newest-clause-refused : goal.returns-in_err-newest-clause-refused
returns-in_err-newest-clause-refused g c =
    let refused = find_refused c.args.geometry.now (g.M.Media.state c.args.media.now).contents.flash.page c.in_err-newest.field-0.0 c.in_err-newest.ensures.refused in
    search rules

pub replay-requires-clause-pages : goal.replay-requires-clause-pages
replay-requires-clause-pages g c = maps_within c.args.geometry.now (g.M.Media.state c.args.media.now).contents.flash.page (found_in c.in_ok-newest.newest) c.in_ok-newest.ensures.found

pub returns-in_err-replay-clause-refused : goal.returns-in_err-replay-clause-refused
returns-in_err-replay-clause-refused g c =
    let refused =
    replay_refused c.args.geometry.now (g.M.Media.state c.args.media.now).contents.flash.page (found_in c.in_ok-newest.newest) c.in_ok-newest.ensures.found (g.M.Media.state c.find_checkpoint.new.media).contents.flash.page
    (ap (λ (k : Contents). k.flash.page) c.in_ok-newest.ensures.reads.contents) c.in_err-replay.field-0.0 c.in_err-replay.ensures.refused
    in
    search rules

pub returns-in_err-replay-clause-reads : goal.returns-in_err-replay-clause-reads
returns-in_err-replay-clause-reads g c =
    reads_refused (Unit {0}) (g.M.Media.state c.args.media.now) (g.M.Media.state c.find_checkpoint.new.media) (g.M.Media.state c.replay.new.media) c.from_residual-in_err-replay.result c.in_err-replay.field-0.0 c.from_residual-in_err-replay.ensures.1
    c.in_ok-newest.ensures.reads c.in_err-replay.ensures.reads

pub returns-in_err-look_at_places-clause-reads : goal.returns-in_err-look_at_places-clause-reads
returns-in_err-look_at_places-clause-reads g c =
    let first = reads_then (g.M.Media.state c.args.media.now) (g.M.Media.state c.find_checkpoint.new.media) (g.M.Media.state c.replay.new.media) _ _ c.in_ok-newest.ensures.reads c.in_ok-replay.ensures.reads in
    reads_refused (Unit {0}) (g.M.Media.state c.args.media.now) (g.M.Media.state c.replay.new.media) (g.M.Media.state c.look_at_places.new.media) c.from_residual-in_err-look_at_places.result c.in_err-look_at_places.field-0.0 c.from_residual-in_err-look_at_places.ensures.1
    first c.in_err-look_at_places.ensures.reads

pub returns-in_err-look_at_places-clause-refused :
    goal.returns-in_err-look_at_places-clause-refused
returns-in_err-look_at_places-clause-refused g c =
    let refused =
    places_refused c.args.geometry.now (g.M.Media.state c.args.media.now).contents.flash.page (found_in c.in_ok-newest.newest) c.in_ok-newest.ensures.found (g.M.Media.state c.find_checkpoint.new.media).contents.flash.page
    (ap (λ (k : Contents). k.flash.page) c.in_ok-newest.ensures.reads.contents) c.replay.new.map.entries c.in_ok-replay.ensures.replayed (g.M.Media.state c.replay.new.media).contents.flash.page
    (ap (λ (k : Contents). k.flash.page) (c.in_ok-replay.ensures.reads.contents ∙ c.in_ok-newest.ensures.reads.contents)) c.in_err-look_at_places.field-0.0 c.in_err-look_at_places.ensures.refused
    in
    search rules

pub returns-clause-loaded : goal.returns-clause-loaded
returns-clause-loaded g c = record {
  loads =
      places_whole c.args.geometry.now (g.M.Media.state c.args.media.now).contents.flash.page (found_in c.in_ok-newest.newest) c.in_ok-newest.ensures.found (g.M.Media.state c.find_checkpoint.new.media).contents.flash.page
      (ap (λ (k : Contents). k.flash.page) c.in_ok-newest.ensures.reads.contents) c.replay.new.map.entries c.in_ok-replay.ensures.replayed (g.M.Media.state c.replay.new.media).contents.flash.page
      (ap (λ (k : Contents). k.flash.page) (c.in_ok-replay.ensures.reads.contents ∙ c.in_ok-newest.ensures.reads.contents)) c.in_ok-look_at_places.ensures.whole;
  geometry = c.in_ok-replay.ensures.geometry ∙ c.in_ok-map.ensures.geometry;
  few = few_loaded c.in_ok-map.map c.replay.new.map c.in_ok-map.ensures.entries c.in_ok-map.ensures.pages c.in_ok-map.ensures.groups c.in_ok-map.ensures.buckets.0 c.in_ok-map.ensures.buckets.1 c.in_ok-replay.ensures.few;
  newest = (found_in c.in_ok-newest.newest).1;
  chosen = c.in_ok-newest.ensures.found;
  era = refl;
}
