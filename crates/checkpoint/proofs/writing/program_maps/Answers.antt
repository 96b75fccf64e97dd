use Rattle.std.proofs.Common.{◌≡◌, List, length, inl, refl, rules, ◌∙◌, ap, subst, arith}
use Rattle.std.specs.List.{list_all}
use Rattle.ft_base.specs.declared.record.Record.{Record}
use Rattle.ft_base.specs.Layout.{checkpoint_at}
use Rattle.ft_media.proofs.DrivesLemmas.{drives_none, drives_then}
use Rattle.cache_model.specs.declared.format.PageKind.TheVariants.{Map}
use Rattle.cache_model.specs.Spelling.{is_wide, may_stand_in}
use Rattle.checkpoint.specs.Regions.{IsMapPage, LeavesOne, Programmed, part}
use Rattle.checkpoint.proofs.AskedLemmas.{asked_next}
use Rattle.checkpoint.proofs.CountingLemmas.{more_left, records_bounded}
use Rattle.checkpoint.proofs.CountsLemmas.{programs_none, programs_more}
use Rattle.checkpoint.proofs.ListsLemmas.{length-part}
use Rattle.checkpoint.proofs.OnlyLemmas.{only_failed}
use Rattle.checkpoint.proofs.MapsLemmas.{maps_none, maps_left, maps_more}
use Rattle.checkpoint.proofs.SoundLemmas.{part_sound}
use Rattle.checkpoint.proofs.writing.program_maps.Goals as goal

pub ask-requires-clause-few : goal.ask-requires-clause-few
ask-requires-clause-few g c =
    let few = records_bounded c.args.target.now.geometry c.args.map.now.entries c.requires.can.is_map c.args.map.now.records c.requires.can.listing in
    omega arith

pub ask-requires-clause-some : goal.ask-requires-clause-some
ask-requires-clause-some g c = more_left c.args.target.now.geometry c.args.map.now.records c.loop-sequence.sequence c.args.pages c.requires.all c.loop-sequence-test.true

pub records_of-records-requires-clause-some : goal.records_of-records-requires-clause-some
records_of-records-requires-clause-some g c = more_left c.args.target.now.geometry c.args.map.now.records c.loop-sequence.sequence c.args.pages c.requires.all c.loop-sequence-test.true

pub program_map-requires-clause-kinds : goal.program_map-requires-clause-kinds
program_map-requires-clause-kinds g c =
    let x = c.args.target.now.geometry in
    let rs = c.args.map.now.records in
    let i = c.loop-sequence.sequence in
    let own : c.records_of-records.result.now ≡ part x rs i = c.records_of-records.ensures in
    ap (list_all (may_stand_in (is_wide 2 x.p) Map)) own ∙ part_sound x c.args.map.now.entries c.requires.can.is_map rs c.requires.can.listing i

pub program_map-requires-clause-some : goal.program_map-requires-clause-some
program_map-requires-clause-some g c =
    let long = ap length c.records_of-records.ensures ∙ length-part c.args.target.now.geometry c.args.map.now.records c.loop-sequence.sequence in
    let some = more_left c.args.target.now.geometry c.args.map.now.records c.loop-sequence.sequence c.args.pages c.requires.all c.loop-sequence-test.true in
    omega (arith, long, some)

pub program_map-requires-clause-few : goal.program_map-requires-clause-few
program_map-requires-clause-few g c =
    let long = ap length c.records_of-records.ensures ∙ length-part c.args.target.now.geometry c.args.map.now.records c.loop-sequence.sequence in
    omega (arith, long)

pub returns-in_err-program_map-clause-pages : goal.returns-in_err-program_map-clause-pages
returns-in_err-program_map-clause-pages g c =
    let x = c.args.target.now.geometry in
    let rs = c.args.map.now.records in
    let i = c.loop-sequence.sequence in
    let before = (g.M.Media.state c.loop-sequence.media).contents.flash in
    let after = (g.M.Media.state c.program_map.new.media).contents.flash in
    let own : c.records_of-records.result.now ≡ part x rs i = c.records_of-records.ensures in
    maps_left x c.args.target.now.region c.args.target.now.era rs i (g.M.Media.state c.args.media.now).contents.flash before c.loop-sequence.invariant.maps after (omega arith)
    (subst (λ (qs : List Record). LeavesOne (IsMapPage c.args.target.now.geometry c.args.target.now.era i qs) (checkpoint_at x c.args.target.now.region i) before after) own c.program_map.ensures.pages)

pub returns-in_err-program_map-clause-drives : goal.returns-in_err-program_map-clause-drives
returns-in_err-program_map-clause-drives g c = only_failed _ _ _ _ _ c.loop-sequence.invariant.drives c.in_err-program_map.ensures.drives (search rules)

pub loop-sequence-init : goal.loop-sequence-init
loop-sequence-init g c = record {
  maps = maps_none c.args.target.now.geometry c.args.target.now.region c.args.target.now.era c.args.map.now.records (g.M.Media.state c.args.media.now).contents.flash c.requires.blank;
  counts = programs_none (g.M.Media.state c.args.media.now).counts (g.met.M.Media.is_small c.args.media.now).counts.programs;
  drives = drives_none (g.M.Media.state c.args.media.now);
  room = c.requires.asked;
  asked = inl refl;
}

pub loop-sequence-preserved : goal.loop-sequence-preserved
loop-sequence-preserved g c =
    let x = c.args.target.now.geometry in
    let rs = c.args.map.now.records in
    let i = c.loop-sequence.sequence in
    let before = (g.M.Media.state c.loop-sequence.media).contents.flash in
    let after = (g.M.Media.state c.program_map.new.media).contents.flash in
    let own : c.records_of-records.result.now ≡ part x rs i = c.records_of-records.ensures in
    record {
      maps = maps_more x c.args.target.now.region c.args.target.now.era rs i (g.M.Media.state c.args.media.now).contents.flash before c.loop-sequence.invariant.maps after (omega arith)
          (subst (λ (qs : List Record). Programmed (IsMapPage c.args.target.now.geometry c.args.target.now.era i qs) (checkpoint_at x c.args.target.now.region i) before after) own c.in_ok-program_map.ensures.done);
      counts = programs_more i (g.M.Media.state c.args.media.now).counts (g.M.Media.state c.loop-sequence.media).counts (g.M.Media.state c.program_map.new.media).counts c.loop-sequence.invariant.counts c.in_ok-program_map.ensures.counts;
      drives = drives_then (g.M.Media.state c.args.media.now) (g.M.Media.state c.loop-sequence.media) (g.M.Media.state c.program_map.new.media) _ _ c.loop-sequence.invariant.drives c.in_ok-program_map.ensures.drives.flash;
      room = c.ask.ensures.room;
      asked = asked_next x rs c.ask.new.asked i c.ask.ensures.run;
    }
