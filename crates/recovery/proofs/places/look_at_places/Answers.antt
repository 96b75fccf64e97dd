use Rattle.std.proofs.Common.{sym, ap, ◌∙◌, rules, false, length, arith}
use Rattle.ft_base.specs.Contents.{Contents}
use Rattle.ft_media.proofs.DrivesLemmas.{reads_then}
use Rattle.recovery.proofs.PlaceLemmas.{looked_more, looked_past, looked_all, looked_refused, has_sorted, written_back, rises, place_in_pool}
use Rattle.recovery.proofs.places.look_at_places.Goals as goal
use Rattle.recovery.proofs.places.look_at_places.Goals.{in-Some+in_ok-look_at, in_default}

pub look_at-requires-clause-block : goal.look_at-requires-clause-block
look_at-requires-clause-block g c = (place_in_pool c.args.geometry.now c.args.map.now.entries _ c.in-Some.at c.in-Some.field-0-1 c.requires.map (sym c.in-Some.is ∙ c.place.ensures.place)).below

pub look_at-requires-clause-page : goal.look_at-requires-clause-page
look_at-requires-clause-page g c = (place_in_pool c.args.geometry.now c.args.map.now.entries _ c.in-Some.at c.in-Some.field-0-1 c.requires.map (sym c.in-Some.is ∙ c.place.ensures.place)).page

pub returns-in_err-look_at-clause-refused : goal.returns-in_err-look_at-clause-refused
returns-in_err-look_at-clause-refused g c =
    let m = c.args.map.now.entries in
    let whole = written_back c.deref-lba-items.result.now c.sort_unstable.new.self _ _ c.deref-lba-items.ensures.value (omega (arith, c.sort_unstable.ensures.len, ap length c.as_mut_slice.ensures.value, c.in_ok-addresses.addresses.ok.0)) in
    let has = has_sorted m c.in_ok-addresses.addresses.items c.as_mut_slice.result.now c.sort_unstable.new.self c.deref-lba-items.result.now c.as_mut_slice.ensures.value c.sort_unstable.ensures.permutation whole c.in_ok-addresses.ensures.held in
    let refused =
    looked_refused (g.M.Media.state c.args.media.now).contents.flash.page m c.deref-lba-items.result.now has c.loop-lba.lba-index c.loop-lba.invariant.looked
    (rises c.sort_unstable.new.self c.deref-lba-items.result.now whole c.sort_unstable.ensures.sorted) _ c.loop-lba-test.true c.in-Some.at c.in-Some.field-0-1
    (sym c.in-Some.is ∙ c.place.ensures.place) c.args.geometry.now (g.M.Media.state c.loop-lba.media).contents.flash.page c.in_err-look_at.field-0.0 (ap (λ (k : Contents). k.flash.page) c.loop-lba.invariant.reads.contents) c.in_err-look_at.ensures.refused
    in
    search rules

pub loop-lba-preserved : goal.loop-lba-preserved
loop-lba-preserved g c =
    let m = c.args.map.now.entries in
    elim c.match-place.branch [
      | in-Some+in_ok-look_at w ↦ record {
        reads = rw w.media-is (reads_then (g.M.Media.state c.args.media.now) (g.M.Media.state c.loop-lba.media) (g.M.Media.state w.look_at.new.media) false false c.loop-lba.invariant.reads w.in_ok-look_at.ensures.reads);
        looked =
            looked_more (g.M.Media.state c.args.media.now).contents.flash.page m c.deref-lba-items.result.now c.loop-lba.lba-index _ c.loop-lba.invariant.looked c.loop-lba-test.true (g.M.Media.state c.loop-lba.media).contents.flash.page w.in-Some.at w.in-Some.field-0-1
            (ap (λ (k : Contents). k.flash.page) c.loop-lba.invariant.reads.contents) (sym w.in-Some.is ∙ c.place.ensures.place) w.in_ok-look_at.ensures.whole;
      }
      | in_default w ↦ record {
        reads = rw w.media-is c.loop-lba.invariant.reads;
        looked = looked_past (g.M.Media.state c.args.media.now).contents.flash.page m c.deref-lba-items.result.now c.loop-lba.lba-index _ c.loop-lba.invariant.looked c.loop-lba-test.true (sym w.in_default.is ∙ c.place.ensures.place);
      }
    ]

pub returns-clause-whole : goal.returns-clause-whole
returns-clause-whole g c =
    let m = c.args.map.now.entries in
    let whole = written_back c.deref-lba-items.result.now c.sort_unstable.new.self _ _ c.deref-lba-items.ensures.value (omega (arith, c.sort_unstable.ensures.len, ap length c.as_mut_slice.ensures.value, c.in_ok-addresses.addresses.ok.0)) in
    let has = has_sorted m c.in_ok-addresses.addresses.items c.as_mut_slice.result.now c.sort_unstable.new.self c.deref-lba-items.result.now c.as_mut_slice.ensures.value c.sort_unstable.ensures.permutation whole c.in_ok-addresses.ensures.held in
    looked_all (g.M.Media.state c.args.media.now).contents.flash.page m c.deref-lba-items.result.now has c.loop-lba.lba-index c.loop-lba.invariant.looked c.loop-lba-test.false
