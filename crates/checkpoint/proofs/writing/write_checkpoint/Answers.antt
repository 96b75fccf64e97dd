use Rattle.std.proofs.Common.{arith, rules, sym, ◌∙◌, ap, subst, inl}
use Rattle.ft_base.specs.Contents.{Shape}
use Rattle.ft_media.proofs.DrivesLemmas.{drives_then, only_then}
use Rattle.op_log.specs.Log.{FitsOn}
use Rattle.checkpoint.proofs.CountsLemmas.{checkpoint_made}
use Rattle.checkpoint.proofs.CountingLemmas.{records_bounded, listing_here, pages_fit}
use Rattle.checkpoint.proofs.OnlyLemmas.{only_failed}
use Rattle.checkpoint.proofs.MapsLemmas.{maps_ready}
use Rattle.checkpoint.proofs.WrittenLemmas.{maps_unsealed, seal_left, seal_done}
use Rattle.ft_base.specs.Layout.{page_records, rounded_up}
use Rattle.checkpoint.specs.Regions.{totals_of}
use Rattle.checkpoint.proofs.writing.write_checkpoint.Goals as goal

pub page_count-pages-requires : goal.page_count-pages-requires
page_count-pages-requires g c =
    let few = records_bounded c.args.target.now.geometry c.args.map.now.entries c.requires.is_map c.args.map.now.records (listing_here c.args.map.now.geometry c.args.target.now.geometry c.args.map.now.entries c.args.map.now.records c.requires.map c.checkpoint_len-records.ensures.listing) in
    let same = c.checkpoint_len-records.ensures.count in
    omega arith

pub program_maps-requires-clause-can : goal.program_maps-requires-clause-can
program_maps-requires-clause-can g c = record {
  shape = subst (λ (s : Shape). FitsOn c.args.target.now.geometry s) (sym c.in_ok-erase_regions.ensures.drives.passes.shape) c.requires.shape;
  map = c.requires.map;
  is_map = c.requires.is_map;
  listing = listing_here c.args.map.now.geometry c.args.target.now.geometry c.args.map.now.entries c.args.map.now.records c.requires.map c.checkpoint_len-records.ensures.listing;
}

pub program_maps-requires-clause-room : goal.program_maps-requires-clause-room
program_maps-requires-clause-room g c =
    pages_fit c.args.map.now.geometry c.args.target.now.geometry c.args.map.now.entries c.args.map.now.records c.checkpoint_len-records.result c.page_count-pages.result c.page_count-pages.ensures c.requires.map c.requires.is_map c.checkpoint_len-records.ensures.listing c.checkpoint_len-records.ensures.count

pub returns-in_err-program_maps-clause-pages : goal.returns-in_err-program_maps-clause-pages
returns-in_err-program_maps-clause-pages g c =
    inl (maps_unsealed c.args.target.now.geometry c.args.target.now.region (g.M.Media.state c.args.media.now).contents.flash (g.M.Media.state c.erase_regions.new.media).contents.flash (g.M.Media.state c.program_maps.new.media).contents.flash c.in_ok-erase_regions.ensures.done c.program_maps.ensures.pages)

pub returns-in_err-program_maps-clause-drives : goal.returns-in_err-program_maps-clause-drives
returns-in_err-program_maps-clause-drives g c = only_failed _ _ _ _ _ c.in_ok-erase_regions.ensures.drives c.in_err-program_maps.ensures.drives (search rules)

pub program_seal-requires-clause-room : goal.program_seal-requires-clause-room
program_seal-requires-clause-room g c =
    pages_fit c.args.map.now.geometry c.args.target.now.geometry c.args.map.now.entries c.args.map.now.records c.checkpoint_len-records.result c.page_count-pages.result c.page_count-pages.ensures c.requires.map c.requires.is_map c.checkpoint_len-records.ensures.listing c.checkpoint_len-records.ensures.count

pub program_seal-requires-clause-ready : goal.program_seal-requires-clause-ready
program_seal-requires-clause-ready g c =
    maps_ready c.args.target.now.geometry c.args.target.now.region c.args.target.now.era c.args.map.now.records _ (g.M.Media.state c.erase_regions.new.media).contents.flash (g.M.Media.state c.program_maps.new.media).contents.flash c.in_ok-program_maps.ensures.done
    (pages_fit c.args.map.now.geometry c.args.target.now.geometry c.args.map.now.entries c.args.map.now.records c.checkpoint_len-records.result c.page_count-pages.result c.page_count-pages.ensures c.requires.map c.requires.is_map c.checkpoint_len-records.ensures.listing c.checkpoint_len-records.ensures.count)

pub returns-in_err-program_seal-clause-pages : goal.returns-in_err-program_seal-clause-pages
returns-in_err-program_seal-clause-pages g c =
    let same = c.checkpoint_len-records.ensures.count in
    seal_left c.args.target.now.geometry c.args.target.now.region c.args.target.now.era c.args.map.now.records (totals_of c.args.map.now.entries) c.totals_of-totals.result c.totals_of-totals.ensures c.args.target.now.one_of_two _ c.checkpoint_len-records.result (c.page_count-pages.ensures ∙ ap (λ n. rounded_up n (page_records c.args.target.now.geometry)) same) same
    (pages_fit c.args.map.now.geometry c.args.target.now.geometry c.args.map.now.entries c.args.map.now.records c.checkpoint_len-records.result c.page_count-pages.result c.page_count-pages.ensures c.requires.map c.requires.is_map c.checkpoint_len-records.ensures.listing c.checkpoint_len-records.ensures.count)
    (g.M.Media.state c.args.media.now).contents.flash (g.M.Media.state c.erase_regions.new.media).contents.flash (g.M.Media.state c.program_maps.new.media).contents.flash
    (g.M.Media.state c.program_seal.new.media).contents.flash c.in_ok-erase_regions.ensures.done c.in_ok-program_maps.ensures.done c.program_seal.ensures.pages

pub returns-in_err-program_seal-clause-drives : goal.returns-in_err-program_seal-clause-drives
returns-in_err-program_seal-clause-drives g c = only_failed _ _ _ _ _
    (drives_then _ _ _ _ _ c.in_ok-erase_regions.ensures.drives c.in_ok-program_maps.ensures.drives.flash)
    c.in_err-program_seal.ensures.drives (search rules)

pub returns-clause-done : goal.returns-clause-done
returns-clause-done g c =
    let same = c.checkpoint_len-records.ensures.count in
    seal_done c.args.target.now.geometry c.args.target.now.region c.args.target.now.era c.args.map.now.records (totals_of c.args.map.now.entries) c.totals_of-totals.result c.totals_of-totals.ensures c.args.target.now.one_of_two _ c.checkpoint_len-records.result (c.page_count-pages.ensures ∙ ap (λ n. rounded_up n (page_records c.args.target.now.geometry)) same) same
    (pages_fit c.args.map.now.geometry c.args.target.now.geometry c.args.map.now.entries c.args.map.now.records c.checkpoint_len-records.result c.page_count-pages.result c.page_count-pages.ensures c.requires.map c.requires.is_map c.checkpoint_len-records.ensures.listing c.checkpoint_len-records.ensures.count)
    (g.M.Media.state c.args.media.now).contents.flash (g.M.Media.state c.erase_regions.new.media).contents.flash (g.M.Media.state c.program_maps.new.media).contents.flash
    (g.M.Media.state c.program_seal.new.media).contents.flash c.in_ok-erase_regions.ensures.done c.in_ok-program_maps.ensures.done c.in_ok-program_seal.ensures.done

pub returns-clause-pages : goal.returns-clause-pages
returns-clause-pages g c =
    let same = c.checkpoint_len-records.ensures.count in
    seal_left c.args.target.now.geometry c.args.target.now.region c.args.target.now.era c.args.map.now.records (totals_of c.args.map.now.entries) c.totals_of-totals.result c.totals_of-totals.ensures c.args.target.now.one_of_two _ c.checkpoint_len-records.result (c.page_count-pages.ensures ∙ ap (λ n. rounded_up n (page_records c.args.target.now.geometry)) same) same
    (pages_fit c.args.map.now.geometry c.args.target.now.geometry c.args.map.now.entries c.args.map.now.records c.checkpoint_len-records.result c.page_count-pages.result c.page_count-pages.ensures c.requires.map c.requires.is_map c.checkpoint_len-records.ensures.listing c.checkpoint_len-records.ensures.count)
    (g.M.Media.state c.args.media.now).contents.flash (g.M.Media.state c.erase_regions.new.media).contents.flash (g.M.Media.state c.program_maps.new.media).contents.flash
    (g.M.Media.state c.program_seal.new.media).contents.flash c.in_ok-erase_regions.ensures.done c.in_ok-program_maps.ensures.done c.program_seal.ensures.pages

pub returns-clause-counts : goal.returns-clause-counts
returns-clause-counts g c =
    checkpoint_made c.args.target.now.geometry _ _ (g.M.Media.state c.args.media.now).counts (g.M.Media.state c.erase_regions.new.media).counts (g.M.Media.state c.program_maps.new.media).counts (g.M.Media.state c.program_seal.new.media).counts
    (c.page_count-pages.ensures ∙ ap (λ n. rounded_up n (page_records c.args.target.now.geometry)) c.checkpoint_len-records.ensures.count) c.in_ok-erase_regions.ensures.counts c.in_ok-program_maps.ensures.counts c.in_ok-program_seal.ensures.counts

pub returns-clause-drives : goal.returns-clause-drives
returns-clause-drives g c = only_then _ _ _ _
    (drives_then _ _ _ _ _ c.in_ok-erase_regions.ensures.drives c.in_ok-program_maps.ensures.drives.flash)
    c.in_ok-program_seal.ensures.drives
