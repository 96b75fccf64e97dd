use Rattle.std.proofs.Common.{sym, ◌∙◌, ap}
use Rattle.op_log.specs.Log.{LogValue}
use Rattle.merge_engine.proofs.MoveLemmas.{pushed_some}
use Rattle.merge_engine.proofs.SwitchedLemmas.{switching_fits, switching_spelled, agree_switch, lists_switch}
use Rattle.merge_engine.proofs.MoveEntriesLemmas.{moved_entries}
use Rattle.merge_engine.proofs.switching.switch_block.Goals as goal

pub note-requires-clause-fits : goal.note-requires-clause-fits
note-requires-clause-fits c =
    let r = c.requires in
    switching_fits c.args.cache.now c.args.group c.args.block c.page_sets-sets.result.held c.page_sets-sets.result.dirty r.of_one r.is_map r.roles r.held r.block r.switch c.page_sets-sets.ensures.held c.page_sets-sets.ensures.dirty

pub note-requires-clause-sound : goal.note-requires-clause-sound
note-requires-clause-sound c =
    let r = c.requires in
    switching_spelled c.args.cache.now c.args.group c.args.block c.page_sets-sets.result.held c.page_sets-sets.result.dirty r.of_one r.is_map r.roles r.held r.block r.switch c.page_sets-sets.ensures.held c.page_sets-sets.ensures.dirty

pub returns-clause-map : goal.returns-clause-map
returns-clause-map c = record {
  entries = let r = c.requires in
      moved_entries c.args.cache.now c.args.group c.args.block c.page_sets-sets.result.held c.page_sets-sets.result.dirty r.of_one c.page_sets-sets.ensures.held c.page_sets-sets.ensures.dirty c.note.new.cache.map.entries c.note.ensures.map.entries;
  pages = c.note.ensures.map.pages;
  groups = c.note.ensures.map.groups;
  buckets = c.note.ensures.map.buckets;
  group_buckets = c.note.ensures.map.group_buckets;
}

pub returns-clause-stays : goal.returns-clause-stays
returns-clause-stays c = λ contents.
    let r = c.requires in
    let n = c.note.ensures in
    let s = c.set_role.ensures in
    record {
      agree = agree_switch c.args.cache.now c.note.new.cache c.set_role.new.self c.release.new.self c.args.group c.args.block c.page_sets-sets.result.held c.page_sets-sets.result.dirty r.of_one r.is_map r.roles r.held r.block
          r.switch c.page_sets-sets.ensures.held c.page_sets-sets.ensures.dirty n.cache n.log n.map.entries n.of_one n.roles c.release.ensures.released c.release.ensures.sound s.geometry s.role s.others contents;
      lists = lists_switch c.args.cache.now c.note.new.cache c.set_role.new.self c.release.new.self c.args.group c.args.block c.page_sets-sets.result.held c.page_sets-sets.result.dirty r.of_one r.is_map r.roles r.held r.block
          r.switch c.page_sets-sets.ensures.held c.page_sets-sets.ensures.dirty n.cache n.log n.map.entries n.of_one n.roles c.release.ensures.released c.release.ensures.sound s.geometry s.role s.others contents;
    }

pub returns-clause-waits : goal.returns-clause-waits
returns-clause-waits c = λ none. pushed_some c.args.cache.now.log.buffered _ (sym (ap (λ (l : LogValue). l.buffered) c.note.ensures.log) ∙ none)

pub returns-clause-next : goal.returns-clause-next
returns-clause-next c = ap (λ (l : LogValue). l.next) c.note.ensures.log
