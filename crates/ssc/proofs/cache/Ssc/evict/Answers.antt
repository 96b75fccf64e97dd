use Rattle.std.proofs.Common.{◌≡◌, ◌∙◌, length, None, Some, refl, sym, subst, arith, ap}
use Rattle.std.proofs.lemmas.Bool.{false≢true}
use Rattle.cache_model.specs.Cache.{undo, evicted}
use Rattle.cache_model.specs.CacheList.{CacheList}
use Rattle.ssc.specs.CacheState.{Holds, geometry_of, waiting}
use Rattle.ssc.proofs.HoldsLemmas.{holds_committed, few_buffered, few_stepped}
use Rattle.ssc.proofs.CommandLemmas.{images_after, evicted_absent, no_entry, an_entry}
use Rattle.ssc.proofs.OwnLemmas.{given_up_not, held_still, kept_step, kept_held, evicted_own}
use Rattle.ssc.proofs.LosingLemmas.{none_losing}
use Rattle.ssc.specs.declared.cache.Ssc.{Ssc}
use Rattle.ssc.proofs.cache.Ssc.evict.Goals as goal

pub returns-then-not-is_held-clause-done : goal.returns-then-not-is_held-clause-done
returns-then-not-is_held-clause-done g c = λ s holds.
    let old = (g.M.Media.state c.args.media.now).contents in
    let absent = no_entry c.args.self.now old s c.args.lba holds (λ e. false≢true (c.if-not-is_held.ensures.1 e)) in
    subst (λ (t : CacheList). Holds c.args.self.now old t) (sym (evicted_absent s c.args.lba absent)) holds

pub take_out-requires : goal.take_out-requires
take_out-requires g c = record { may = record { agree = c.requires.up.holds.agree; lba = c.requires.lba; few = few_buffered c.args.self.now (g.M.Media.state c.args.media.now).contents c.requires.up.list c.requires.up.holds } }

pub returns-in-Ok-clause-done : goal.returns-in-Ok-clause-done
returns-in-Ok-clause-done g c = λ s holds.
    holds_committed _ (g.M.Media.state c.take_out.new.media).contents (evicted c.args.lba s)
    (record {
      agree = c.in-Ok.ensures.agree;
      memory = λ ready. c.take_out.ensures.reserved (holds.memory ready);
      few = few_stepped c.args.self.now.parts c.take_out.new.parts (g.M.Media.state c.args.media.now).contents (g.M.Media.state c.take_out.new.media).contents holds.agree c.in-Ok.ensures.agree c.take_out.ensures.kept holds.few;
    }) c.in-Ok.ensures.nothing_waits (ap length c.clear.ensures)
    (c.in-Ok.ensures.lists s (undo holds.waiting s) holds.lists)

pub returns-in-Ok-clause-absent : goal.returns-in-Ok-clause-absent
returns-in-Ok-clause-absent g c = λ s holds none.
    let e = c.if-not-is_held.ensures.0 refl in
    absurd (an_entry c.args.self.now (g.M.Media.state c.args.media.now).contents s c.args.lba holds e.0 e.1 none)

pub returns-in-Ok-clause-images : goal.returns-in-Ok-clause-images
returns-in-Ok-clause-images g c = λ s holds. images_after (geometry_of c.args.self.now) (g.M.Media.state c.take_out.new.media).contents (undo holds.waiting s) s (evicted c.args.lba s) (c.take_out.ensures.stands s (undo holds.waiting s) holds.lists)

pub returns-in-Err-clause-images : goal.returns-in-Err-clause-images
returns-in-Err-clause-images g c = λ s holds. images_after (geometry_of c.args.self.now) (g.M.Media.state c.take_out.new.media).contents (undo holds.waiting s) s (evicted c.args.lba s) (c.take_out.ensures.stands s (undo holds.waiting s) holds.lists)

pub returns-then-not-is_held-clause-one_program : goal.returns-then-not-is_held-clause-one_program
returns-then-not-is_held-clause-one_program g c = λ s holds there room.
    let absent = no_entry c.args.self.now (g.M.Media.state c.args.media.now).contents s c.args.lba holds (λ e. false≢true (c.if-not-is_held.ensures.1 e)) in
    absurd (let both : None ≡ Some there.0 = sym absent ∙ there.1 in cc)

pub returns-in-Ok-clause-one_program : goal.returns-in-Ok-clause-one_program
returns-in-Ok-clause-one_program g c = λ s holds there room. c.in-Ok.ensures.one_program (omega arith)

pub returns-then-not-is_held-clause-own : goal.returns-then-not-is_held-clause-own
returns-then-not-is_held-clause-own g c = kept_held c.args.self.now c.args.self.now (g.M.Media.state c.args.media.now).contents (held_still c.args.self.now (g.M.Media.state c.args.media.now).contents)

pub returns-in-Ok-clause-own : goal.returns-in-Ok-clause-own
returns-in-Ok-clause-own g c = kept_step c.args.self.now _ (g.M.Media.state c.args.media.now).contents (g.M.Media.state c.take_out.new.media).contents (evicted c.args.lba) (evicted_own c.args.lba) (λ up s holds. none_losing _ (g.M.Media.state c.take_out.new.media).contents s (undo holds.waiting s) (evicted c.args.lba s) (ap waiting c.in-Ok.ensures.nothing_waits) (returns-in-Ok-clause-done g c s holds)) (returns-in-Ok-clause-images g c)

pub returns-in-Err-clause-own : goal.returns-in-Err-clause-own
returns-in-Err-clause-own g c = kept_step c.args.self.now c.give_up.new.self (g.M.Media.state c.args.media.now).contents (g.M.Media.state c.take_out.new.media).contents (evicted c.args.lba) (evicted_own c.args.lba)
    (λ up. given_up_not c.give_up.new.self (ap (λ (k : Ssc). k.stopped) c.give_up.ensures.cache) up) (returns-in-Err-clause-images g c)
