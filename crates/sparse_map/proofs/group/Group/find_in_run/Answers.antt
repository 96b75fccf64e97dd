use Rattle.std.proofs.Common.{◌<◌, ◌≤◌, Some, sym, ap, ◌∙◌, inl, inr, arith}
use Rattle.std.specs.Prelude.{option_map}
use Rattle.std.proofs.lemmas.Bool.{cases_eq}
use Rattle.std.proofs.lemmas.Option.{same_Some}
use Rattle.sparse_map.specs.Slots.{key_at}
use Rattle.sparse_map.specs.Groups.{slots_in}
use Rattle.sparse_map.proofs.GroupLemmas.{place_of, item_read, rank_on_run}
use Rattle.sparse_map.proofs.group.Group.find_in_run.Goals as goal

pub index-requires : goal.index-requires
index-requires g c =
    let u = c.args.self.now in
    let k = c.loop-k.k in
    let le : c.args.from ≤ k = omega arith in
    let lt : k < c.args.end = c.loop-k-test.true in
    let at = rank_on_run u c.args.from c.args.end c.args.place k c.requires.end c.requires.occupied c.requires.place le (omega arith) in
    omega (arith, at, place_of u k (omega (arith, lt, c.requires.end)) (c.requires.occupied k le lt))

pub returns-then-index-key-clause-found : goal.returns-then-index-key-clause-found
returns-then-index-key-clause-found g c =
    let u = c.args.self.now in
    let k = c.loop-k.k in
    let le : c.args.from ≤ k = omega arith in
    let lt : k < c.args.end = c.loop-k-test.true in
    let at = rank_on_run u c.args.from c.args.end c.args.place k c.requires.end c.requires.occupied c.requires.place le (omega arith) in
    let is = item_read u k (omega (arith, lt, c.requires.end)) c.loop-k.at c.index.result.now (c.requires.occupied k le lt) (c.loop-k.invariant.at ∙ at) c.index.ensures in
    ap (option_map (λ e. e.0)) is ∙ ap Some c.if-index-key.true

pub loop-k-preserved : goal.loop-k-preserved
loop-k-preserved g c =
    let u = c.args.self.now in
    let k = c.loop-k.k in
    let le : c.args.from ≤ k = omega arith in
    let lt : k < c.args.end = c.loop-k-test.true in
    let at = rank_on_run u c.args.from c.args.end c.args.place k c.requires.end c.requires.occupied c.requires.place le (omega arith) in
    let is = item_read u k (omega (arith, lt, c.requires.end)) c.loop-k.at c.index.result.now (c.requires.occupied k le lt) (c.loop-k.invariant.at ∙ at) c.index.ensures in
    let ne = c.if-index-key.false in
    record {
      at = omega (arith, c.loop-k.invariant.at);
      none = λ j from to has. elim (cases_eq j k) [
        | inl same ↦ ne (same_Some c.index.result.now.0 c.args.key (sym (ap (option_map (λ e. e.0)) is) ∙ ap (key_at (slots_in u)) (sym same) ∙ has))
        | inr other ↦ c.loop-k.invariant.none j from (omega (arith, to, other)) has
      ];
    }
