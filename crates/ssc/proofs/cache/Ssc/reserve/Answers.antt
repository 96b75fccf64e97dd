use Rattle.std.proofs.Common.{refl, subst}
use Rattle.mapping.proofs.FewLemmas.{IsReserved}
use Rattle.ssc.proofs.HoldsLemmas.{holds_taken, holds_refused}
use Rattle.ssc.proofs.OwnLemmas.{held_still}
use Rattle.ssc.proofs.cache.Ssc.reserve.Goals as goal

pub returns-in_err-reserve-clause-holds : goal.returns-in_err-reserve-clause-holds
returns-in_err-reserve-clause-holds c = λ contents s holds.
    holds_refused c.args.self.now _ contents s refl refl c.if-not-self.true c.reserve.ensures.geometry c.reserve.ensures.entries c.in_err-reserve.ensures.err_pages c.in_err-reserve.ensures.err_groups
    c.in_err-reserve.ensures.err_buckets c.in_err-reserve.ensures.err_group_buckets holds

pub returns-in_ok-reserve-clause-holds : goal.returns-in_ok-reserve-clause-holds
returns-in_ok-reserve-clause-holds c = λ contents s holds.
    holds_taken c.args.self.now _ contents s refl refl (subst (λ n. IsReserved 1 n c.args.self.now.parts.map c.reserve.new.self) c.p.ensures (record {
      geometry = c.reserve.ensures.geometry;
      entries = c.reserve.ensures.entries;
      pages = c.in_ok-reserve.ensures.pages;
      groups = c.in_ok-reserve.ensures.groups;
      buckets = c.in_ok-reserve.ensures.buckets;
      group_buckets = c.in_ok-reserve.ensures.group_buckets;
    })) holds

pub returns-else-not-self-clause-holds : goal.returns-else-not-self-clause-holds
returns-else-not-self-clause-holds c = λ contents. held_still c.args.self.now contents
