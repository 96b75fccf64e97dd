use Rattle.std.proofs.Common.{◌≡◌, Some}
use Rattle.std.specs.FinMap.{get}
use Rattle.cache_history.specs.History.{both_alike}
use Rattle.cache_history.proofs.StepLemmas.{IsDirty}
use Rattle.cache_history.proofs.MightLemmas.{IsNone, alike_both, dirty_both, held_both, mights, mights_from, mights_none}
use Rattle.cache_history.proofs.LawLemmas.{evicted_none, still_none, dirty_goes_on, dirty_some, dirty_still, held_still, newest}
use Rattle.cache_history.proofs.ListedLemmas.{dirty_listed}
use Rattle.cache_history.proofs.OwnLemmas.{own_lived}
use Rattle.cache_history.proofs.laws.history_laws.Goals as goal

pub returns-clause-evicted_stays_absent : goal.returns-clause-evicted_stays_absent
returns-clause-evicted_stays_absent c = λ g later before l a b lived none. evicted_none a b later before (get l.now a) (mights g _ l lived a).now none

pub returns-clause-absent_stays : goal.returns-clause-absent_stays
returns-clause-absent_stays c = λ g before later l m a lived none after quiet.
    still_none a later (get m.now a) (mights_from IsNone g l later m after a (mights_none g before l lived a none)).now quiet

pub returns-clause-dirty_stays : goal.returns-clause-dirty_stays
returns-clause-dirty_stays c = λ g later before l a b lived none. dirty_some a b later before (get l.now a) (mights g _ l lived a).now none

pub returns-clause-newest_is_held : goal.returns-clause-newest_is_held
returns-clause-newest_is_held c = λ g start events l a h lived is. newest start a events (get l.now a) h (mights_from (λ o. o ≡ get start a) g (both_alike start) events l lived a (alike_both start a)).now is

pub returns-clause-committed_stays : goal.returns-clause-committed_stays
returns-clause-committed_stays c = λ g start l events a h lived now durable dirty none.
    let m = mights_from (λ o. o ≡ Some h) g start events l lived a (held_both start a h now durable) in
    (held_still a h dirty events (get l.now a) m.now none, held_still a h dirty events (get l.durable a) m.durable none)

pub returns-clause-committed_is_listed : goal.returns-clause-committed_is_listed
returns-clause-committed_is_listed c = λ g start l events a from count lived now durable none low high.
    let m = mights_from IsDirty g start events l lived a (dirty_both start a now durable) in
    let d = dirty_goes_on a events (get l.now a) m.now none in
    dirty_listed l.now a d.0 from count d.1 d.2 low high

pub returns-clause-dirty_is_listed : goal.returns-clause-dirty_is_listed
returns-clause-dirty_is_listed c = λ g later before l a b from count lived none low high.
    let d = dirty_still a b later before (get l.now a) (mights g _ l lived a).now none in
    dirty_listed l.now a d.0 from count d.1 d.2 low high

pub returns-clause-own_stays : goal.returns-clause-own_stays
returns-clause-own_stays c = λ g start l events lived now durable. own_lived g start events l lived now durable
