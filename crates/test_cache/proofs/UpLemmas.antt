-- A command leaves a cache that fits its flash.
use Rattle.std.proofs.Common.{◌≡◌, ◌<◌, ℕ, Bool, true, false, not, Result, Ok, Err, OnOk, sym, refl, ap, subst, ◌∙◌}
use Rattle.std.specs.Prelude.{IsErrOf}
use Rattle.std.proofs.lemmas.Bool.{false≢true}
use Rattle.ft_base.specs.Contents.{Contents}
use Rattle.ft_base.specs.declared.geometry.Geometry.{Geometry}
use Rattle.ft_media.specs.State.{State}
use Rattle.cache_model.specs.Cache.{Buffered}
use Rattle.cache_model.specs.CacheList.{CacheList}
use Rattle.ssc.specs.declared.cache.Ssc.{Ssc}
use Rattle.ssc.specs.declared.error.SscError.{SscError}
use Rattle.ssc.specs.declared.error.SscError.TheVariants.{Full, FlashFault, PowerLost, OutOfMemory}
use Rattle.ssc.specs.Errors.{stops}
use Rattle.ssc.specs.CacheState.{Holds, IsUp, geometry_of}
use Rattle.ssc.specs.Commands.{HoldsBuffered, HoldsWritten}
use Rattle.test_cache.specs.Fits.{FitTogether}

up_same : (c d : Ssc) (a b : State) → (d ≡ c) × (b ≡ a) → IsUp c a.contents → IsUp d b.contents
up_same c d a b is up = subst (λ (v : Ssc). IsUp v b.contents) (sym is.0) (subst (λ (k : State). IsUp c k.contents) (sym is.1) up)

-- out of memory changes no held block
abbrev StillHolds : Ssc → Ssc → State → State → Type 0
StillHolds c d a b = (b ≡ a) × ((contents : Contents) (list : CacheList) → Holds c contents list → Holds d contents list)

up_still : (c d : Ssc) (a b : State) → StillHolds c d a b → IsUp c a.contents → d.stopped ≡ false → IsUp d b.contents
up_still c d a b still up going = subst (λ (k : State). IsUp d k.contents) (sym still.0) (record { list = up.list; holds = still.1 a.contents up.list up.holds; up = going })

-- after `Ok` the cache holds some list
abbrev HoldsSome : Ssc → Contents → Type 0
HoldsSome c contents = (list : CacheList) × Holds c contents list

up_some : (r : Result (Unit {0}) SscError) (c d : Ssc) (a b : State) → IsUp c a.contents → d.stopped ≡ stops r → OnOk r (HoldsSome d b.contents) → ((n l : ℕ) → IsErrOf r (Full n l) → (d ≡ c) × (b ≡ a)) → (IsErrOf r OutOfMemory → StillHolds c d a b) → d.stopped ≡ false → IsUp d b.contents
up_some (Ok done) c d a b up stopped holds full memory going = record { list = holds.0; holds = holds.1; up = going }
up_some (Err (Full n l)) c d a b up stopped holds full memory going = up_same c d a b (full n l refl) up
up_some (Err FlashFault) c d a b up stopped holds full memory going = absurd (false≢true (sym going ∙ stopped))
up_some (Err PowerLost) c d a b up stopped holds full memory going = absurd (false≢true (sym going ∙ stopped))
up_some (Err OutOfMemory) c d a b up stopped holds full memory going = up_still c d a b (memory refl) up going

on_ok : {P Q : Type 0} (r : Result (Unit {0}) SscError) → (P → Q) → OnOk r P → OnOk r Q
on_ok (Ok done) f p = f p
on_ok (Err e) f p = tt

-- before a command: commands may be given
pub in_size : (going : Bool) (c : Ssc) (contents : Contents) (lba : ℕ) → FitTogether going c contents → lba < 64 → lba < (geometry_of c).size
in_size going c contents lba fit below = subst (λ (n : ℕ). lba < n) (sym fit.size) below

same_size : (c d : Ssc) → geometry_of d ≡ geometry_of c → (geometry_of c).size ≡ 64 → (geometry_of d).size ≡ 64
same_size c d same is = ap (λ (g : Geometry). g.size) same ∙ is

-- commands may be given after it, unless it stopped the cache
going_on : (stopped : Bool) (d : Ssc) → stopped ≡ d.stopped → not stopped ≡ true → d.stopped ≡ false
going_on false d is going = sym is
going_on true d is going = absurd (false≢true going)

-- a write, from which clean groups may have given way
pub fit_written : (r : Result (Unit {0}) SscError) (going stopped : Bool) (c d : Ssc) (a b : State) (lba : ℕ) (f : CacheList → CacheList) → FitTogether going c a.contents → going ≡ true → stopped ≡ d.stopped → geometry_of d ≡ geometry_of c
    → d.stopped ≡ stops r → OnOk r ((s : CacheList) → Holds c a.contents s → HoldsWritten d b.contents s lba f) → ((n l : ℕ) → IsErrOf r (Full n l) → (d ≡ c) × (b ≡ a)) → (IsErrOf r OutOfMemory → StillHolds c d a b)
    → FitTogether (not stopped) d b.contents
fit_written r going stopped c d a b lba f fit is_going is_stopped same stops_so holds full memory =
    let up = fit.up is_going in
    record {
      size = same_size c d same fit.size;
      up = λ goes_on.
          up_some r c d a b up stops_so (on_ok r (λ (k : (s : CacheList) → Holds c a.contents s → HoldsWritten d b.contents s lba f). let w = k up.list up.holds in (f w.left, w.holds)) holds) full memory
          (going_on stopped d is_stopped goes_on);
    }

-- a write that may wait
pub fit_buffered : (r : Result (Unit {0}) SscError) (going stopped : Bool) (c d : Ssc) (a b : State) (lba : ℕ) (f : CacheList → CacheList) (own : CacheList → Buffered) → FitTogether going c a.contents → going ≡ true → stopped ≡ d.stopped → geometry_of d ≡ geometry_of c
    → d.stopped ≡ stops r → OnOk r ((s : CacheList) (h : Holds c a.contents s) → HoldsBuffered d b.contents s h.waiting lba f own) → ((n l : ℕ) → IsErrOf r (Full n l) → (d ≡ c) × (b ≡ a)) → (IsErrOf r OutOfMemory → StillHolds c d a b)
    → FitTogether (not stopped) d b.contents
fit_buffered r going stopped c d a b lba f own fit is_going is_stopped same stops_so holds full memory =
    fit_written r going stopped c d a b lba f fit is_going is_stopped same stops_so
    (on_ok r (λ (k : (s : CacheList) (h : Holds c a.contents s) → HoldsBuffered d b.contents s h.waiting lba f own). λ s h. let w = k s h in record { left = w.left; vanish = w.vanish; holds = w.holds }) holds) full memory

-- any other command
pub fit_after : (r : Result (Unit {0}) SscError) (going stopped : Bool) (c d : Ssc) (a b : State) (f : CacheList → CacheList) → FitTogether going c a.contents → going ≡ true → stopped ≡ d.stopped → geometry_of d ≡ geometry_of c → d.stopped ≡ stops r
    → OnOk r ((s : CacheList) → Holds c a.contents s → Holds d b.contents (f s)) → ((n l : ℕ) → IsErrOf r (Full n l) → ⊥) → (IsErrOf r OutOfMemory → ⊥) → FitTogether (not stopped) d b.contents
fit_after r going stopped c d a b f fit is_going is_stopped same stops_so holds full memory =
    let up = fit.up is_going in
    record {
      size = same_size c d same fit.size;
      up = λ goes_on.
          up_some r c d a b up stops_so (on_ok r (λ (k : (s : CacheList) → Holds c a.contents s → Holds d b.contents (f s)). (f up.list, k up.list up.holds)) holds) (λ n l is. absurd (full n l is)) (λ is. absurd (memory is))
          (going_on stopped d is_stopped goes_on);
    }
