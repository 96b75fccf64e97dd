use Rattle.std.proofs.Common.{◌++◌, ◌∙◌, Ok, List, ℕ, ap, sym}
use Rattle.std.proofs.lemmas.Result.{on_ok_weaker}
use Rattle.mapping.specs.MapValue.{MapValue}
use Rattle.ssc.specs.CacheState.{entries_of}
use Rattle.ssc.proofs.ListedLemmas.{listed_alike}
use Rattle.ssc.proofs.OpenLemmas.{loaded_alike}
use Rattle.ssc.proofs.opening.LoadedCache.exists.Goals as goal

pub returns-clause-done : goal.returns-clause-done
returns-clause-done c = on_ok_weaker c.list_between.result (λ done g page s is stands.
    let m = entries_of c.args.self.now.cache in
    let loads = is.is_loaded.loads ∙ ap (λ (k : MapValue). Ok k.entries) (sym is.parts.map) in
    done ∙ ap (λ (l : List ℕ). c.args.out.now.items ++ l) (listed_alike m s (loaded_alike g page m s loads stands) c.args.from c.args.count)) c.list_between.ensures.done
