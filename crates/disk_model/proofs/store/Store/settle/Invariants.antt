use Rattle.std.proofs.Common.{◌≡◌, ℕ, vec_len}
use Rattle.disk_model.specs.StoreValues.{store_values}
use Rattle.ft_media.specs.Rig.{cut_value}
use Rattle.disk_model.proofs.store.Store.settle.Given as goal

abbrev pub invariant-loop-last : goal.invariant-loop-last
invariant-loop-last l = (a : ℕ) → cut_value l.outcome a (store_values l.self a) ≡ cut_value l.outcome a (store_values l.fn.self a)

abbrev pub decreases-loop-last : goal.decreases-loop-last
decreases-loop-last l = vec_len l.self.replaced
