-- What is shown while one more command is buffered.
use Rattle.std.proofs.Common.{◌≡◌, List, [], ◌∷◌, ◌++◌, sym, subst}
use Rattle.ft_base.specs.PlainDisk.{PlainDisk}
use Rattle.cache_model.specs.Cache.{Buffered, taken_back, ShowsClean, ShowEach}
use Rattle.cache_model.specs.CacheList.{CacheList}
use Rattle.cache_model.proofs.UndoLemmas.{undo_own}

pub show_push : (q : List Buffered) (own : Buffered) (s s' : CacheList) (disk : PlainDisk) → taken_back own s' ≡ s → ShowsClean s' disk → ShowEach q s disk → ShowEach (q ++ own ∷ []) s' disk
show_push [] own s s' disk back shows each = (subst (λ (t : CacheList). ShowsClean t disk) (sym back) each, shows)
show_push (b ∷ q) own s s' disk back shows each = (subst (λ (t : CacheList). ShowsClean (taken_back b t) disk) (sym (undo_own q own s s' back)) each.0, show_push q own s s' disk back shows each.1)
