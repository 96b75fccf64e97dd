use Rattle.cache_model.proofs.UndoLemmas.{left_push, owed_push, undo_own}
use Rattle.cache_laws.proofs.ShowLemmas.{show_push}
use Rattle.cache_laws.proofs.laws.one_more_is_buffered.Goals as goal

pub returns : goal.returns
returns c = record { crash = undo_own; left = left_push; shows = show_push; owed = owed_push }
