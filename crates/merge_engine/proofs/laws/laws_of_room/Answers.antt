use Rattle.merge_engine.proofs.RoomLemmas.{gave_vanish, gives_again}
use Rattle.merge_engine.proofs.laws.laws_of_room.Goals as goal

pub returns : goal.returns
returns c = record { vanish = gave_vanish; again = gives_again }
