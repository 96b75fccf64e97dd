-- The power of a rig in memory.
use Rattle.std.specs.Prelude.{take, length, ◌≤◌}
use Rattle.std.proofs.Common.{arith}
use Rattle.std.proofs.lemmas.List.{length-take}
use Rattle.ft_base.specs.declared.power.Stop.{Stop}
use Rattle.ft_media.specs.State.{Power}
use Rattle.mem_rig.specs.declared.supply.Supply.{Supply}

abbrev pub power_of : Supply → Power
power_of supply = record { on = supply.on; stops = take supply.armed supply.room; rest = supply.rest }

pub few_stops : (supply : Supply) → length (power_of supply).stops ≤ 16
few_stops supply = grind (arith, length-take {A = Stop}, supply.few)
