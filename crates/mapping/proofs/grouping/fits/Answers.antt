use Rattle.mapping.proofs.GroupFits.{remove_decides, clean_decides, remove_group_decides}
use Rattle.mapping.proofs.grouping.fits.Goals as goal

pub returns-in-Remove : goal.returns-in-Remove
returns-in-Remove c = rw c.in-Remove.is (remove_decides c.args.geometry.now c.args.held.now.entries c.in-Remove.lba c.requires.indexed.map)

pub returns-in-Clean : goal.returns-in-Clean
returns-in-Clean c = rw c.in-Clean.is (clean_decides c.args.geometry.now c.args.held.now.entries c.in-Clean.lba c.requires.indexed.map)

pub returns-in-RemoveGroup : goal.returns-in-RemoveGroup
returns-in-RemoveGroup c = rw c.in-RemoveGroup.is (remove_group_decides c.args.geometry.now c.args.held.now.entries c.in-RemoveGroup.group c.requires.indexed.map)
