-- What a run is over where no word says otherwise.
use Rattle.std.specs.Prelude.{◌≡◌}
use Rattle.ft_base.specs.Told.{Told}
use Rattle.ft_base.specs.declared.told.Ack.TheVariants.{Write}
use Rattle.ft_base.specs.declared.told.Mode.TheVariants.{Back}

-- a volume that writes back, of these numbers, each write of which is on the media when it answers; an idle step leaves
-- half as many dirty groups alone as there may be
pub record IsDefault (o : Told) : Type 0 where
  pub mode : o.mode ≡ Back
  pub ack : o.ack ≡ Write
  pub pages : o.geometry.p ≡ 64
  pub data_blocks : o.geometry.c ≡ 128
  pub log_blocks : o.geometry.l ≡ 16
  pub journal : o.geometry.j ≡ 2
  pub size : o.geometry.size ≡ 1048576
  pub dirty : o.dirty ≡ 64
