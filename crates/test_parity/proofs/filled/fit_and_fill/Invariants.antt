use Rattle.std.proofs.Common.{◌≡◌, Some}
use Rattle.test_parity.proofs.filled.fit_and_fill.Given as goal

abbrev pub invariant-loop-page : goal.invariant-loop-page
invariant-loop-page g l = record {
  ready : (g.R.Media.state l.rig).contents.flash.next 0 ≡ Some l.page;
  shape : (g.R.Media.state l.rig).contents.shape ≡ record { blocks = 1; pages = l.pages; size = 1 };
}
