use Rattle.std.proofs.Common.{◌≡◌, Bool, true, cond, nat_le, length, inl, refl, sym, subst, ap, ◌∙◌, arith}
use Rattle.std.proofs.lemmas.Result.{on_ok_weaker}
use Rattle.std.proofs.lemmas.Bool.{both_ways}
use Rattle.std.proofs.lemmas.Bool.Decides.{nat_tests}
use Rattle.ft_base.specs.Table.{is_full, last_size, without_last}
use Rattle.cached_disk.specs.Kept.{WritesDisk}
use Rattle.cached_disk.proofs.ReadLemmas.{stays_same}
use Rattle.write_back.specs.Left.{state_of}
use Rattle.write_back.specs.Writing.{flushes_made}
use Rattle.write_back.proofs.WriteLemmas.{full_is, none_back, room_left, room_there}
use Rattle.write_back.proofs.volume.WriteBack.make_room.Goals as goal

pub returns-then-has-clause-table : goal.returns-then-has-clause-table
returns-then-has-clause-table g c =
    let v = c.args.self.now in
    let n = v.disk.options.geometry in
    room_there n.p n.c c.args.group v.dirty.order _ (inl (sym c.if-has.ensures))

pub returns-then-has-clause-writes : goal.returns-then-has-clause-writes
returns-then-has-clause-writes g c =
    let v = c.args.self.now in
    let n = v.disk.options.geometry in
    none_back n.p n.c c.args.group v.dirty.order _ (g.M.Media.state c.args.media.now) (inl (sym c.if-has.ensures))

pub returns-clause-room : goal.returns-clause-room
returns-clause-room g c =
    let v = c.args.self.now in
    let to = c.write_oldest_back.ensures in
    on_ok_weaker c.write_oldest_back.result (room_left v c.write_oldest_back.new.self (g.M.Media.state c.args.media.now).contents (g.M.Media.state c.write_oldest_back.new.media).contents c.args.group c.requires.left c.requires.up to.steps.left to.steps.goes.told) to.table

pub returns-clause-table : goal.returns-clause-table
returns-clause-table g c =
    let v = c.args.self.now in
    let n = v.disk.options.geometry in
    let many : nat_le n.c (length v.dirty.order) ≡ true = grind (arith, nat_tests) in
    let full = full_is n.p n.c c.args.group v.dirty.order _ (sym c.if-has.ensures) many in
    on_ok_weaker c.write_oldest_back.result (λ is. is ∙ sym (ap (λ b. cond b (without_last (state_of v).table) (state_of v).table) full)) c.write_oldest_back.ensures.table

pub returns-clause-writes : goal.returns-clause-writes
returns-clause-writes g c =
    let v = c.args.self.now in
    let n = v.disk.options.geometry in
    let many : nat_le n.c (length v.dirty.order) ≡ true = grind (arith, nat_tests) in
    let full = full_is n.p n.c c.args.group v.dirty.order _ (sym c.if-has.ensures) many in
    subst (λ (b : Bool). WritesDisk (cond b (last_size (state_of v).table) 0) (g.M.Media.state c.args.media.now) (g.M.Media.state c.write_oldest_back.new.media) c.write_oldest_back.result) (sym full) c.write_oldest_back.ensures.writes

pub returns-clause-flushes : goal.returns-clause-flushes
returns-clause-flushes g c =
    let v = c.args.self.now in
    let n = v.disk.options.geometry in
    let many : nat_le n.c (length v.dirty.order) ≡ true = grind (arith, nat_tests) in
    let full = full_is n.p n.c c.args.group v.dirty.order _ (sym c.if-has.ensures) many in
    let one : flushes_made n.c c.args.group (state_of v).table ≡ 1 = ap (λ b. cond b 1 0) full in
    let most = c.write_oldest_back.ensures.flushes in
    omega (arith, one, most)

pub returns-clause-there : goal.returns-clause-there
returns-clause-there g c = λ not.
    let v = c.args.self.now in
    let n = v.disk.options.geometry in
    let many : nat_le n.c (length v.dirty.order) ≡ true = grind (arith, nat_tests) in
    absurd (both_ways (is_full n.c c.args.group (state_of v).table) not (full_is n.p n.c c.args.group v.dirty.order _ (sym c.if-has.ensures) many))

pub returns-then-has-clause-keeps : goal.returns-then-has-clause-keeps
returns-then-has-clause-keeps g c = let old = (g.M.Media.state c.args.media.now).contents in stays_same c.args.self.now.disk c.args.self.now.disk old old refl refl

pub returns-then-len-c-clause-keeps : goal.returns-then-len-c-clause-keeps
returns-then-len-c-clause-keeps g c = let old = (g.M.Media.state c.args.media.now).contents in stays_same c.args.self.now.disk c.args.self.now.disk old old refl refl
