use Rattle.std.proofs.Common.{◌≡◌, ◌++◌, ap, ◌∙◌, arith}
use Rattle.sha2.specs.Sha256.{sha256}
use Rattle.sealed_media.specs.declared.page.RawPage.{RawPage}
use Rattle.sealed_media.specs.Seal.{top_cleared, seal_of, joined_page}
use Rattle.sealed_media.proofs.SealLemmas.{has_seal, is_whole}
use Rattle.sealed_media.proofs.sealing.seal.Goals as goal

pub returns-clause-page : goal.returns-clause-page
unfolding seal_of
returns-clause-page c =
    let b = c.args.block.now.0 in
    let s = c.args.spare.now.0 in
    let holds = c.update-2.ensures _ (c.update.ensures _ c.new-hasher.ensures) in
    let digest = c.finalize.ensures _ holds in
    let parts = ap (λ l. l ++ c.as_slice-2.result.now) c.as_slice.ensures ∙ ap (λ l. b ++ l) c.as_slice-2.ensures in
    c.join.ensures ∙ ap (joined_page c.args.block.now c.args.spare.now) (c.cleared.ensures ∙ ap top_cleared (digest ∙ ap sha256 parts))

bytes : (c : goal.After-join) → c.join.result.0 ≡ (c.args.block.now.0 ++ c.args.spare.now.0) ++ seal_of (c.args.block.now.0 ++ c.args.spare.now.0)
unfolding joined_page
bytes c = ap (λ (p : RawPage). p.0) (returns-clause-page c)

pub returns-clause-sealed : goal.returns-clause-sealed
returns-clause-sealed c = has_seal c.join.result c.args.block.now c.args.spare.now (omega arith) (omega arith) (omega arith) (bytes c)

pub returns-clause-whole : goal.returns-clause-whole
returns-clause-whole c = is_whole c.join.result c.args.block.now c.args.spare.now (omega arith) (omega arith) (omega arith) (bytes c)
