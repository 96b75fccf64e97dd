use Rattle.std.proofs.Common.{◌≡◌, ◌+◌, ◌*◌, ◌<◌, ◌++◌, ℕ, [], ◌∷◌, List, Vec, Global, arith, sym, ◌∙◌, ap, subst}
use Rattle.cached_disk.specs.Kept.{dirty_of}
use Rattle.write_back.specs.Cleaning.{is_among}
use Rattle.write_back.proofs.GroupLemmas.{GroupSoFar, bit_dirty, group_listed, group_passed, group_pushed}
use Rattle.write_back.proofs.cleaning.dirty_in_group.Goals.{then-contains+in_ok-push, else-contains}
use Rattle.write_back.proofs.cleaning.dirty_in_group.Goals as goal

pub loop-page-preserved : goal.loop-page-preserved
loop-page-preserved c =
    let v = c.args.disk.now in
    let group = c.args.group in
    let page = c.loop-page.page in
    let p = v.options.geometry.p in
    let lbas = c.loop-page.lbas.items in
    let low : page < p = omega (arith, c.loop-page-test.true, c.p-pages.ensures) in
    let bit : c.contains.result ≡ is_among (dirty_of v) (group * p + page) = c.contains.ensures ∙ bit_dirty v c.requires.may.0 c.requires.may.1.left c.requires.may.1.up group c.dirty_bits-dirty.result c.dirty_bits-dirty.ensures.list page low in
    elim c.if-contains.branch [
      | then-contains+in_ok-push w ↦
          let own : c.if-contains.lbas.items ≡ lbas ++ (group * p + page) ∷ [] = ap (λ (l : Vec ℕ Global). l.items) w.lbas-is ∙ w.in_ok-push.ensures.items ∙ ap (λ (n : ℕ). lbas ++ (group * n + page) ∷ []) c.p-pages.ensures in
          subst (λ (l : List ℕ). GroupSoFar p group (page + 1) (dirty_of v) l) (sym own) (group_pushed p group page (dirty_of v) lbas low c.loop-page.invariant (sym bit ∙ w.if-contains.true))
      | else-contains w ↦
          let own : c.if-contains.lbas.items ≡ lbas = ap (λ (l : Vec ℕ Global). l.items) w.lbas-is in
          subst (λ (l : List ℕ). GroupSoFar p group (page + 1) (dirty_of v) l) (sym own) (group_passed p group page (dirty_of v) lbas low c.loop-page.invariant (sym bit ∙ w.if-contains.false))
    ]

pub returns : goal.returns
returns c =
    let v = c.args.disk.now in
    let p = v.options.geometry.p in
    let all : c.loop-page.page ≡ p = omega (arith, c.loop-page-test.false, c.loop-page.auto.page-end, c.p-pages.ensures) in
    group_listed v c.requires.may.0 c.requires.may.1.left c.requires.may.1.up c.args.group c.loop-page.lbas.items
    (subst (λ (n : ℕ). GroupSoFar p c.args.group n (dirty_of v) c.loop-page.lbas.items) all c.loop-page.invariant)
