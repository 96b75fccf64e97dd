use Rattle.std.proofs.Common.{ℕ, Option, None, rules, refl, ap, ◌∙◌, replicate}
use Rattle.mapping.proofs.TallyLemmas.{no_index}
use Rattle.mapping.proofs.index.Index.new.Goals as goal

nobody : Option ℕ
nobody = None

pub returns : goal.returns
unfolding nobody
returns c = no_index c.args.geometry.now _ nobody refl (c.in_ok-owners.ensures.items_if_clones_equal (λ y same. search rules) ∙ ap (λ n. replicate n nobody) c.pool_pages.ensures.count) (c.in_ok-pages.ensures.items_if_clones_equal (λ y same. same)) refl refl refl
