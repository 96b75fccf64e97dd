use Rattle.std.proofs.Common.{◌≡◌, List, ℕ, ap, ◌∙◌}
use Rattle.rand_core.specs.Steps.{fill_via_u32}
use Rattle.rand_core.specs.Pcg32Seed.{pcg32_seed}
use Rattle.rand_pcg.specs.Lcg.{Lcg}
use Rattle.rand_pcg.specs.Pcg.{pcg32, pcg32_of_seed}
use Rattle.sealed_media.specs.Tearing.{seed_at, drawn_page}
use Rattle.sealed_media.proofs.tearing.draw.Goals as goal

pub returns : goal.returns
unfolding drawn_page
returns c =
    let words = c.seed_from_u64-words.ensures ∙ ap (λ s. pcg32_of_seed (pcg32_seed 16 s)) c.seed_at.ensures in
    let bytes : c.fill_bytes_via_u32.new.dst ≡ (fill_via_u32 pcg32 4160 (pcg32_of_seed (pcg32_seed 16 (seed_at c.args.number c.args.at)))).0 =
    ap (λ (p : List ℕ × Lcg). p.0) c.fill_bytes_via_u32.ensures ∙ ap (λ (g : Lcg). (fill_via_u32 pcg32 4160 g).0) words in
    λ i. record { 0 = bytes i }
