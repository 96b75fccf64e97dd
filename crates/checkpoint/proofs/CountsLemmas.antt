-- Counts that rise by one at a time, up to their last value.
use Rattle.std.proofs.Common.{◌≡◌, ℕ, false, ◌+◌, ◌*◌, ◌≤◌, ◌∙◌, ap, ap₂, subst, arith}
use Rattle.ft_base.specs.declared.geometry.Geometry.{Geometry}
use Rattle.ft_base.specs.Count.{last_count}
use Rattle.ft_base.specs.Layout.{k}
use Rattle.ft_media.specs.declared.rig.Counts.{Counts}
use Rattle.ft_media.specs.Media.{program_counted, erase_counted}
use Rattle.ft_media.specs.Passes.{Passes, ProgramsPages}
use Rattle.ft_media.specs.State.{State}
use Rattle.ft_media.proofs.PassesLemmas.{spends_after}
use Rattle.checkpoint.specs.Counts.{raised, erases_counted, programs_counted, checkpoint_counted, format_counted}

raised_none : (c : ℕ) → c ≤ last_count → c ≡ raised 0 c
raised_none c low = omega arith

raised_then : (a b c : ℕ) → raised b (raised a c) ≡ raised (a + b) c
raised_then a b c = omega arith

pub erases_none : (c : Counts) → c.erases ≤ last_count → c ≡ erases_counted 0 c
erases_none c low = ap (λ n. record c { erases = n }) (raised_none c.erases low)

pub programs_none : (c : Counts) → c.programs ≤ last_count → c ≡ programs_counted 0 c
programs_none c low = ap (λ n. record c { programs = n }) (raised_none c.programs low)

pub erases_then : (a b : ℕ) (first mid last : Counts) → mid ≡ erases_counted a first → last ≡ erases_counted b mid → last ≡ erases_counted (a + b) first
erases_then a b first mid last is is' = is' ∙ ap (erases_counted b) is ∙ ap (λ n. record first { erases = n }) (raised_then a b first.erases)

programs_then : (a b : ℕ) (first mid last : Counts) → mid ≡ programs_counted a first → last ≡ programs_counted b mid → last ≡ programs_counted (a + b) first
programs_then a b first mid last is is' = is' ∙ ap (programs_counted b) is ∙ ap (λ n. record first { programs = n }) (raised_then a b first.programs)

-- one more
pub erases_more : (i : ℕ) (first now next : Counts) → now ≡ erases_counted i first → next ≡ erase_counted now → next ≡ erases_counted (i + 1) first
erases_more i first now next is is' = erases_then i 1 first now next is is'

pub programs_more : (i : ℕ) (first now next : Counts) → now ≡ programs_counted i first → next ≡ program_counted now → next ≡ programs_counted (i + 1) first
programs_more i first now next is is' = programs_then i 1 first now next is is'

-- a region was erased, and then its log
pub regions_erased : (g : Geometry) (n : ℕ) (first mid last : Counts) → n ≡ k g → mid ≡ erases_counted n first → last ≡ erases_counted g.j mid → last ≡ erases_counted (k g + g.j) first
regions_erased g n first mid last same is is' = subst (λ m. last ≡ erases_counted (m + g.j) first) same (erases_then n g.j first mid last is is')

-- the regions were erased, the map pages programmed, and then the seal
pub checkpoint_made : (g : Geometry) (n pages : ℕ) (first erased mapped last : Counts) → n ≡ pages → erased ≡ erases_counted (k g + g.j) first → mapped ≡ programs_counted n erased → last ≡ program_counted mapped → last ≡ checkpoint_counted g pages first
checkpoint_made g n pages first erased mapped last same is is' is'' = programs_more n erased mapped last is' is'' ∙ ap₂ (λ m c. programs_counted (m + 1) c) same is

pub format_made : (g : Geometry) (n : ℕ) (first erased last : Counts) → n ≡ 2 * k g + g.j → erased ≡ erases_counted n first → last ≡ program_counted erased → last ≡ format_counted g first
format_made g n first erased last same is is' = is' ∙ ap program_counted is ∙ ap (λ m. programs_counted 1 (erases_counted m first)) same

-- calls before a call program at least as many pages together with it
pub programs_after : (a b c : State) (n : ℕ) → Passes a b false → ProgramsPages n b c → ProgramsPages n a c
programs_after a b c n passes then = record {
  count = let first = passes.counts.programs in let later = then.count in omega (arith, first, later);
  spends = spends_after a b c n passes then.spends;
}
