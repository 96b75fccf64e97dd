use Rattle.std.proofs.Common.{◌≡◌, refl, sym, ◌∙◌, ap, rules}
use Rattle.std.specs.List.{list_any}
use Rattle.std.proofs.lemmas.Result.{on_ok_weaker}
use Rattle.ft_base.specs.declared.told.Ack.TheVariants as kind
use Rattle.cache_model.specs.Cache.{is_write}
use Rattle.cached_disk.proofs.ReadLemmas.{stays_same}
use Rattle.write_back.proofs.cleaning.settle_writes.Goals as goal

pub returns-in-Write-clause-serves : goal.returns-in-Write-clause-serves
returns-in-Write-clause-serves g c =
    let v = c.args.disk.now in
    let old = (g.M.Media.state c.args.media.now).contents in
    record {
      left = c.requires.may.left;
      keeps = stays_same v v old old refl refl;
      found = λ owed owes base stand. tt;
      goes = search rules;
      dirty = search rules;
      made = search rules;
      within = search rules;
    }

pub returns-in-Write-clause-settled : goal.returns-in-Write-clause-settled
returns-in-Write-clause-settled g c = (c.requires.may.left.up c.requires.may.up).may_undo.at_write (sym c.ack.ensures ∙ c.in-Write.is)

pub returns-in-Flush-clause-settled : goal.returns-in-Flush-clause-settled
returns-in-Flush-clause-settled g c = on_ok_weaker c.flush.result (λ none. ap (list_any is_write) none) c.flush.ensures.nothing_waits

pub returns-in-Flush-clause-at_write : goal.returns-in-Flush-clause-at_write
returns-in-Flush-clause-at_write g c = λ at_write. absurd (let both : kind.Write ≡ kind.Flush = sym at_write ∙ sym c.ack.ensures ∙ c.in-Flush.is in cc)
