use Rattle.std.proofs.Common.{ap, subst}
use Rattle.ft_base.specs.declared.record.Record.{Record}
use Rattle.cache_model.specs.Entries.{IsInReach}
use Rattle.mapping.specs.Ranges.{first_of, count_of, group_of}
use Rattle.mapping.proofs.RangeLemmas.{page_is, pages_are}
use Rattle.mapping.proofs.ranges.span_of.Goals as goal

pub returns-in-SetPage : goal.returns-in-SetPage
returns-in-SetPage c =
    let g = c.args.geometry.now in
    let reach = subst (λ (r : Record). IsInReach g r) c.in-SetPage.is c.requires in
    page_is g c.args.change.now c.in-SetPage.lba _ (ap (group_of g) c.in-SetPage.is) (ap (first_of g) c.in-SetPage.is) (ap (count_of g) c.in-SetPage.is) reach c.page_of.ensures.group c.page_of.ensures.first c.page_of.ensures.count c.page_of.ensures.within

pub returns-in-Remove : goal.returns-in-Remove
returns-in-Remove c =
    let g = c.args.geometry.now in
    let reach = subst (λ (r : Record). IsInReach g r) c.in-Remove.is c.requires in
    page_is g c.args.change.now c.in-Remove.lba _ (ap (group_of g) c.in-Remove.is) (ap (first_of g) c.in-Remove.is) (ap (count_of g) c.in-Remove.is) reach c.page_of-in-Remove.ensures.group c.page_of-in-Remove.ensures.first c.page_of-in-Remove.ensures.count c.page_of-in-Remove.ensures.within

pub returns-in-Clean : goal.returns-in-Clean
returns-in-Clean c =
    let g = c.args.geometry.now in
    let reach = subst (λ (r : Record). IsInReach g r) c.in-Clean.is c.requires in
    page_is g c.args.change.now c.in-Clean.lba _ (ap (group_of g) c.in-Clean.is) (ap (first_of g) c.in-Clean.is) (ap (count_of g) c.in-Clean.is) reach c.page_of-in-Clean.ensures.group c.page_of-in-Clean.ensures.first c.page_of-in-Clean.ensures.count c.page_of-in-Clean.ensures.within

pub returns-in-SetGroup : goal.returns-in-SetGroup
returns-in-SetGroup c =
    let g = c.args.geometry.now in
    let reach = subst (λ (r : Record). IsInReach g r) c.in-SetGroup.is c.requires in
    pages_are g c.args.change.now c.in-SetGroup.group _ (ap (group_of g) c.in-SetGroup.is) (ap (first_of g) c.in-SetGroup.is) (ap (count_of g) c.in-SetGroup.is) reach.0 c.pages_of.ensures

pub returns-in-RemoveGroup : goal.returns-in-RemoveGroup
returns-in-RemoveGroup c =
    let g = c.args.geometry.now in
    let reach = subst (λ (r : Record). IsInReach g r) c.in-RemoveGroup.is c.requires in
    pages_are g c.args.change.now c.in-RemoveGroup.group _ (ap (group_of g) c.in-RemoveGroup.is) (ap (first_of g) c.in-RemoveGroup.is) (ap (count_of g) c.in-RemoveGroup.is) reach c.pages_of-in-RemoveGroup.ensures
