use Rattle.std.proofs.Common.{sym, arith}
use Rattle.std.proofs.lemmas.Bool.{both_ways}
use Rattle.ft_media.specs.declared.media.PageRead.TheVariants as read
use Rattle.sealed_media.specs.Seal.{IsErased}
use Rattle.sealed_media.proofs.SealLemmas.{blank_so, whole_so, torn_so, whole_exactly, blank_exactly}
use Rattle.sealed_media.proofs.sealing.classify.Goals as goal

pub returns-then-all_ff-clause-found : goal.returns-then-all_ff-clause-found
unfolding IsErased
returns-then-all_ff-clause-found c = sym (blank_so c.args.page.now (c.all_ff.ensures.0 c.if-all_ff.true))

pub returns-then-all_ff-clause-whole : goal.returns-then-all_ff-clause-whole
returns-then-all_ff-clause-whole c = whole_exactly c.args.page.now read.Blank (returns-then-all_ff-clause-found c) (omega arith)

pub returns-then-all_ff-clause-blank : goal.returns-then-all_ff-clause-blank
returns-then-all_ff-clause-blank c = blank_exactly c.args.page.now read.Blank (returns-then-all_ff-clause-found c)

pub returns-then-is_sealed-clause-found : goal.returns-then-is_sealed-clause-found
unfolding IsErased
returns-then-is_sealed-clause-found c = sym (whole_so c.args.page.now (λ erased. both_ways c.all_ff.result c.if-all_ff.false (c.all_ff.ensures.1 erased)) (c.is_sealed.ensures.sealed.0 c.if-is_sealed.true))

pub returns-then-is_sealed-clause-whole : goal.returns-then-is_sealed-clause-whole
returns-then-is_sealed-clause-whole c = whole_exactly c.args.page.now read.Whole (returns-then-is_sealed-clause-found c) (omega arith)

pub returns-then-is_sealed-clause-blank : goal.returns-then-is_sealed-clause-blank
returns-then-is_sealed-clause-blank c = blank_exactly c.args.page.now read.Whole (returns-then-is_sealed-clause-found c)

pub returns-clause-found : goal.returns-clause-found
unfolding IsErased
returns-clause-found c = sym (torn_so c.args.page.now (λ erased. both_ways c.all_ff.result c.if-all_ff.false (c.all_ff.ensures.1 erased)) (λ sealed. both_ways c.is_sealed.result c.if-is_sealed.false (c.is_sealed.ensures.sealed.1 sealed)))

pub returns-clause-blank : goal.returns-clause-blank
returns-clause-blank c = blank_exactly c.args.page.now read.Torn (returns-clause-found c)
