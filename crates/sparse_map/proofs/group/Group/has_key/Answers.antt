use Rattle.std.proofs.Common.{◌≡◌, ℕ, true, Some, List, Option, ap, sym, ◌∙◌, arith}
use Rattle.std.specs.Prelude.{option_map, is_some}
use Rattle.std.proofs.lemmas.Bool.{false≢true}
use Rattle.std.proofs.lemmas.Option.{same_Some}
use Rattle.sparse_map.specs.Slots.{slot_at, key_at}
use Rattle.sparse_map.specs.Groups.{slots_in}
use Rattle.sparse_map.proofs.GroupLemmas.{place_of, item_read}
use Rattle.sparse_map.proofs.SlotLemmas.{is_some-key_at}
use Rattle.sparse_map.proofs.group.Group.has_key.Goals as goal

has_slot : {V : Type 0} (s : List (Option (ℕ × V))) (k key : ℕ) → key_at s k ≡ Some key → is_some (slot_at s k) ≡ true
has_slot s k key has = sym (is_some-key_at s k) ∙ ap is_some has

pub returns-then-place-len : goal.returns-then-place-len
returns-then-place-len g c =
    let u = c.args.self.now in
    let k = c.args.k in (
      λ no. absurd (false≢true no),
      λ has.
          let few = place_of u k c.requires.within (has_slot (slots_in u) k c.args.key has) in
          absurd (omega (arith, few, c.if-place-len.true, c.len.ensures, c.requires.place)),
    )

pub returns-then-index-key : goal.returns-then-index-key
returns-then-index-key g c =
    let u = c.args.self.now in
    let k = c.args.k in
    let x = c.index.result.now in (
      λ no. absurd (false≢true no),
      λ has.
          let is = item_read u k c.requires.within c.args.place x (has_slot (slots_in u) k c.args.key has) c.requires.place c.index.ensures in
          absurd (c.if-index-key.true (same_Some x.0 c.args.key (sym (ap (option_map (λ e. e.0)) is) ∙ has))),
    )

pub returns : goal.returns
returns g c =
    let u = c.args.self.now in
    let k = c.args.k in (
      λ on.
          let is = item_read u k c.requires.within c.args.place c.index.result.now (sym c.is_occupied.ensures ∙ on) c.requires.place c.index.ensures in
          ap (option_map (λ e. e.0)) is ∙ ap Some c.if-index-key.false,
      λ has. c.is_occupied.ensures ∙ has_slot (slots_in u) k c.args.key has,
    )
