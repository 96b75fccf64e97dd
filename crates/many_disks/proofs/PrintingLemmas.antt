-- Lines that are printed with the addresses of a disk.
use Rattle.std.proofs.Common.{◌≡◌, ◌++◌, ℕ, List, map, get_or, sym, ap, ◌∙◌}
use Rattle.std.proofs.Math.ListN.{get_or-map}
use Rattle.trace_model.specs.declared.answer.Answer.{Answer}
use Rattle.trace_model.specs.Text.{text_of}
use Rattle.many_disks.specs.Told.{own}

-- the next line was put behind the others
pub own_line : (start : ℕ) (answers : List Answer) (i : ℕ) (any one : Answer) (lines more : List ℕ) → one ≡ own start (get_or answers i any) → more ≡ lines ++ text_of one → more ≡ lines ++ text_of (get_or (map (own start) answers) i (own start any))
own_line start answers i any one lines more is put = put ∙ ap (λ (a : Answer). lines ++ text_of a) (is ∙ sym (get_or-map (own start) answers i any))
