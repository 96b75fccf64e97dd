use Rattle.std.proofs.Common.{Bor, List, ℕ, ◌≡◌, ◌∙◌, refl, inr, true, false, Some, rules}
use Rattle.csv.specs.Reading.{Ready, strip_bom}
use Rattle.csv.specs.Records.{fields_of}
use Rattle.msr_trace.proofs.RecordLemmas.{read_none, read_one, read_two}
use Rattle.msr_trace.proofs.read.only_record.Goals as goal

pub returns-then-not-found-clause-none : goal.returns-then-not-found-clause-none
returns-then-not-found-clause-none c =
    let fr = c.from_reader-reader.ensures in
    let flexible = c.flexible.ensures in
    let named = c.has_headers.ensures in
    let trims = rw (flexible, named) at fr.trim ∙ c.new.ensures.trim in
    let config = rw (flexible, named) at fr.config ∙ c.new.ensures.config in
    let ready : Ready c.from_reader-reader.result = inr (inr (rw (flexible, named) at fr.has_headers, fr.headers)) in
    let none : c.in-Ok.found ≡ false = search rules in
    read_none (λ (s : Bor (List ℕ)). Some s.now) c.from_reader-reader.result c.read_byte_record.new.self (fields_of c.read_byte_record.new.row) (strip_bom c.args.line.now) config fr.state fr.source
    (rw none at (c.in-Ok.ensures.reads trims ready))

pub returns-then-again-clause-more : goal.returns-then-again-clause-more
returns-then-again-clause-more c =
    let fr = c.from_reader-reader.ensures in
    let flexible = c.flexible.ensures in
    let named = c.has_headers.ensures in
    let trims = rw (flexible, named) at fr.trim ∙ c.new.ensures.trim in
    let config = rw (flexible, named) at fr.config ∙ c.new.ensures.config in
    let ready : Ready c.from_reader-reader.result = inr (inr (rw (flexible, named) at fr.has_headers, fr.headers)) in
    let some : c.in-Ok.found ≡ true = search rules in
    let more : c.in-Ok-read_byte_record.again ≡ true = search rules in
    let on = c.in-Ok.ensures.reads_on some in
    let two =
    read_two (λ (s : Bor (List ℕ)). Some s.now) c.from_reader-reader.result c.read_byte_record.new.self (fields_of c.read_byte_record.new.row) (strip_bom c.args.line.now) config fr.state fr.source
    c.read_byte_record-2.new.self (fields_of c.read_byte_record-2.new.row)
    (rw some at (c.in-Ok.ensures.reads trims ready))
    (rw more at (c.in-Ok-read_byte_record.ensures.reads (on.1 ∙ trims) (on.4 ready).0))
    in
    (refl, two.0, two.1, two.2, two.3)

pub returns-clause-one : goal.returns-clause-one
returns-clause-one c =
    let fr = c.from_reader-reader.ensures in
    let flexible = c.flexible.ensures in
    let named = c.has_headers.ensures in
    let trims = rw (flexible, named) at fr.trim ∙ c.new.ensures.trim in
    let config = rw (flexible, named) at fr.config ∙ c.new.ensures.config in
    let ready : Ready c.from_reader-reader.result = inr (inr (rw (flexible, named) at fr.has_headers, fr.headers)) in
    let some : c.in-Ok.found ≡ true = search rules in
    let none : c.in-Ok-read_byte_record.again ≡ false = search rules in
    let on = c.in-Ok.ensures.reads_on some in
    read_one (λ (s : Bor (List ℕ)). Some s.now) c.from_reader-reader.result c.read_byte_record.new.self (fields_of c.read_byte_record.new.row) (strip_bom c.args.line.now) config fr.state fr.source
    c.read_byte_record-2.new.self (fields_of c.read_byte_record-2.new.row)
    (rw some at (c.in-Ok.ensures.reads trims ready))
    (rw none at (c.in-Ok-read_byte_record.ensures.reads (on.1 ∙ trims) (on.4 ready).0))
