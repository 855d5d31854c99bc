use Rattle.std.proofs.Common.{◌≡◌, ◌+◌, Ok, ap, ◌∙◌}
use Rattle.std.proofs.lemmas.Result.{MatchResult-at_ok, MatchResult-at_err, err_from_is_err_and}
use Rattle.mcb_ends.specs.Lines.{next_of}
use Rattle.mcb_ends.specs.Reader.{HandsOut, IsUnchanged}
use Rattle.mcb_ends.specs.declared.failed.Failed.{Failed}
use Rattle.mcb_ends.specs.declared.line.Line.{Line}
use Rattle.mcb_ends.specs.declared.line.Line.TheVariants.{End}
use Rattle.line_grammar.proofs.Steps.{stops_here, stops_before, ends_text, goes_on}
use Rattle.line_grammar.proofs.due_line.end_of_input.Goals as goal

pub returns-in_err-next-clause-stops : goal.returns-in_err-next-clause-stops
returns-in_err-next-clause-stops g c =
    let left = g.S.Source.left in
    let old = c.args.lines.now in
    let new = c.next.follows.lender-at-none in
    let a = left c.args.src.now in
    let b = left c.next.new.src in
    let same = MatchResult-at_err (λ (line : Line). HandsOut old new a b (next_of line))
    (λ (_ : Failed). IsUnchanged old new a b) c.in_err-next.field-0.0 c.in_err-next.was
    c.next.follows.holds-at-none in
    stops_before old new a b c.requires.reading c.next.ensures.ahead same

pub returns-in_err-next-clause-reads : goal.returns-in_err-next-clause-reads
returns-in_err-next-clause-reads g c =
    let left = g.S.Source.left in
    let old = c.args.lines.now in
    let new = c.next.follows.lender-at-none in
    let a = left c.args.src.now in
    let b = left c.next.new.src in
    let same = MatchResult-at_err (λ (line : Line). HandsOut old new a b (next_of line))
    (λ (_ : Failed). IsUnchanged old new a b) c.in_err-next.field-0.0 c.in_err-next.was
    c.next.follows.holds-at-none in
    let p = err_from_is_err_and c.from_residual.result c.from_residual.ensures.1 in
    rw (p.1, p.2) (record { due = tt; reached = tt; stops = stops_before old new a b c.requires.reading c.next.ensures.ahead same })

pub returns-in-End-clause-stops : goal.returns-in-End-clause-stops
returns-in-End-clause-stops g c =
    let left = g.S.Source.left in
    let old = c.args.lines.now in
    let new = c.next.follows.lender-at-none in
    let a = left c.args.src.now in
    let b = left c.next.new.src in
    let hands = MatchResult-at_ok (λ (line : Line). HandsOut old new a b (next_of line))
    (λ (_ : Failed). IsUnchanged old new a b) c.in_ok-next.field-0 c.in_ok-next.was
    c.next.follows.holds-at-none in
    stops_here old new a b (next_of c.in_ok-next.field-0) c.requires.reading c.next.ensures.ahead hands

pub returns-in-Text-clause-stops : goal.returns-in-Text-clause-stops
returns-in-Text-clause-stops g c =
    let left = g.S.Source.left in
    let old = c.args.lines.now in
    let new = c.next.follows.lender-at-none in
    let a = left c.args.src.now in
    let b = left c.next.new.src in
    let hands = MatchResult-at_ok (λ (line : Line). HandsOut old new a b (next_of line))
    (λ (_ : Failed). IsUnchanged old new a b) c.in_ok-next.field-0 c.in_ok-next.was
    c.next.follows.holds-at-none in
    stops_here old new a b (next_of c.in_ok-next.field-0) c.requires.reading c.next.ensures.ahead hands

pub returns-in-End-clause-reads : goal.returns-in-End-clause-reads
returns-in-End-clause-reads g c =
    let left = g.S.Source.left in
    let old = c.args.lines.now in
    let new = c.next.follows.lender-at-none in
    let a = left c.args.src.now in
    let b = left c.next.new.src in
    let was : c.next.result ≡ Ok End = c.in_ok-next.was ∙ ap (λ (line : Line). Ok line) c.in-End.is in
    let hands = MatchResult-at_ok (λ (line : Line). HandsOut old new a b (next_of line)) (λ (_ : Failed). IsUnchanged old new a b) End was
    c.next.follows.holds-at-none in
    ends_text old new a b c.requires.reading hands

pub returns-in-Text-clause-reads : goal.returns-in-Text-clause-reads
returns-in-Text-clause-reads g c =
    let left = g.S.Source.left in
    let old = c.args.lines.now in
    let new = c.next.follows.lender-at-none in
    let a = left c.args.src.now in
    let b = left c.next.new.src in
    let hands = MatchResult-at_ok (λ (line : Line). HandsOut old new a b (next_of line))
    (λ (_ : Failed). IsUnchanged old new a b) c.in_ok-next.field-0 c.in_ok-next.was
    c.next.follows.holds-at-none in
    goes_on old new a b c.in_ok-next.field-0 (c.number-line.result + 1)
    (ap (λ n. n + 1) c.number-line.ensures) c.requires.reading c.next.ensures.ahead hands c.in-Text.is
