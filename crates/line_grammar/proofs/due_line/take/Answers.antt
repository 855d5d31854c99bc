use Rattle.std.proofs.Common.{◌≡◌, ◌+◌, Ok, ap, ◌∙◌}
use Rattle.std.proofs.lemmas.Result.{MatchResult-at_ok, MatchResult-at_err, err_from_is_err_and}
use Rattle.mcb_ends.specs.Lines.{next_of}
use Rattle.mcb_ends.specs.Reader.{HandsOut, IsUnchanged}
use Rattle.mcb_ends.specs.declared.failed.Failed.{Failed}
use Rattle.mcb_ends.specs.declared.line.Line.{Line}
use Rattle.mcb_ends.specs.declared.line.Line.TheVariants.{Text, TooLong}
use Rattle.line_grammar.proofs.Steps.{stops_here, stops_before, fails_before, takes_line, line_refused, long_refused, ends_refused}
use Rattle.line_grammar.proofs.due_line.take.Goals as goal

pub returns-in_err-text-clause-stops : goal.returns-in_err-text-clause-stops
returns-in_err-text-clause-stops g c =
    let left = g.S.Source.left in
    let old = c.args.lines.now in
    let new = c.next.follows.lender-at-none in
    let a = left c.args.src.now in
    let b = left c.next.new.src in
    let same = MatchResult-at_err (λ (line : Line). HandsOut old new a b (next_of line))
    (λ (_ : Failed). IsUnchanged old new a b) c.in_err-text.field-0.0 c.in_err-text.was
    c.next.follows.holds-at-none in
    stops_before old new a b c.requires.reading c.next.ensures.ahead same

pub returns-in_err-text-clause-reads : goal.returns-in_err-text-clause-reads
returns-in_err-text-clause-reads g c =
    let left = g.S.Source.left in
    let old = c.args.lines.now in
    let new = c.next.follows.lender-at-none in
    let a = left c.args.src.now in
    let b = left c.next.new.src in
    let same = MatchResult-at_err (λ (line : Line). HandsOut old new a b (next_of line))
    (λ (_ : Failed). IsUnchanged old new a b) c.in_err-text.field-0.0 c.in_err-text.was
    c.next.follows.holds-at-none in
    let p = err_from_is_err_and c.from_residual.result c.from_residual.ensures.1 in
    rw (p.1, p.2) (fails_before (g.F.Form.form c.args.form.now).Refuses (λ l r. ¬ ((g.F.Form.form c.args.form.now).Refuses l r)) old new a b
    (stops_before old new a b c.requires.reading c.next.ensures.ahead same))

pub returns-in-Ok-clause-stops : goal.returns-in-Ok-clause-stops
returns-in-Ok-clause-stops g c =
    let left = g.S.Source.left in
    let old = c.args.lines.now in
    let new = c.next.follows.lender-at-none in
    let a = left c.args.src.now in
    let b = left c.next.new.src in
    let hands = MatchResult-at_ok (λ (line : Line). HandsOut old new a b (next_of line))
    (λ (_ : Failed). IsUnchanged old new a b) c.in_ok-text.field-0 c.in_ok-text.was
    c.next.follows.holds-at-none in
    stops_here old new a b (next_of c.in_ok-text.field-0) c.requires.reading c.next.ensures.ahead hands

pub returns-in-Err-clause-stops : goal.returns-in-Err-clause-stops
returns-in-Err-clause-stops g c =
    let left = g.S.Source.left in
    let old = c.args.lines.now in
    let new = c.next.follows.lender-at-none in
    let a = left c.args.src.now in
    let b = left c.next.new.src in
    let hands = MatchResult-at_ok (λ (line : Line). HandsOut old new a b (next_of line))
    (λ (_ : Failed). IsUnchanged old new a b) c.in_ok-text.field-0 c.in_ok-text.was
    c.next.follows.holds-at-none in
    stops_here old new a b (next_of c.in_ok-text.field-0) c.requires.reading c.next.ensures.ahead hands

pub returns-in-TooLong-clause-stops : goal.returns-in-TooLong-clause-stops
returns-in-TooLong-clause-stops g c =
    let left = g.S.Source.left in
    let old = c.args.lines.now in
    let new = c.next.follows.lender-at-none in
    let a = left c.args.src.now in
    let b = left c.next.new.src in
    let hands = MatchResult-at_ok (λ (line : Line). HandsOut old new a b (next_of line))
    (λ (_ : Failed). IsUnchanged old new a b) c.in_ok-text.field-0 c.in_ok-text.was
    c.next.follows.holds-at-none in
    stops_here old new a b (next_of c.in_ok-text.field-0) c.requires.reading c.next.ensures.ahead hands

pub returns-in-CutShort-clause-stops : goal.returns-in-CutShort-clause-stops
returns-in-CutShort-clause-stops g c =
    let left = g.S.Source.left in
    let old = c.args.lines.now in
    let new = c.next.follows.lender-at-none in
    let a = left c.args.src.now in
    let b = left c.next.new.src in
    let hands = MatchResult-at_ok (λ (line : Line). HandsOut old new a b (next_of line))
    (λ (_ : Failed). IsUnchanged old new a b) c.in_ok-text.field-0 c.in_ok-text.was
    c.next.follows.holds-at-none in
    stops_here old new a b (next_of c.in_ok-text.field-0) c.requires.reading c.next.ensures.ahead hands

pub returns-in-Ok-clause-reads : goal.returns-in-Ok-clause-reads
returns-in-Ok-clause-reads g c =
    let left = g.S.Source.left in
    let old = c.args.lines.now in
    let new = c.next.follows.lender-at-none in
    let a = left c.args.src.now in
    let b = left c.next.new.src in
    let was : c.next.result ≡ Ok (Text c.in-Text.text) = c.in_ok-text.was ∙ ap (λ (line : Line). Ok line) c.in-Text.is in
    let hands = MatchResult-at_ok (λ (line : Line). HandsOut old new a b (next_of line)) (λ (_ : Failed). IsUnchanged old new a b) (Text c.in-Text.text) was
    c.next.follows.holds-at-none in
    takes_line (g.F.Form.form c.args.form.now) old new a b c.in-Text.text.now c.in-Ok.value c.requires.reading c.next.ensures.ahead hands
    c.in-Ok.ensures.0 c.in-Ok.ensures.1

pub returns-in-Err-clause-reads : goal.returns-in-Err-clause-reads
returns-in-Err-clause-reads g c =
    let left = g.S.Source.left in
    let old = c.args.lines.now in
    let new = c.next.follows.lender-at-none in
    let a = left c.args.src.now in
    let b = left c.next.new.src in
    let was : c.next.result ≡ Ok (Text c.in-Text.text) = c.in_ok-text.was ∙ ap (λ (line : Line). Ok line) c.in-Text.is in
    let hands = MatchResult-at_ok (λ (line : Line). HandsOut old new a b (next_of line)) (λ (_ : Failed). IsUnchanged old new a b) (Text c.in-Text.text) was
    c.next.follows.holds-at-none in
    line_refused (g.F.Form.form c.args.form.now) old new a b c.in-Text.text.now (c.number-line.result + 1) c.in-Err.reason c.requires.form
    (ap (λ n. n + 1) c.number-line.ensures) c.requires.reading c.next.ensures.ahead hands c.in-Err.ensures

pub returns-in-TooLong-clause-reads : goal.returns-in-TooLong-clause-reads
returns-in-TooLong-clause-reads g c =
    let left = g.S.Source.left in
    let old = c.args.lines.now in
    let new = c.next.follows.lender-at-none in
    let a = left c.args.src.now in
    let b = left c.next.new.src in
    let was : c.next.result ≡ Ok TooLong = c.in_ok-text.was ∙ ap (λ (line : Line). Ok line) c.in-TooLong.is in
    let hands = MatchResult-at_ok (λ (line : Line). HandsOut old new a b (next_of line)) (λ (_ : Failed). IsUnchanged old new a b) TooLong was
    c.next.follows.holds-at-none in
    long_refused (g.F.Form.form c.args.form.now).Refuses (λ l r. ¬ ((g.F.Form.form c.args.form.now).Refuses l r)) old new a b
    (c.number-line.result + 1) (ap (λ n. n + 1) c.number-line.ensures) c.requires.reading c.next.ensures.ahead hands

pub returns-in-CutShort-clause-reads : goal.returns-in-CutShort-clause-reads
returns-in-CutShort-clause-reads g c =
    let left = g.S.Source.left in
    let old = c.args.lines.now in
    let new = c.next.follows.lender-at-none in
    let a = left c.args.src.now in
    let b = left c.next.new.src in
    let hands = MatchResult-at_ok (λ (line : Line). HandsOut old new a b (next_of line))
    (λ (_ : Failed). IsUnchanged old new a b) c.in_ok-text.field-0 c.in_ok-text.was
    c.next.follows.holds-at-none in
    ends_refused (g.F.Form.form c.args.form.now).Refuses (λ l r. ¬ ((g.F.Form.form c.args.form.now).Refuses l r)) old new a b c.in_ok-text.field-0
    (c.number-line.result + 1) (ap (λ n. n + 1) c.number-line.ensures) c.requires.reading c.next.ensures.ahead hands c.in-CutShort.is
