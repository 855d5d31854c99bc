use Rattle.std.proofs.Common.{◌≡◌, ℕ, ◌+◌, ◌<◌, ◌≤◌, List, ◌∷◌, ◌++◌, length, take, refl, sym, ap, ◌∙◌, arith, false}
use Rattle.mcb_ends.specs.Lines.{TooLong, CutShort, newline}
use Rattle.mcb_ends.specs.Reader.{Reader}
use Rattle.mcb_ends.proofs.Newlines.{one_found, none_found, not_in_hand}
use Rattle.mcb_ends.proofs.Reading.{Grown-kept, Grown-fills, Grown-end, ReadsOneBuffer-grown, Takes-too_long, Takes-cut_short, HandsOut-text, HandsOut-done}
use Rattle.mcb_ends.proofs.line_reader.LineReader.advance.Goals as goal

pub take_line-requires-clause-room : goal.take_line-requires-clause-room
take_line-requires-clause-room g c =
    (one_found c.loop-len.self.held c.held.result.now c.line_end.result c.in-Some.len c.held.ensures.held c.line_end.ensures c.in-Some.is).within

pub returns-in-Some-clause-ok : goal.returns-in-Some-clause-ok
returns-in-Some-clause-ok g c =
    let left = g.S.Source.left in
    let held = c.loop-len.self.held in
    let len = c.in-Some.len in
    let new = c.take_line.new.self in
    let stands = one_found held c.held.result.now c.line_end.result len c.held.ensures.held c.line_end.ensures c.in-Some.is in
    let split : held ≡ take len held ++ newline ∷ new.held = stands.split
    ∙ ap (λ (rest : List ℕ). take len held ++ newline ∷ rest) (sym c.take_line.ensures.held) in
    let reading : c.args.self.now.is_done ≡ false = ap (λ (reader : Reader). reader.is_done) (sym c.self.view_is) ∙ c.if-self.false in
    HandsOut-text c.args.self.now new held len (left c.args.src.now) (left c.loop-len.src) reading
    (c.take_line.ensures.done ∙ c.loop-len.invariant.reading)
    (c.take_line.ensures.number ∙ ap (λ n. n + 1) c.loop-len.invariant.number) c.loop-len.invariant.grown stands c.take_line.ensures.line split

pub returns-in-Some-clause-ahead : goal.returns-in-Some-clause-ahead
returns-in-Some-clause-ahead g c =
    let left = g.S.Source.left in
    ReadsOneBuffer-grown c.args.self.now c.loop-len.self.held (left c.args.src.now) (left c.loop-len.src) c.loop-len.invariant.grown c.held.ensures.fits

pub returns-then-held-gt-MAX_LEN-clause-ok : goal.returns-then-held-gt-MAX_LEN-clause-ok
returns-then-held-gt-MAX_LEN-clause-ok g c =
    let left = g.S.Source.left in
    let old = c.args.self.now in
    let held = c.loop-len.self.held in
    let none = none_found held c.held.result.now c.line_end.result c.held.ensures.held c.line_end.ensures c.in_default.is in
    let long : 80 < length held = omega (arith, ap length c.held-held.ensures.held) in
    let takes = Takes-too_long old.held held (left c.args.src.now) (left c.loop-len.src) c.loop-len.invariant.grown long none in
    let reading : c.args.self.now.is_done ≡ false = ap (λ (reader : Reader). reader.is_done) (sym c.self.view_is) ∙ c.if-self.false in
    HandsOut-done old c.finish.new.self TooLong (left c.args.src.now) (left c.loop-len.src) reading c.finish.ensures.done
    (c.finish.ensures.number ∙ c.loop-len.invariant.number) refl tt takes tt

pub returns-then-held-gt-MAX_LEN-clause-ahead : goal.returns-then-held-gt-MAX_LEN-clause-ahead
returns-then-held-gt-MAX_LEN-clause-ahead g c =
    let left = g.S.Source.left in
    ReadsOneBuffer-grown c.args.self.now c.loop-len.self.held (left c.args.src.now) (left c.loop-len.src) c.loop-len.invariant.grown c.held.ensures.fits

pub returns-in_err-fill-clause-ahead : goal.returns-in_err-fill-clause-ahead
returns-in_err-fill-clause-ahead g c =
    let left = g.S.Source.left in
    let kept = c.in_err-fill.ensures.bytes in
    let grown = Grown-kept c.args.self.now.held c.loop-len.self.held c.loop-len.self.held (left c.args.src.now) (left c.loop-len.src)
    (left c.fill.new.src) c.loop-len.invariant.grown refl kept.1 in
    ReadsOneBuffer-grown c.args.self.now c.loop-len.self.held (left c.args.src.now) (left c.fill.new.src) grown c.held.ensures.fits

pub returns-else-held-eq0-clause-ok : goal.returns-else-held-eq0-clause-ok
returns-else-held-eq0-clause-ok g c =
    let left = g.S.Source.left in
    let old = c.args.self.now in
    let held = c.loop-len.self.held in
    let fills = c.in_ok-fill.ensures.bytes in
    let none = none_found held c.held.result.now c.line_end.result c.held.ensures.held c.line_end.ensures c.in_default.is in
    let grown = Grown-end old.held held c.fill.new.self.held (left c.args.src.now) (left c.loop-len.src)
    (left c.fill.new.src) c.in_ok-fill.field-0 c.loop-len.invariant.grown fills c.if-branch-eq0.true in
    let end = fills.end c.if-branch-eq0.true in
    let some : 0 < length held = omega (arith, ap length c.held-held.ensures.held) in
    let short : length held ≤ 80 = omega (arith, ap length c.held-held.ensures.held) in
    let takes = Takes-cut_short old.held held (left c.args.src.now) (left c.fill.new.src) grown end some short none in
    let reading : c.args.self.now.is_done ≡ false = ap (λ (reader : Reader). reader.is_done) (sym c.self.view_is) ∙ c.if-self.false in
    HandsOut-done old c.finish-then-branch-eq0.new.self CutShort (left c.args.src.now)
    (left c.fill.new.src) reading c.finish-then-branch-eq0.ensures.done
    (c.finish-then-branch-eq0.ensures.number ∙ c.in_ok-fill.ensures.number ∙ c.loop-len.invariant.number) refl tt takes end

pub returns-else-held-eq0-clause-ahead : goal.returns-else-held-eq0-clause-ahead
returns-else-held-eq0-clause-ahead g c =
    let left = g.S.Source.left in
    let grown = Grown-fills c.args.self.now.held c.loop-len.self.held c.fill.new.self.held (left c.args.src.now) (left c.loop-len.src)
    (left c.fill.new.src) c.in_ok-fill.field-0 c.loop-len.invariant.grown c.in_ok-fill.ensures.bytes in
    ReadsOneBuffer-grown c.args.self.now c.fill.new.self.held (left c.args.src.now) (left c.fill.new.src) grown c.in_ok-fill.ensures.fits

pub returns-in_err-fill-clause-in_hand : goal.returns-in_err-fill-clause-in_hand
returns-in_err-fill-clause-in_hand g c =
    let held = c.loop-len.self.held in
    let none = none_found held c.held.result.now c.line_end.result c.held.ensures.held c.line_end.ensures c.in_default.is in
    let short : length held ≤ 80 = omega (arith, ap length c.held-held.ensures.held) in
    λ hand. absurd (not_in_hand c.args.self.now held (c.loop-len.invariant.in_hand hand).0 none short hand)

pub returns-else-held-eq0-clause-in_hand : goal.returns-else-held-eq0-clause-in_hand
returns-else-held-eq0-clause-in_hand g c =
    let held = c.loop-len.self.held in
    let none = none_found held c.held.result.now c.line_end.result c.held.ensures.held c.line_end.ensures c.in_default.is in
    let short : length held ≤ 80 = omega (arith, ap length c.held-held.ensures.held) in
    λ hand. absurd (not_in_hand c.args.self.now held (c.loop-len.invariant.in_hand hand).0 none short hand)

pub loop-len-preserved : goal.loop-len-preserved
loop-len-preserved g c =
    let s = g.S.Source in
    let held = c.loop-len.self.held in
    let none = none_found held c.held.result.now c.line_end.result c.held.ensures.held c.line_end.ensures c.in_default.is in
    let short : length held ≤ 80 = omega (arith, ap length c.held-held.ensures.held) in
    record {
      reading = c.in_ok-fill.ensures.done ∙ c.loop-len.invariant.reading;
      number = c.in_ok-fill.ensures.number ∙ c.loop-len.invariant.number;
      grown = Grown-fills c.args.self.now.held c.loop-len.self.held c.fill.new.self.held (s.left c.args.src.now) (s.left c.loop-len.src)
          (s.left c.fill.new.src) c.in_ok-fill.field-0 c.loop-len.invariant.grown c.in_ok-fill.ensures.bytes;
      faults = c.in_ok-fill.ensures.cause.kept ∙ c.loop-len.invariant.faults;
      in_hand = λ hand. absurd (not_in_hand c.args.self.now held (c.loop-len.invariant.in_hand hand).0 none short hand);
    }
