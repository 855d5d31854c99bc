use Rattle.std.proofs.Common.{◌≡◌, ◌+◌, length, get_or, take, refl, sym, ◌∙◌, subst, arith, length-set}
use Rattle.edge_words.specs.Reading.{digits_of}
use Rattle.edge_words.specs.Stable.{IsStable}
use Rattle.edge_words.specs.Word.{IsWord}
use Rattle.word_search.proofs.Candidates.{all_written, digit_written, not_refused, read_back}
use Rattle.word_search.proofs.candidate.searched.Goals as goal

pub loop-index-preserved : goal.loop-index-preserved
loop-index-preserved c =
    let room = c.loop-index.invariant.room in
    record {
      room = length-set c.loop-index.buffer c.loop-index.index (get_or c.args.letters.now c.loop-index.index 0 + 48) ∙ room;
      written = digit_written c.loop-index.buffer c.args.letters.now c.loop-index.index (omega arith) c.loop-index-test.true c.loop-index.invariant.written;
    }

pub returns-in_default : goal.returns-in_default
returns-in_default c = λ is.
    let digits : take (length c.args.letters.now) c.loop-index.buffer ≡ digits_of c.args.letters.now = all_written c.loop-index.buffer c.args.letters.now
    c.loop-index.index (omega arith) c.loop-index.invariant.written in
    not_refused (take (length c.args.letters.now) c.loop-index.buffer) c.args.letters.now c.in_default.field-0 digits is.is.is_word c.in_default.ensures

pub returns-then-not-stable : goal.returns-then-not-stable
returns-then-not-stable c = λ is.
    let digits : take (length c.args.letters.now) c.loop-index.buffer ≡ digits_of c.args.letters.now = all_written c.loop-index.buffer c.args.letters.now
    c.loop-index.index (omega arith) c.loop-index.invariant.written in
    let same : c.in-Ok.word ≡ c.args.letters.now = read_back _ c.in-Ok.word c.args.letters.now digits c.in-Ok.ensures in
    let stable = c.is_stable-stable.ensures.1 (subst IsStable (sym same) is.is.stable) in
    let not = c.if-not-stable.true in
    cc

pub returns-then-not-least : goal.returns-then-not-least
returns-then-not-least c = λ is.
    let canonical = c.is_least-least.ensures.1 is.is.canonical in
    let not = c.if-not-least.true in
    cc

pub returns : goal.returns
returns c =
    let digits : take (length c.args.letters.now) c.loop-index.buffer ≡ digits_of c.args.letters.now = all_written c.loop-index.buffer c.args.letters.now
    c.loop-index.index (omega arith) c.loop-index.invariant.written in
    let same : c.in-Ok.word ≡ c.args.letters.now = read_back _ c.in-Ok.word c.args.letters.now digits c.in-Ok.ensures in (
      same,
      record {
        is = record {
          is_word = subst IsWord same c.in-Ok.ensures.is_word;
          stable = subst IsStable same (c.is_stable-stable.ensures.0 c.if-not-stable.false);
          canonical = c.is_least-least.ensures.0 c.if-not-least.false;
        };
        count = refl;
      },
    )
