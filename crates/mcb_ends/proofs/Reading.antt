-- What a reader of lines has before it while it reads.
use Rattle.std.proofs.Common.{◌≡◌, ℕ, ◌+◌, ◌<◌, ◌≤◌, true, false, List, [], ◌∷◌, ◌++◌, length, take, Some, None, refl, sym, ap, ◌∙◌, subst, arith}
use Rattle.std.proofs.Common.{length-append, append_assoc, append-nil}
use Rattle.std.proofs.KnownBytes.{Consumes-trans, Consumes-kept}
use Rattle.std.proofs.lemmas.List.{take-append-le, take_all, nil_from_length}
use Rattle.std.specs.Io.KnownBytes.{prepend_known, Consumes, Keeps, IsAtEnd}
use Rattle.std.specs.declared.option.Option.{Option}
use Rattle.mcb_ends.specs.Advance.{Fills}
use Rattle.mcb_ends.specs.Lines.{Next, Text, TooLong, CutShort, HasNoNewline, IsShortLine, newline, is_text}
use Rattle.mcb_ends.specs.Reader.{Reader, Takes, IsLine, HasEnded, HandsOut, ReadsOneBuffer}
use Rattle.mcb_ends.proofs.Newlines.{Stands}

-- the held bytes grew by bytes of the source
pub record Grown (old new : List ℕ) (left left' : Option (List ℕ)) : Type 0 where
  pub more : List ℕ
  pub held : new ≡ old ++ more
  pub source : Consumes left left' more

pub Grown-fills : (old mid new : List ℕ) (a b c : Option (List ℕ)) (n : ℕ) → Grown old mid a b → Fills mid new b c n → Grown old new a c
Grown-fills old mid new a b c n grown fills = record {
  more = grown.more ++ fills.more;
  held = fills.held ∙ ap (λ (xs : List ℕ). xs ++ fills.more) grown.held ∙ append_assoc old grown.more fills.more;
  source = Consumes-trans a b c grown.more fills.more grown.source fills.source;
}

pub Grown-kept : (old mid new : List ℕ) (a b c : Option (List ℕ)) → Grown old mid a b → new ≡ mid → Keeps b c → Grown old new a c
Grown-kept old mid new a b c grown same kept = record {
  more = grown.more;
  held = same ∙ grown.held;
  source = Consumes-kept a b c grown.more grown.source kept;
}

-- a source that gave no byte kept its bytes
Keeps-none : (a b : Option (List ℕ)) (more : List ℕ) → more ≡ [] → Consumes a b more → Keeps a b
Keeps-none None b more none taken = tt
Keeps-none (Some xs) None more none taken = absurd taken
Keeps-none (Some xs) (Some ys) more none taken = sym (taken ∙ ap (λ (zs : List ℕ). zs ++ ys) none)

-- nothing more could be read
pub Grown-end : (old mid new : List ℕ) (a b c : Option (List ℕ)) (n : ℕ) → Grown old mid a b → Fills mid new b c n → n ≡ 0 → Grown old mid a c
Grown-end old mid new a b c n grown fills none =
    Grown-kept old mid mid a b c grown refl (Keeps-none b c fills.more (nil_from_length fills.more (fills.count ∙ none)) fills.source)

-- the bytes before a reader stay as they were
pub Keeps-grown : (old new : List ℕ) (a b : Option (List ℕ)) → Grown old new a b → Keeps (prepend_known old a) (prepend_known new b)
Keeps-grown old new None b grown = tt
Keeps-grown old new (Some xs) None grown = absurd grown.source
Keeps-grown old new (Some xs) (Some ys) grown =
    ap (λ (zs : List ℕ). zs ++ ys) grown.held ∙ append_assoc old grown.more ys ∙ ap (λ (zs : List ℕ). old ++ zs) (sym grown.source)

-- no more than one buffer was held
pub ReadsOneBuffer-grown : (old : Reader) (new : List ℕ) (a b : Option (List ℕ)) → Grown old.held new a b → length new ≤ 4096 → ReadsOneBuffer old a b
ReadsOneBuffer-grown old new a b grown fits =
    (grown.more, omega (arith, fits, ap length grown.held, length-append old.held grown.more), grown.source)

-- the held bytes begin with a line
pub Takes-text : (old new line rest : List ℕ) (a b : Option (List ℕ)) → Grown old new a b → IsShortLine line → new ≡ line ++ newline ∷ rest
    → Takes (prepend_known old a) (Text line) (prepend_known rest b)
Takes-text old new line rest None b grown short is = tt
Takes-text old new line rest (Some xs) None grown short is = absurd grown.source
Takes-text old new line rest (Some xs) (Some ys) grown short is =
    (short, sym (Keeps-grown old new (Some xs) (Some ys) grown) ∙ ap (λ (zs : List ℕ). zs ++ ys) is ∙ append_assoc line (newline ∷ rest) ys)

-- the held bytes are too long
pub Takes-too_long : (old new : List ℕ) (a b : Option (List ℕ)) → Grown old new a b → 80 < length new → HasNoNewline (take 81 new)
    → Takes (prepend_known old a) TooLong (Some [])
Takes-too_long old new None b grown long none = tt
Takes-too_long old new (Some xs) None grown long none = absurd grown.source
Takes-too_long old new (Some xs) (Some ys) grown long none =
    let before : new ++ ys ≡ old ++ xs = Keeps-grown old new (Some xs) (Some ys) grown in
    let front : take 81 new ≡ take 81 (old ++ xs) = sym (take-append-le 81 new ys (omega (arith, long))) ∙ ap (λ (zs : List ℕ). take 81 zs) before in
    (omega (arith, long, ap length before, length-append new ys), subst HasNoNewline front none, refl)

-- the held bytes are the last, with no newline
pub Takes-cut_short : (old new : List ℕ) (a b : Option (List ℕ)) → Grown old new a b → IsAtEnd b → 0 < length new → length new ≤ 80
    → HasNoNewline (take 81 new) → Takes (prepend_known old a) CutShort (Some [])
Takes-cut_short old new None b grown end some short none = tt
Takes-cut_short old new (Some xs) None grown end some short none = absurd grown.source
Takes-cut_short old new (Some xs) (Some ys) grown end some short none =
    let before : new ≡ old ++ xs = sym (append-nil new) ∙ ap (λ (zs : List ℕ). new ++ zs) (sym end) ∙ Keeps-grown old new (Some xs) (Some ys) grown in
    let line : IsShortLine new = record { one = subst HasNoNewline (take_all 81 new (omega (arith, short))) none; short = short } in
    (subst (λ (zs : List ℕ). 0 < length zs) before some, subst IsShortLine before line, refl)

-- a line was handed out
pub HandsOut-text : (old new : Reader) (held : List ℕ) (len : ℕ) (a b : Option (List ℕ)) → old.is_done ≡ false → new.is_done ≡ false
    → new.number ≡ old.number + 1 → Grown old.held held a b → Stands held len → new.line ≡ take len held → held ≡ take len held ++ newline ∷ new.held
    → HandsOut old new a b (Text new.line)
HandsOut-text old new held len a b reading goes_on number grown stands line split =
    let short : IsShortLine new.line = subst IsShortLine (sym line) stands.line in
    let is : held ≡ new.line ++ newline ∷ new.held = split ∙ ap (λ (zs : List ℕ). zs ++ newline ∷ new.held) (sym line) in
    record {
      bytes = rw (reading, goes_on) (Takes-text old.held held new.line new.held a b grown short is);
      form = short;
      done = goes_on;
      number = number;
      end = λ _. tt;
    }

-- no line was handed out, and the reader is done
pub HandsOut-done : (old new : Reader) (next : Next) (a b : Option (List ℕ)) → old.is_done ≡ false → new.is_done ≡ true → new.number ≡ old.number
    → is_text next ≡ false → IsLine next → Takes (prepend_known old.held a) next (Some []) → HasEnded next b → HandsOut old new a b next
HandsOut-done old new next a b reading done number no_text form takes end = record {
  bytes = rw (reading, done) takes;
  form = form;
  done = rw no_text done;
  number = rw no_text number;
  end = λ _. end;
}
