-- Lines that were taken one after another, and where reading stops after them.
use Rattle.std.proofs.Common.{◌≡◌, inl, inr, ℕ, false, List, [], ◌∷◌, ◌++◌, Option, Some, None}
use Rattle.std.proofs.Common.{sym, ap, ◌∙◌, subst, arith, length-append, append_assoc, append-nil}
use Rattle.std.proofs.KnownBytes.{Consumes-trans, Consumes-nil}
use Rattle.std.proofs.lemmas.List.Elements.{All-append, All-nil}
use Rattle.std.specs.Io.KnownBytes.{Consumes}
use Rattle.mcb_ends.specs.Lines.{IsShortLine}
use Rattle.mcb_ends.specs.Reader.{Reader, bytes_before}
use Rattle.line_grammar.specs.Input.{MayBe, IsNew}
use Rattle.line_grammar.specs.Reading.{TakesLines, EndsWithin, ReadsAhead, StandsAfter, StopsAfter}
use Rattle.line_grammar.specs.Text.{text_of}
use Rattle.line_grammar.proofs.FrontLines.{text_of-append, text_of-after}

pub takes_none : (reader : Reader) (left : Option (List ℕ)) → reader.is_done ≡ false → TakesLines [] reader reader left left
takes_none reader left reading = record {
  each = All-nil IsShortLine;
  bytes = Consumes-nil (bytes_before reader left);
  reading = reading;
  number = omega arith;
}

pub takes_as : (xs ys : List (List ℕ)) (old new : Reader) (a b : Option (List ℕ)) → xs ≡ ys → TakesLines xs old new a b → TakesLines ys old new a b
takes_as xs ys old new a b is taken = subst (λ (ls : List (List ℕ)). TakesLines ls old new a b) is taken

pub takes_more : (xs ys : List (List ℕ)) (old mid new : Reader) (a b c : Option (List ℕ)) → TakesLines xs old mid a b → TakesLines ys mid new b c
    → TakesLines (xs ++ ys) old new a c
takes_more xs ys old mid new a b c first second = record {
  each = All-append IsShortLine xs ys first.each second.each;
  bytes = subst (Consumes (bytes_before old a) (bytes_before new c)) (sym (text_of-append xs ys))
      (Consumes-trans (bytes_before old a) (bytes_before mid b) (bytes_before new c) (text_of xs) (text_of ys) first.bytes second.bytes);
  reading = second.reading;
  number = omega (arith, first.number, second.number, length-append xs ys);
}

-- ---- how much was read

pub ends_later : (xs ys : List (List ℕ)) (old mid : Reader) (a b c : Option (List ℕ)) → TakesLines xs old mid a b → EndsWithin ys mid b c
    → EndsWithin (xs ++ ys) old a c
ends_later xs ys old mid a b c taken ends = record {
  more = ends.more;
  one_buffer = ends.one_buffer;
  read = subst (Consumes (bytes_before old a) c) (sym (text_of-after xs ys ends.more))
      (Consumes-trans (bytes_before old a) (bytes_before mid b) c (text_of xs) (text_of ys ++ ends.more) taken.bytes ends.read);
}

pub ahead_more : (xs ys : List (List ℕ)) (old mid : Reader) (a b c : Option (List ℕ)) → TakesLines xs old mid a b → ReadsAhead xs old a b
    → ReadsAhead ys mid b c → ReadsAhead (xs ++ ys) old a c
ahead_more [] [] old mid a b c taken first second = second ∙ first
ahead_more [] (y ∷ ys) old mid a b c taken first second = ends_later [] (y ∷ ys) old mid a b c taken second
ahead_more (x ∷ xs) [] old mid a b c taken first second =
    let here : EndsWithin (x ∷ xs) old a c = subst (λ (left : Option (List ℕ)). EndsWithin (x ∷ xs) old a left) (sym second) first in
    subst (λ (ls : List (List ℕ)). EndsWithin ls old a c) (sym (append-nil (x ∷ xs))) here
ahead_more (x ∷ xs) (y ∷ ys) old mid a b c taken first second = ends_later (x ∷ xs) (y ∷ ys) old mid a b c taken second

-- ---- where a reader stops

pub stands_later : (xs ys : List (List ℕ)) (old mid new : Reader) (a b c : Option (List ℕ)) → TakesLines xs old mid a b → StandsAfter ys mid new b c
    → StandsAfter (xs ++ ys) old new a c
stands_later xs ys old mid new a b c taken (inl here) = inl (takes_more xs ys old mid new a b c taken here)
stands_later xs ys old mid new a b c taken (inr (inl more)) =
    inr (inl (
      more.0,
      takes_as (xs ++ (ys ++ more.0 ∷ [])) ((xs ++ ys) ++ more.0 ∷ []) old new a c (sym (append_assoc xs ys (more.0 ∷ [])))
          (takes_more xs (ys ++ more.0 ∷ []) old mid new a b c taken more.1),
    ))
stands_later xs ys old mid new a b c taken (inr (inr over)) =
    inr (inr (record { done = over.done; number = omega (arith, over.number, taken.number, length-append xs ys) }))

pub stops_later : (xs ys : List (List ℕ)) (old mid new : Reader) (a b c : Option (List ℕ)) → TakesLines xs old mid a b → StopsAfter ys mid new b c
    → StopsAfter (xs ++ ys) old new a c
stops_later xs ys old mid new a b c taken stops = record {
  ahead = ends_later xs ys old mid a b c taken stops.ahead;
  stands = stands_later xs ys old mid new a b c taken stops.stands;
}

-- ---- what the input may be

pub may_be_more : (a b : Option (List ℕ)) (more bytes : List ℕ) → Consumes a b more → MayBe b bytes → MayBe a (more ++ bytes)
may_be_more None b more bytes read is = tt
may_be_more (Some xs) None more bytes read is = absurd read
may_be_more (Some xs) (Some ys) more bytes read is = read ∙ ap (λ (zs : List ℕ). more ++ zs) is

pub new_bytes : (reader : Reader) (left : Option (List ℕ)) → IsNew reader → bytes_before reader left ≡ left
new_bytes reader None new = rw new.done
new_bytes reader (Some bytes) new = rw (new.done, new.held)
