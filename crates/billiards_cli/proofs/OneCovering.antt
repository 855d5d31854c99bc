-- Right answers of `cover` differ only from a box on where a word may be shown, and may be passed over.
use Rattle.std.proofs.Common.{◌≡◌, ◌≢◌, ◌⊎◌, inl, inr, List, ℕ, [], ◌∷◌, ◌++◌, codes, refl, sym, ap, ap₂, subst, ◌∙◌}
use Rattle.line_grammar.specs.Text.{text_of}
use Rattle.line_grammar.proofs.FrontLines.{text_of-after}
use Rattle.covering_file.specs.Header.{Heading, header_lines}
use Rattle.covering_file.specs.declared.TheConstants.{MAX_NODES}
use Rattle.covering_file.specs.declared.file_kind.FileKind.TheVariants.{Job}
use Rattle.covering_file.proofs.HeaderLaws.{header_is_one, job_offence_is_one}
use Rattle.coverer.specs.Begun.{IsCover}
use Rattle.coverer.specs.declared.answer.Covered.{Covered}
use Rattle.coverer.specs.declared.answer.Covered.TheVariants as covered
use Rattle.coverer.proofs.Between.{covers_differ_between_lem}
use Rattle.billiards_cli.specs.Commands.Cover.{CoversJob, IsCoverAnswer, IsJobText, IsRefusedJob}
use Rattle.billiards_cli.specs.Laws.{CoverAnswersDifferBetween, CoversDifferAtBox}
use Rattle.billiards_cli.specs.Refusals.{RefusesLine, refused_text}
use Rattle.billiards_cli.specs.declared.status.Status.{Status}
use Rattle.billiards_cli.specs.declared.status.Status.TheVariants.{Done, NotShown, Malformed, WriteFault, OutOfMemory, Full}
use Rattle.billiards_cli.proofs.CoverAnswers.{job_is_not_refused}

-- the input is the text of one job
one_job : (input : List ℕ) (g h : Heading) → IsJobText input g → IsJobText input h → g ≡ h
one_job input g h job other =
    let end = codes "end" ∷ [] in
    let same = sym (text_of-after (header_lines Job g) end []) ∙ ap (λ (xs : List ℕ). xs ++ []) (sym job.text ∙ other.text)
    ∙ text_of-after (header_lines Job h) end [] in
    let one = header_is_one Job Job g h (text_of end ++ []) (text_of end ++ []) job.is_heading other.is_heading same in
    one.1

-- the status of an end
abbrev ending : Covered → Status
ending (covered.Complete n) = Done
ending (covered.OpenBoxes n left) = NotShown
ending (covered.Full n) = Full

record Covers (input : List ℕ) (status : Status) (text : List ℕ) : Type 0 where
  answer : Covered
  covers : CoversJob input answer text
  ends : status ≡ ending answer

abbrev Refuses : List ℕ → Status → List ℕ → Type 0
Refuses input status text = (status ≡ Malformed) × RefusesLine (IsRefusedJob input) text

-- an answer is a covering with its end, or a refusal
covers_or_refuses : (input : List ℕ) (status : Status) (text : List ℕ) → IsCoverAnswer input status text → status ≢ OutOfMemory → status ≢ WriteFault
    → Covers input status text ⊎ Refuses input status text
covers_or_refuses input Done text answer some taken = inl (record { answer = covered.Complete answer.0; covers = answer.1; ends = refl })
covers_or_refuses input NotShown text answer some taken = inl (record { answer = covered.OpenBoxes answer.0 answer.1; covers = answer.2; ends = refl })
covers_or_refuses input Full text answer some taken = inl (record { answer = covered.Full answer.0; covers = answer.1; ends = refl })
covers_or_refuses input Malformed text answer some taken = inr (refl, answer)
covers_or_refuses input OutOfMemory text answer some taken = absurd (some refl)
covers_or_refuses input WriteFault text answer some taken = absurd (taken refl)
covers_or_refuses input status text answer some taken = absurd answer

both : (input text text' : List ℕ) (status status' : Status) → Covers input status text ⊎ Refuses input status text
    → Covers input status' text' ⊎ Refuses input status' text' → ((status ≡ status') × (text ≡ text')) ⊎ CoversDifferAtBox input text text'
both input text text' status status' (inl first) (inl second) =
    let p = first.covers in
    let q = second.covers in
    let there = subst (λ (h : Heading). IsCover MAX_NODES h second.answer text') (one_job input q.heading p.heading q.job p.job) q.cover in
    elim (covers_differ_between_lem MAX_NODES p.heading first.answer second.answer text text' p.cover there) [
      | inl same ↦ inl (first.ends ∙ ap ending same.0 ∙ sym second.ends, same.1)
      | inr at ↦ inr (record { heading = p.heading; job = p.job; differ = at })
    ]
both input text text' status status' (inr first) (inr second) =
    let p = first.1 in
    let q = second.1 in
    let one = job_offence_is_one input p.line q.line p.reason q.reason p.refused q.refused in
    inl (first.0 ∙ sym second.0, p.named ∙ ap₂ refused_text one.0 one.1 ∙ sym q.named)
both input text text' status status' (inl first) (inr second) =
    absurd (job_is_not_refused input first.covers.heading second.1.line second.1.reason first.covers.job second.1.refused)
both input text text' status status' (inr first) (inl second) =
    absurd (job_is_not_refused input second.covers.heading first.1.line first.1.reason second.covers.job first.1.refused)

pub cover_answers_differ_between_lem : CoverAnswersDifferBetween
cover_answers_differ_between_lem input text text' status status' first second some more taken taken' =
    both input text text' status status' (covers_or_refuses input status text first some taken) (covers_or_refuses input status' text' second more taken')
