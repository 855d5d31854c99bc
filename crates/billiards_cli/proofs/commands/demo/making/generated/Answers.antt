use Rattle.std.proofs.Common.{◌≡◌, ◌∙◌, [], ◌∷◌, List, ℕ, subst, sym, ap, ap₂}
use Rattle.rational_polygon.specs.Outline.{Outline}
use Rattle.covering_file.specs.Header.{Heading, IsHeading}
use Rattle.billiards_cli.specs.Jobs.{job_heading, job_word}
use Rattle.billiards_cli.proofs.Jobs.{generated_is_job}
use Rattle.billiards_cli.proofs.commands.demo.making.generated.Goals as goal

pub unwrap-requires : goal.unwrap-requires
unwrap-requires c =
    let k = c.args.number.now in
    let heading : Heading = record { version = 1; region = c.in_ok-region.region; words = c.in_ok-words.words.items; depth = 10 } in
    let words : c.in_ok-words.words.items ≡ job_word ∷ [] =
    c.in_ok-words.ensures.items ∙ ap (λ (w : List ℕ). w ∷ []) c.generated_word.ensures in
    let same : heading ≡ job_heading k =
    ap₂ (λ (r : List Outline) (ws : List (List ℕ)). record { version = 1; region = r; words = ws; depth = 10 }) c.in_ok-region.ensures.region words in
    c.new.ensures.heading.1 (subst (λ (h : Heading). IsHeading h) (sym same) (generated_is_job k c.in_ok-region.ensures.is_number))
