-- Where `check` is done, its right answer is the headline.
use Rattle.std.proofs.Common.{◌≡◌, ℕ, List, [], ◌∷◌, Option, Some, codes, sym, subst, subst₂, ap}
use Rattle.std.specs.Io.KnownBytes.{IsAtEnd}
use Rattle.covering_file.specs.Covering.{IsCovering}
use Rattle.line_grammar.specs.Input.{MayBe}
use Rattle.covering_file.proofs.Accepted.{accepted_is_covering}
use Rattle.billiards_cli.specs.Headline.{Headline}
use Rattle.billiards_cli.specs.Requests.{request_of, command_of}
use Rattle.billiards_cli.specs.Services.{Serves}
use Rattle.billiards_cli.specs.Streams.{Streams}
use Rattle.covering_file.specs.declared.TheConstants.{MAX_NODES}
use Rattle.billiards_cli.specs.declared.request.Request.{Request}
use Rattle.billiards_cli.specs.declared.request.Request.TheVariants.{Check}
use Rattle.billiards_cli.specs.declared.status.Status.{Status}
use Rattle.billiards_cli.specs.declared.status.Status.TheVariants.{Done}

accepted_covers : (before after : Streams) (bytes : List ℕ) → before.left ≡ Some bytes → Serves (command_of Check) before after Done
    → IsCovering MAX_NODES bytes × IsAtEnd after.left
accepted_covers before after bytes told serves =
    let answer = serves.leaves.answer in
    let same : bytes ≡ answer.input = subst (λ (x : Option (List ℕ)). MayBe x answer.input) told answer.may_be in
    let covering = accepted_is_covering MAX_NODES answer.right.nodes answer.right.words answer.input answer.right.accepted in
    (subst (λ (xs : List ℕ). IsCovering MAX_NODES xs) (sym same) covering, answer.read)

pub headline : (arguments : List (List ℕ)) (request : Request) (before after : Streams) (status : Status)
    → request_of arguments ≡ Some request → Serves (command_of request) before after status → Headline arguments status before.left after.left
headline arguments request before after status is serves named done bytes told =
    let asked : request_of arguments ≡ request_of (codes "check" ∷ []) = ap (λ (xs : List (List ℕ)). request_of xs) named in
    let check : request ≡ Check = cc in
    accepted_covers before after bytes told (subst₂ (λ (r : Request) (s : Status). Serves (command_of r) before after s) check done serves)
