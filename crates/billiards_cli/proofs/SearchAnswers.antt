-- The right answers of `search`.
use Rattle.std.proofs.Common.{◌≡◌, ℕ, ◌≤◌, List, length, Option, pos, refl, sym, subst, subst₂, inl, inr}
use Rattle.rat_core.specs.Written.{Written, value}
use Rattle.word_search.specs.Search.{IsSearchResult}
use Rattle.billiards_cli.specs.Arguments.{Angles}
use Rattle.billiards_cli.specs.Commands.At.{AtTriangle}
use Rattle.billiards_cli.specs.Commands.Search.{IsSearchAnswer, IsSearchDue}
use Rattle.billiards_cli.specs.Requests.{command_of}
use Rattle.billiards_cli.specs.Services.{IsAnswer}
use Rattle.billiards_cli.specs.declared.request.Request.TheVariants as request
use Rattle.billiards_cli.specs.declared.status.Status.{Status}
use Rattle.billiards_cli.specs.declared.status.Status.TheVariants.{Done, OutOfMemory}
use Rattle.billiards_cli.proofs.Inputs.{some_input}

search_answer_is_due : (triangle : Angles) (bound : ℕ) (status : Status) (text : List ℕ) → IsSearchAnswer triangle bound status text → IsSearchDue status
search_answer_is_due triangle bound Done text answer = inl refl
search_answer_is_due triangle bound OutOfMemory text answer = inr refl
search_answer_is_due triangle bound status text answer = absurd answer

-- a right answer is one that the command may give, whatever the input
pub search_answer : (triangle : Angles) (bound : ℕ) (left : Option (List ℕ)) (status : Status) (text : List ℕ)
    → IsSearchAnswer triangle bound status text → IsAnswer (command_of (request.Search triangle bound)) left left status text
search_answer triangle bound left status text right =
    let some = some_input left in
    record { input = some.0; may_be = some.1; right = right; due = search_answer_is_due triangle bound status text right; read = tt }

-- what is found at the angles of the triangle
pub found_at_triangle : (x y : Written) (a : Angles) (n bound : ℕ) (found words : List (List ℕ)) → x ≡ record { num = pos a.p; den = a.d }
    → y ≡ record { num = pos a.q; den = a.d } → n ≡ bound → words ≡ found → IsSearchResult (value x) (value y) (λ w. length w ≤ n) found
    → AtTriangle a (λ x y. IsSearchResult x y (λ w. length w ≤ bound) words)
found_at_triangle x y a n bound found words first second same listed result =
    let within : IsSearchResult (value x) (value y) (λ w. length w ≤ bound) found =
    subst (λ (m : ℕ). IsSearchResult (value x) (value y) (λ w. length w ≤ m) found) same result in
    let there = subst₂ (λ (u v : Written). IsSearchResult (value u) (value v) (λ w. length w ≤ bound) found) first second within in
    subst (λ (ws : List (List ℕ)). AtTriangle a (λ x y. IsSearchResult x y (λ w. length w ≤ bound) ws)) (sym listed) there
