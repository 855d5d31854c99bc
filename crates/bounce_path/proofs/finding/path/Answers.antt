use Rattle.std.proofs.Common.{◌≡◌, ◌∙◌, ℕ, List, Option, Some, sym, subst, subst₂}
use Rattle.std.specs.Prelude.{IfSome}
use Rattle.rat_core.specs.Written.{Written, value}
use Rattle.edge_words.specs.Stable.{IsStable}
use Rattle.edge_words.specs.Word.{IsWord}
use Rattle.gradient_bounds.specs.Table.{PreparedWord}
use Rattle.bounce_path.specs.declared.crossing.Crossing.{Crossing}
use Rattle.bounce_path.specs.Crossings.{AreCrossings}
use Rattle.sine_fixed.proofs.Turning.{unit_triangle}
use Rattle.bounce_path.proofs.finding.path.Goals as goal

pub fill-requires-clause-x_least : goal.fill-requires-clause-x_least
fill-requires-clause-x_least c = (unit_triangle (value c.args.x) (value c.args.y) c.requires.first c.requires.second c.requires.third).0

pub fill-requires-clause-x_most : goal.fill-requires-clause-x_most
fill-requires-clause-x_most c = (unit_triangle (value c.args.x) (value c.args.y) c.requires.first c.requires.second c.requires.third).1

pub fill-requires-clause-y_least : goal.fill-requires-clause-y_least
fill-requires-clause-y_least c = (unit_triangle (value c.args.x) (value c.args.y) c.requires.first c.requires.second c.requires.third).2

pub fill-requires-clause-y_most : goal.fill-requires-clause-y_most
fill-requires-clause-y_most c = (unit_triangle (value c.args.x) (value c.args.y) c.requires.first c.requires.second c.requires.third).3

-- the crossings of what was prepared are those of the word in the triangle
are : (w : List ℕ) (x y : Written) (prepared : PreparedWord) (items crossings : List Crossing) → prepared.word ≡ w → prepared.point ≡ Some (x, y)
    → crossings ≡ items → IfSome prepared.point (λ p. AreCrossings prepared.word (value p.0) (value p.1) items) → AreCrossings w (value x) (value y) crossings
are w x y prepared items crossings word point same found =
    let at : AreCrossings prepared.word (value x) (value y) items =
    subst (λ (q : Option (Written × Written)). IfSome q (λ p. AreCrossings prepared.word (value p.0) (value p.1) items)) point found in
    subst₂ (λ (v : List ℕ) (cs : List Crossing). AreCrossings v (value x) (value y) cs) word (sym same) at

pub returns-clause-path : goal.returns-clause-path
returns-clause-path c =
    let word = c.fill.ensures.word ∙ c.in_ok-prepared.ensures.word in
    c.path_over.ensures.path c.args.word.now (value c.args.x) (value c.args.y) (subst (λ (w : List ℕ). IsWord w) word c.in_ok-crossings.ensures.word)
    (subst (λ (w : List ℕ). IsStable w) c.in_ok-prepared.ensures.word c.in_ok-prepared.ensures.stable)
    (are c.args.word.now c.args.x c.args.y c.fill.new.self c.in_ok-crossings.crossings.items c.deref.result.now word c.fill.ensures.point c.deref.ensures.value
    c.in_ok-crossings.ensures.crossings)

pub returns-clause-not_shown : goal.returns-clause-not_shown
returns-clause-not_shown c = λ refused.
    let word = c.fill.ensures.word ∙ c.in_ok-prepared.ensures.word in
    c.path_over.ensures.not_shown refused c.args.word.now (value c.args.x) (value c.args.y)
    (are c.args.word.now c.args.x c.args.y c.fill.new.self c.in_ok-crossings.crossings.items c.deref.result.now word c.fill.ensures.point c.deref.ensures.value
    c.in_ok-crossings.ensures.crossings)
