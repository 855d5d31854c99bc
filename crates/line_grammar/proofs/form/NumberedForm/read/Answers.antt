use Rattle.std.proofs.Common.{◌≡◌, ◌≤◌, ℕ, subst, arith, List}
use Rattle.line_grammar.specs.Text.{IsTwoFields}
use Rattle.line_grammar.proofs.NamedNumbers.{same_name, differs, other_name, number_not_read}
use Rattle.line_grammar.proofs.form.NumberedForm.read.Goals as goal

pub returns-then-ne : goal.returns-then-ne
returns-then-ne c =
    other_name c.args.line.now c.args.self.now.name.now c.in-Some.name.now c.in-Some.number.now c.in-Some.ensures.found
    (differs c.args.self.now.name.now c.in-Some.name.now c.ne.result c.ne.ensures c.if-ne.true)

pub returns-in_default-read_decimal : goal.returns-in_default-read_decimal
returns-in_default-read_decimal c =
    let line = c.args.line.now in
    let name = c.args.self.now.name.now in
    let number = c.in-Some.number.now in
    let fields : IsTwoFields line name number = subst (λ (n : List ℕ). IsTwoFields line n number)
    (same_name name c.in-Some.name.now c.ne.result c.ne.ensures c.if-ne.false) c.in-Some.ensures.found in
    let low : c.args.self.now.low ≤ c.in-Some-read_decimal.number → ⊥ = λ at_least. omega (arith, at_least, c.if-number-self.false) in (
      (number, fields),
      number_not_read line name number c.read_decimal.result c.args.self.now.low c.args.self.now.high fields c.read_decimal.ensures.some
          (λ n is at_least. let same : n ≡ c.in-Some-read_decimal.number = cc in low (subst (λ m. c.args.self.now.low ≤ m) same at_least)),
    )

pub returns-in_default-read_decimal-2 : goal.returns-in_default-read_decimal-2
returns-in_default-read_decimal-2 c =
    let line = c.args.line.now in
    let name = c.args.self.now.name.now in
    let number = c.in-Some.number.now in
    let fields : IsTwoFields line name number = subst (λ (n : List ℕ). IsTwoFields line n number)
    (same_name name c.in-Some.name.now c.ne.result c.ne.ensures c.if-ne.false) c.in-Some.ensures.found in
    let unread = c.in_default-read_decimal.is in (
      (number, fields),
      number_not_read line name number c.read_decimal.result c.args.self.now.low c.args.self.now.high fields c.read_decimal.ensures.some
          (λ n is at_least. cc),
    )
