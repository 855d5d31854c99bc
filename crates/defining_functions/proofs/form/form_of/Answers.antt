use Rattle.std.proofs.Common.{◌≡◌, pos, subst, IfOk}
use Rattle.exp_sums.specs.FormalPoint.{monomial, ◌*ₚ◌}
use Rattle.exp_sums.specs.SineForm.{sine_form}
use Rattle.defining_functions.proofs.Steps.{lone_in_limits, lone_is, light_form, near_form, direction_form_limits, if_ok_limits}
use Rattle.defining_functions.proofs.form.form_of.Goals as goal

pub add_dir-requires : goal.add_dir-requires
add_dir-requires c = lone_in_limits c.new-way.result c.args.dir c.new-way.ensures c.requires.near

pub times-requires-clause-light : goal.times-requires-clause-light
times-requires-clause-light c =
    let is = lone_is c.new-way.result c.add_dir.new.self c.args.dir c.new-way.ensures c.in_ok-add_dir.ensures.ok in
    light_form c.args.conjugate.now c.add_dir.new.self c.args.dir c.requires.conjugate c.requires.near is

pub times-requires-clause-near : goal.times-requires-clause-near
times-requires-clause-near c =
    let is = lone_is c.new-way.result c.add_dir.new.self c.args.dir c.new-way.ensures c.in_ok-add_dir.ensures.ok in
    near_form c.args.conjugate.now c.add_dir.new.self c.args.dir c.requires.conjugate c.requires.near is

-- the form, from the product
form_is : (c : goal.Joined-way-3) → IfOk c.sine_form.result (λ f. f ≡ sine_form (c.args.conjugate.now *ₚ monomial (pos 1) c.args.dir))
form_is c =
    let is = lone_is c.new-way.result c.add_dir.new.self c.args.dir c.new-way.ensures c.in_ok-add_dir.ensures.ok in
    subst (λ z. IfOk c.sine_form.result (λ f. f ≡ sine_form (c.args.conjugate.now *ₚ z))) is
    (subst (λ z. IfOk c.sine_form.result (λ f. f ≡ sine_form z)) c.in_ok-product.ensures c.sine_form.ensures)

pub returns-clause-is : goal.returns-clause-is
returns-clause-is c = form_is c

pub returns-clause-limits : goal.returns-clause-limits
returns-clause-limits c =
    if_ok_limits c.sine_form.result (sine_form (c.args.conjugate.now *ₚ monomial (pos 1) c.args.dir)) (form_is c)
    (direction_form_limits c.args.conjugate.now c.args.dir c.requires.conjugate c.requires.near)
