use Rattle.std.proofs.Common.{◌≡◌, ◌-◌, ◌∙◌, ◌≤◌, List, ℕ, length, take, drop, sym, ap, arith}
use Rattle.std.proofs.lemmas.List.{take_rest}
use Rattle.mcb_ends.proofs.Handed.{left_is_handed}
use Rattle.mcb_ends.proofs.unread.Unread.hand_out.Goals as goal

pub returns-clause-bytes : goal.returns-clause-bytes
returns-clause-bytes c =
    let inside = c.self.inside in
    let bytes = inside.bytes.items in
    let count = c.min-count.result in
    let copied = c.copy_from_slice.new.self in
    let view : drop inside.at bytes ≡ c.args.self.now = c.self.view_is in
    let value : c.deref.result.now ≡ bytes = c.deref.ensures.value in
    let rest : take (length c.deref.result.now - inside.at) (drop inside.at c.deref.result.now) ≡ drop inside.at bytes =
    take_rest c.deref.result.now inside.at ∙ ap (λ (xs : List ℕ). drop inside.at xs) value in
    let copy : copied ≡ take count (drop inside.at bytes) = c.copy_from_slice.ensures.after ∙ ap (λ (xs : List ℕ). take count xs) rest in
    let fits : count ≤ length (drop inside.at bytes) = omega (arith, c.min-count.ensures, ap length rest) in
    sym view ∙ left_is_handed bytes copied (drop count c.args.buf.now) inside.at count copy fits
