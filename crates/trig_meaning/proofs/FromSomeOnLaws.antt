-- What holds from some n on.
use Rattle.std.proofs.Common.{ℕ, max, arith}
use Rattle.trig_meaning.specs.FromSomeOn.{FromSomeOn}

pub always : {P : ℕ → Type 0} → ((n : ℕ) → P n) → FromSomeOn P
always f = (0, λ n _. f n)

-- a consequence holds from the same n on
pub onward : {P Q : ℕ → Type 0} → ((n : ℕ) → P n → Q n) → FromSomeOn P → FromSomeOn Q
onward f h = (h.0, λ n l. f n (h.1 n l))

-- two facts hold together from the greater start on
pub onward_both : {P Q R : ℕ → Type 0} → ((n : ℕ) → P n → Q n → R n) → FromSomeOn P → FromSomeOn Q → FromSomeOn R
onward_both f h k = (max h.0 k.0, λ n l. f n (h.1 n (omega arith)) (k.1 n (omega arith)))

-- a fact that holds from some n on holds somewhere
pub somewhere : {P : ℕ → Type 0} → FromSomeOn P → (n : ℕ) × P n
somewhere h = (h.0, h.1 h.0 (omega arith))
