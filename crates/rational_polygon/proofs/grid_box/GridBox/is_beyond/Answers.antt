use Rattle.std.proofs.Common.{◌≡◌, true, Bool, inl, inr, ℕ, ◌+◌, arith}
use Rattle.std.specs.Prelude.{◌⊎◌, ◌↔◌, IsTrue}
use Rattle.rational_polygon.proofs.grid_box.GridBox.is_beyond.Goals as goal

-- two more cases, where the first two are out of the question
two_more : {A B C D : Type 0} (r : Bool) → ((A ⊎ B) → ⊥) → (IsTrue r ↔ (C ⊎ D)) → IsTrue r ↔ (A ⊎ B ⊎ C ⊎ D)
two_more {A} {B} {C} {D} r none is = (λ h. later (is.0 h), back)
  where
    later : C ⊎ D → A ⊎ B ⊎ C ⊎ D
    later (inl h) = inr (inr (inl h))
    later (inr h) = inr (inr (inr h))

    back : (A ⊎ B ⊎ C ⊎ D) → IsTrue r
    back (inl h) = absurd (none (inl h))
    back (inr (inl h)) = absurd (none (inr h))
    back (inr (inr h)) = is.1 h

plus_zero : (n : ℕ) → n + 0 ≡ n
plus_zero n = omega arith

pub returns-else-is_beyond_across : goal.returns-else-is_beyond_across
returns-else-is_beyond_across c =
    let across = rw (c.grid-grid.ensures.value, c.corners-corners.ensures.all) at c.is_beyond_across.ensures in
    let up = rw (c.grid-grid.ensures.value, c.corners-corners.ensures.all) at c.is_beyond_up.ensures in
    rw (← c.self.view_is)
    (simp plus_zero (two_more c.is_beyond_up.result (λ h. let t : c.is_beyond_across.result ≡ true = across.1 h in absurd (cc)) up))
