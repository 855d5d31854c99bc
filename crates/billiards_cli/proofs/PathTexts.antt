-- The lines of bounces, one after the other.
use Rattle.std.proofs.Common.{◌≡◌, sym, ap, ◌∙◌, subst, ℕ, zero, suc, ◌+◌, ◌<◌, List, [], ◌∷◌, ◌++◌, length, take, drop, get_or, append_assoc, arith}
use Rattle.std.proofs.KnownBytes.{Appends-trans}
use Rattle.std.proofs.lemmas.List.{append-nil}
use Rattle.std.specs.Io.KnownBytes.{Appends}
use Rattle.std.specs.declared.option.Option.{Option}
use Rattle.mcb_ends.specs.Bytes.{AppendsPrefix}
use Rattle.mcb_ends.proofs.Written.{AppendsPrefix-begun, AppendsPrefix-then}
use Rattle.bounce_path.specs.declared.bounce.Bounce.{Bounce}
use Rattle.billiards_cli.specs.Commands.Path.{bounce_line, bounce_lines}

-- a bounce that no fact speaks of
abbrev pub blank : Bounce
blank = record { edge = 0; low = 0; high = 0 }

-- the lines before a bounce, its own, and those behind it
lines_split : (k : ℕ) (bs : List Bounce) (i : ℕ) → i < length bs
    → bounce_lines k bs ≡ bounce_lines k (take i bs) ++ (bounce_line (i + k) (get_or bs i blank) ++ bounce_lines (suc i + k) (drop (suc i) bs))
lines_split k [] i within = absurd (omega (arith, within))
lines_split k (b ∷ bs) zero within =
    let here : k ≡ 0 + k = omega arith in
    let next : k + 1 ≡ 1 + k = omega arith in
    ap (λ (n : ℕ). bounce_line k b ++ bounce_lines n bs) next ∙ ap (λ (n : ℕ). bounce_line n b ++ bounce_lines (1 + k) bs) here
lines_split k (b ∷ bs) (suc i) within =
    let rest = lines_split (k + 1) bs i (omega (arith, within)) in
    let here : i + (k + 1) ≡ suc i + k = omega arith in
    let next : suc i + (k + 1) ≡ suc (suc i) + k = omega arith in
    let behind = ap (λ (n : ℕ). bounce_lines (k + 1) (take i bs) ++ (bounce_line n (get_or bs i blank)
    ++ bounce_lines (suc i + (k + 1)) (drop (suc i) bs))) here
    ∙ ap (λ (n : ℕ). bounce_lines (k + 1) (take i bs) ++ (bounce_line (suc i + k) (get_or bs i blank) ++ bounce_lines n (drop (suc i) bs))) next in
    ap (λ (text : List ℕ). bounce_line k b ++ text) (rest ∙ behind)
    ∙ sym (append_assoc (bounce_line k b) (bounce_lines (k + 1) (take i bs)) (bounce_line (suc i + k) (get_or bs i blank)
    ++ bounce_lines (suc (suc i) + k) (drop (suc i) bs)))

-- the lines of one bounce more
lines_more : (k : ℕ) (bs : List Bounce) (i : ℕ) → i < length bs
    → bounce_lines k (take (suc i) bs) ≡ bounce_lines k (take i bs) ++ bounce_line (i + k) (get_or bs i blank)
lines_more k [] i within = absurd (omega (arith, within))
lines_more k (b ∷ bs) zero within =
    let here : k ≡ 0 + k = omega arith in
    append-nil (bounce_line k b) ∙ ap (λ (n : ℕ). bounce_line n b) here
lines_more k (b ∷ bs) (suc i) within =
    let rest = lines_more (k + 1) bs i (omega (arith, within)) in
    let here : i + (k + 1) ≡ suc i + k = omega arith in
    ap (λ (text : List ℕ). bounce_line k b ++ text)
    (rest ∙ ap (λ (n : ℕ). bounce_lines (k + 1) (take i bs) ++ bounce_line n (get_or bs i blank)) here)
    ∙ sym (append_assoc (bounce_line k b) (bounce_lines (k + 1) (take i bs)) (bounce_line (suc i + k) (get_or bs i blank)))

pub lines_appended : (a b c : Option (List ℕ)) (bs : List Bounce) (i : ℕ) → i < length bs → Appends a b (bounce_lines 1 (take i bs))
    → Appends b c (bounce_line (i + 1) (get_or bs i blank)) → Appends a c (bounce_lines 1 (take (i + 1) bs))
lines_appended a b c bs i within first second =
    let one_more : suc i ≡ i + 1 = omega arith in
    subst (λ (n : ℕ). Appends a c (bounce_lines 1 (take n bs))) one_more
    (subst (λ (text : List ℕ). Appends a c text) (sym (lines_more 1 bs i within))
    (Appends-trans a b c (bounce_lines 1 (take i bs)) (bounce_line (i + 1) (get_or bs i blank)) first second))

pub lines_begun : (a b c : Option (List ℕ)) (bs : List Bounce) (i : ℕ) → i < length bs → Appends a b (bounce_lines 1 (take i bs))
    → AppendsPrefix b c (bounce_line (i + 1) (get_or bs i blank)) → AppendsPrefix a c (bounce_lines 1 bs)
lines_begun a b c bs i within first second =
    let line = bounce_line (i + 1) (get_or bs i blank) in
    let behind = bounce_lines (suc i + 1) (drop (suc i) bs) in
    subst (λ (text : List ℕ). AppendsPrefix a c text) (sym (lines_split 1 bs i within))
    (AppendsPrefix-then a b c (bounce_lines 1 (take i bs)) (line ++ behind) first (AppendsPrefix-begun b c line behind second))
