use Rattle.std.proofs.Common.{◌≡◌, ◌+◌, ◌-◌, ◌≤◌, List, ℕ, length, drop, sym, ap, ◌∙◌, arith, length-take}
use Rattle.std.specs.List.{slice_range}
use Rattle.mcb_ends.proofs.Ranges.{drop-slice_range}
use Rattle.mcb_ends.specs.Reader.{Reader}
use Rattle.mcb_ends.proofs.line_reader.LineReader.take_line.Goals as goal

pub returns-clause-held : goal.returns-clause-held
returns-clause-held c =
    let inside = c.self.inside in
    let held : slice_range inside.bytes inside.start inside.end ≡ c.args.self.now.held = ap (λ (reader : Reader). reader.held) c.self.view_is in
    let before : inside.start + c.args.len + 1 ≤ inside.end = omega
    (arith, ap length held, length-take (inside.end - inside.start) (drop inside.start inside.bytes), c.requires.room) in
    sym (drop-slice_range inside.bytes inside.start inside.end (c.args.len + 1) (inside.start + c.args.len + 1) (omega arith) before)
    ∙ ap (λ (xs : List ℕ). drop (c.args.len + 1) xs) held
