use Rattle.std.proofs.Common.{◌≡◌, ◌-◌, ◌<◌, length, drop, ap, ◌∙◌, arith, length-take}
use Rattle.std.proofs.lemmas.List.{length-drop}
use Rattle.std.specs.List.{slice_range}
use Rattle.mcb_ends.specs.Reader.{Reader}
use Rattle.mcb_ends.proofs.Filling.{Fills-read}
use Rattle.mcb_ends.proofs.line_reader.LineReader.fill.Goals as goal

pub returns-clause-bytes : goal.returns-clause-bytes
returns-clause-bytes g c =
    let left = g.S.Source.left in
    let inside = c.self.inside in
    let filled = c.read_after.new.buf in
    let read = c.in_ok-count.ensures in
    let held : slice_range inside.bytes inside.start inside.end ≡ c.args.self.now.held = ap (λ (reader : Reader). reader.held) c.self.view_is in
    let size : length filled ≡ 4096 = c.read_after.ensures.len ∙ c.copy_within.ensures.len ∙ c.self.told in
    let room : 0 < length (drop (inside.end - inside.start) filled) = omega (
      arith,
      size,
      length-drop (inside.end - inside.start) filled,
      ap length held,
      length-take (inside.end - inside.start)
          (drop inside.start inside.bytes),
      length-drop inside.start inside.bytes,
      c.requires,
    ) in
    Fills-read c.args.self.now.held inside.bytes c.copy_within.new.self filled inside.start inside.end c.in_ok-count.count (left c.args.src.now)
    (left c.read_after.new.src) held (omega arith) (omega arith) c.copy_within.ensures.after read.front
    (omega (arith, size, read.bound)) read.bytes.0 (λ none. read.bytes.1 none room)
