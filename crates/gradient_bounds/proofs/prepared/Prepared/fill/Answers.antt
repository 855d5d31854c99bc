use Rattle.std.proofs.Common.{◌≡◌, ◌∙◌, sym, ap, subst, subst₂, length, map, take, drop, ◌++◌, List, ℕ, arith}
use Rattle.std.proofs.lemmas.List.{take_at, length-map}
use Rattle.std.specs.List.{All}
use Rattle.gradient_bounds.specs.declared.sine_low.SineLow.{SineLow}
use Rattle.gradient_bounds.specs.Table.{IsRising, IsTableOf}
use Rattle.gradient_bounds.specs.HeightSums.{IsHeightSums, dirs_of}
use Rattle.gradient_bounds.specs.Kept.{IsSmallEntry, AreUppers, AreLowers}
use Rattle.gradient_bounds.proofs.Placing.{count_of_dirs}
use Rattle.gradient_bounds.proofs.Tests.{same_table, filled_again}
use Rattle.gradient_bounds.proofs.prepared.Prepared.fill.Goals as goal

-- what `number` asks of the table that was filled
filled_rising : (w : List ℕ) (old new seen rest : List SineLow) (n : ℕ) → map (λ (e : SineLow). e.dir) new ≡ map (λ (e : SineLow). e.dir) old → IsTableOf w old
    → length old ≡ n → seen ≡ take n (new ++ rest) → IsRising seen
filled_rising w old new seen rest n same table count is =
    let len : length new ≡ n =
    omega (arith, sym (length-map new (λ (e : SineLow). e.dir)), ap length same, length-map old (λ (e : SineLow). e.dir), count) in
    subst IsRising (sym (is ∙ take_at new rest n len)) (same_table w old new same table).rising

filled_small : (old new seen rest : List SineLow) (n : ℕ) → map (λ (e : SineLow). e.dir) new ≡ map (λ (e : SineLow). e.dir) old
    → length old ≡ n → All IsSmallEntry new → seen ≡ take n (new ++ rest) → All IsSmallEntry seen
filled_small old new seen rest n same count small is =
    let len : length new ≡ n =
    omega (arith, sym (length-map new (λ (e : SineLow). e.dir)), ap length same, length-map old (λ (e : SineLow). e.dir), count) in
    subst (All IsSmallEntry) (sym (is ∙ take_at new rest n len)) small

pub number-requires-clause-rising : goal.number-requires-clause-rising
number-requires-clause-rising g c =
    let i = c.self.inside in
    filled_rising i.word i.table.items c.fill.new.table c.deref.result.now _ i.table.len
    (c.fill.ensures.directions ∙ ap (λ (es : List SineLow). map (λ (e : SineLow). e.dir) es) c.deref_mut.ensures.value)
    c.self.invariant.directions (sym i.table.ok.0) c.deref.ensures.value

pub number-requires-clause-small : goal.number-requires-clause-small
number-requires-clause-small g c =
    let i = c.self.inside in
    filled_small i.table.items c.fill.new.table c.deref.result.now _ i.table.len
    (c.fill.ensures.directions ∙ ap (λ (es : List SineLow). map (λ (e : SineLow). e.dir) es) c.deref_mut.ensures.value)
    (sym i.table.ok.0) c.fill.ensures.small c.deref.ensures.value

pub number-requires-clause-sums : goal.number-requires-clause-sums
number-requires-clause-sums g c =
    let i = c.self.inside in
    let same : dirs_of c.fill.new.table ≡ dirs_of i.table.items = c.fill.ensures.directions ∙ ap dirs_of c.deref_mut.ensures.value in
    let len : length c.fill.new.table ≡ i.table.len =
    omega (arith, sym (count_of_dirs c.fill.new.table), ap length same, count_of_dirs i.table.items, i.table.ok.0) in
    let table_is = take_at c.fill.new.table (drop (length c.fill.new.table) i.table.items) i.table.len len in
    subst₂ (λ f dirs. IsHeightSums f dirs i.sums) (sym c.self.invariant.same_word) (sym same ∙ sym (ap dirs_of (c.deref.ensures.value ∙ table_is)))
    c.self.invariant.sums

pub invariant_of-self : goal.invariant_of-self
invariant_of-self g c =
    let i = c.self.inside in
    let dirs = λ (es : List SineLow). map (λ (e : SineLow). e.dir) es in
    let same : dirs c.fill.new.table ≡ dirs i.table.items = c.fill.ensures.directions ∙ ap dirs c.deref_mut.ensures.value in
    let len : length c.fill.new.table ≡ i.table.len =
    omega (
      arith,
      sym (length-map c.fill.new.table (λ (e : SineLow). e.dir)),
      ap length same,
      length-map i.table.items (λ
          (e : SineLow). e.dir),
      i.table.ok.0,
    ) in
    let table_is = take_at c.fill.new.table (drop (length c.fill.new.table) i.table.items) i.table.len len in
    let us_len : length c.number.new.uppers ≡ i.uppers.len =
    omega (arith, c.number.ensures.uppers.count, ap length c.self.invariant.same_word, c.self.invariant.uppers.count, i.uppers.ok.0) in
    let ls_len : length c.number.new.lowers ≡ i.lowers.len =
    omega (arith, c.number.ensures.lowers.count, ap length c.self.invariant.same_word, c.self.invariant.lowers.count, i.lowers.ok.0) in
    let us_is = take_at c.number.new.uppers (drop (length c.number.new.uppers) i.uppers.items) i.uppers.len us_len in
    let ls_is = take_at c.number.new.lowers (drop (length c.number.new.lowers) i.lowers.items) i.lowers.len ls_len in
    filled_again g.S.Scale.BITS i.word i.functions i.sums c.number.new.self i.point i.table.items c.fill.new.table _ i.uppers.items i.lowers.items
    c.number.new.uppers c.number.new.lowers _ _ c.args.x c.args.y c.self.invariant same
    c.fill.ensures.lows
    c.fill.ensures.small
    (subst (λ es. AreUppers i.functions es c.number.new.uppers) (c.deref.ensures.value ∙ table_is) c.number.ensures.uppers)
    (subst (λ es. AreLowers i.functions es c.number.new.lowers) (c.deref.ensures.value ∙ table_is) c.number.ensures.lowers)
    table_is us_is ls_is
    (subst (λ es. IsHeightSums i.functions (dirs_of es) c.number.new.self) (c.deref.ensures.value ∙ table_is) c.number.ensures.sums)
