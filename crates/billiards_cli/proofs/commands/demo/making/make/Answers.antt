use Rattle.std.proofs.Common.{◌≡◌, ◌∙◌, List, ℕ, subst}
use Rattle.mcb_ends.specs.MemSink.{sink_bytes}
use Rattle.mcb_ends.specs.SureSource.{sure_left}
use Rattle.covering_file.specs.declared.TheConstants.{MAX_NODES}
use Rattle.cover_checker.specs.Verdicts.{IsRight}
use Rattle.billiards_cli.proofs.commands.demo.making.make.Goals as goal

pub returns : goal.returns
returns c =
    let covers = c.in_ok-size.ensures.covered in
    let written : sink_bytes c.cover_generated.new.out ≡ covers.0 = cc in
    let copied = c.in_ok-to_vec.ensures.items_if_clones_equal (λ x y same. same) in
    let read : sure_left c.new-src.result ≡ covers.0 = c.new-src.ensures ∙ copied ∙ c.bytes.ensures ∙ written in
    record {
      is_number = c.in_ok-size.ensures.is_number;
      file = covers.0;
      cover = covers.2;
      right = subst (λ (xs : List ℕ). IsRight MAX_NODES xs c.in_ok-verdict.verdict) read c.in_ok-verdict.ensures;
    }
