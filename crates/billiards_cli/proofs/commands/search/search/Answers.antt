use Rattle.std.proofs.Common.{[], refl}
use Rattle.billiards_cli.specs.Commands.Search.{ShowsWords, search_text}
use Rattle.billiards_cli.specs.declared.status.Status.TheVariants.{Done, OutOfMemory}
use Rattle.billiards_cli.proofs.SearchAnswers.{found_at_triangle, search_answer}
use Rattle.billiards_cli.proofs.Serving.{served}
use Rattle.billiards_cli.proofs.commands.search.search.Goals as goal

pub returns-in-Ok-clause-serves : goal.returns-in-Ok-clause-serves
returns-in-Ok-clause-serves g c = λ left faults.
    let words = c.as_slice.result.now in
    let right : ShowsWords c.args.triangle.now c.args.bound.now (search_text words) = record {
      words = words;
      result = found_at_triangle c.first.result c.second.result c.args.triangle.now c.get.result c.args.bound.now c.in-Ok.words.items words
          c.first.ensures.angle c.second.ensures.angle c.get.ensures.value c.as_slice.ensures.value c.in-Ok.ensures;
      text_is = refl;
    } in
    served _ _ _ Done _ (search_text words) c.write_list.result tt
    (search_answer c.args.triangle.now c.args.bound.now left Done (search_text words) right) refl
    c.write_list.ensures.text c.write_list.ensures.cause c.after_writing.ensures.after

pub returns-in-Err-clause-serves : goal.returns-in-Err-clause-serves
returns-in-Err-clause-serves g c = λ left faults.
    record {
      leaves = record { answer = search_answer c.args.triangle.now c.args.bound.now left OutOfMemory [] refl; unwritten = refl };
      counts = (refl, refl);
    }
