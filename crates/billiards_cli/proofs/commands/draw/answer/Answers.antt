use Rattle.std.proofs.Common.{List, [], refl, ap, count_by, arith}
use Rattle.std.proofs.KnownBytes.{Appends-nil}
use Rattle.covering_file.specs.TreeFile.{IsTreeFile, tree_file_text}
use Rattle.covering_file.specs.declared.TheConstants.{MAX_NODES}
use Rattle.covering_file.specs.declared.node.Node.{Node}
use Rattle.svg_pictures.specs.CoveringPicture.{is_drawn, covering_picture}
use Rattle.billiards_cli.specs.Commands.Draw.{DrawsCovering, OverfillsDrawing}
use Rattle.billiards_cli.specs.declared.status.Status.TheVariants.{Done, Full}
use Rattle.billiards_cli.proofs.DrawAnswers.{draw_answer}
use Rattle.billiards_cli.proofs.Serving.{served}
use Rattle.billiards_cli.proofs.WholeFiles.{is_file_text}
use Rattle.billiards_cli.proofs.commands.draw.answer.Goals as goal

pub returns-then-drawn_leaves-gt-MAX_DRAWN-clause-serves : goal.returns-then-drawn_leaves-gt-MAX_DRAWN-clause-serves
returns-then-drawn_leaves-gt-MAX_DRAWN-clause-serves g c = λ left left' faults faults' may_be ended stood.
    let f = c.args.tree.now in
    let is : IsTreeFile MAX_NODES f = c.requires in
    let counted = ap (λ (ns : List Node). count_by is_drawn ns) is.nodes in
    let right : OverfillsDrawing (tree_file_text f) [] = record {
      heading = f.heading;
      tree = is.tree;
      file = is_file_text f is;
      many = omega (arith, counted, c.drawn_leaves.ensures, c.if-drawn_leaves-gt-MAX_DRAWN.true);
      text_is = refl;
    } in
    record {
      leaves = record {
        text = [];
        answer = draw_answer left left' (tree_file_text f) Full [] may_be right ended;
        written = Appends-nil (g.K.Sink.written c.args.out.now);
      };
      counts = (stood, refl);
    }

pub returns-clause-serves : goal.returns-clause-serves
returns-clause-serves g c = λ left left' faults faults' may_be ended stood.
    let f = c.args.tree.now in
    let is : IsTreeFile MAX_NODES f = c.requires in
    let text = covering_picture f.heading is.tree in
    let counted = ap (λ (ns : List Node). count_by is_drawn ns) is.nodes in
    let right : DrawsCovering (tree_file_text f) text = record {
      heading = f.heading;
      tree = is.tree;
      file = is_file_text f is;
      few = omega (arith, counted, c.drawn_leaves.ensures, c.if-drawn_leaves-gt-MAX_DRAWN.false);
      text_is = refl;
    } in
    served _ _ _ Done _ text c.write_covering.result tt (draw_answer left left' (tree_file_text f) Done text may_be right ended) stood
    (c.write_covering.ensures.text is.tree is.nodes) c.write_covering.ensures.cause c.after_writing.ensures.after
