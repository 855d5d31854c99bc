use Rattle.std.proofs.Common.{◌≤◌, List, [], ℕ, length, Err, refl, sym, ap, ◌∙◌, subst, subst₂}
use Rattle.std.proofs.KnownBytes.{Appends-nil}
use Rattle.covering_file.specs.CornerForms.{word_form}
use Rattle.orbit_tile.specs.Tile.{IsTile, IsFull}
use Rattle.orbit_tile.specs.declared.TheConstants.{MAX_PATCHES}
use Rattle.orbit_tile.specs.declared.fault.TileFault.{TileFault}
use Rattle.orbit_tile.specs.declared.patch.Patch.{Patch}
use Rattle.svg_pictures.specs.TilePicture.{tile_text}
use Rattle.billiards_cli.specs.Commands.At.{AtWantsMemory}
use Rattle.billiards_cli.specs.Commands.Tile.{HasTile, DrawsTile, OverfillsTile}
use Rattle.billiards_cli.specs.Refusals.{argument_text, RefusesArgument}
use Rattle.billiards_cli.specs.declared.status.Status.TheVariants.{Done, Malformed, OutOfMemory, Full}
use Rattle.billiards_cli.proofs.Serving.{served}
use Rattle.billiards_cli.proofs.TileAnswers.{tile_answer}
use Rattle.billiards_cli.proofs.commands.tile.tile.Goals as goal

pub returns-in-Ok-tile-clause-serves : goal.returns-in-Ok-tile-clause-serves
returns-in-Ok-tile-clause-serves g c = λ left faults.
    let patches = c.as_slice.result.now in
    let same = sym c.as_slice.ensures.value in
    let drawn : HasTile c.in-Ok.word c.args.depth.now = record {
      patches = patches;
      tile = subst₂ (λ (depth : ℕ) (ps : List Patch). IsTile c.in-Ok.word depth ps) c.get.ensures.value same c.in-Ok-tile.ensures.tile;
      within = subst (λ (ps : List Patch). length ps ≤ MAX_PATCHES) same c.in-Ok-tile.ensures.within;
    } in
    let right : DrawsTile c.args.argument.now c.args.depth.now (tile_text patches) = record {
      word = c.in-Ok.word;
      spells = record { is_word = c.in-Ok.ensures.0.word; digits = c.in-Ok.ensures.1 };
      stable = c.in-Ok.ensures.0.stable;
      drawn = drawn;
      text_is = refl;
    } in
    served _ _ _ Done _ (tile_text patches) c.write_tile.result tt
    (tile_answer c.args.argument.now c.args.depth.now left Done (tile_text patches) right) refl
    c.write_tile.ensures.text c.write_tile.ensures.cause c.after_writing.ensures.after

pub returns-in-Err-Full-clause-serves : goal.returns-in-Err-Full-clause-serves
returns-in-Err-Full-clause-serves g c = λ left faults.
    let right : OverfillsTile c.args.argument.now c.args.depth.now [] = record {
      word = c.in-Ok.word;
      spells = record { is_word = c.in-Ok.ensures.0.word; digits = c.in-Ok.ensures.1 };
      stable = c.in-Ok.ensures.0.stable;
      full = subst (λ (depth : ℕ). IsFull c.in-Ok.word depth MAX_PATCHES) c.get.ensures.value
          (c.tile.ensures.full (c.in-Err-Full.is ∙ ap (λ (e : TileFault). Err e) c.in-Err-Full.field-0-is));
      text_is = refl;
    } in
    record {
      leaves = record {
        text = [];
        answer = tile_answer c.args.argument.now c.args.depth.now left Full [] right;
        written = Appends-nil (g.K.Sink.written c.args.out.now);
      };
      counts = (refl, refl);
    }

pub returns-in-Ok-clause-serves : goal.returns-in-Ok-clause-serves
returns-in-Ok-clause-serves g c = λ left faults.
    let right : AtWantsMemory c.args.argument.now [] = record {
      word = c.in-Ok.word;
      spells = record { is_word = c.in-Ok.ensures.0.word; digits = c.in-Ok.ensures.1 };
      stable = c.in-Ok.ensures.0.stable;
      text_is = refl;
    } in
    record {
      leaves = record { answer = tile_answer c.args.argument.now c.args.depth.now left OutOfMemory [] right; unwritten = refl };
      counts = (refl, refl);
    }

pub returns-clause-serves : goal.returns-clause-serves
returns-clause-serves g c = λ left faults.
    let text = argument_text c.in-Err.reason in
    let right : RefusesArgument word_form c.args.argument.now text = record { reason = c.in-Err.reason; refused = c.in-Err.ensures; named = refl } in
    served _ _ _ Malformed _ text c.write_argument_refusal.result tt
    (tile_answer c.args.argument.now c.args.depth.now left Malformed text right) refl
    c.write_argument_refusal.ensures.text c.write_argument_refusal.ensures.cause c.after_writing-in-Err.ensures.after
